use Rattle.std.proofs.Common.{List, Option, sym, subst}
use Rattle.std.specs.Prelude.{option_map}
use Rattle.model_tree.specs.Views.{expression_of}
use Rattle.flat_design.specs.Code as code
use Rattle.code_deeds.specs.ModelRules.Meanings.{variable_type}
use Rattle.laws_code.proofs.Plain.{NoneHasBlocks, Only, var_plain}
use Rattle.check_statements.specs.CheckNames.Places.{scope_of}
use Rattle.code_blocks.proofs.Results.{on_all}
use Rattle.code_blocks.proofs.Sees.{as_coded}
use Rattle.code_blocks.proofs.leaves.lay_local.Goals as goal

pub lay_deed-requires-clause-plain : goal.lay_deed-requires-clause-plain
lay_deed-requires-clause-plain c =
    subst (λ (fs : Option (List code.Statement)). Only NoneHasBlocks fs) (sym c.in_ok-deed.ensures)
    (var_plain (scope_of c.args.place.now) (variable_type c.args.var_type) (option_map expression_of c.args.value.now))

pub returns-clause-reads : goal.returns-clause-reads
returns-clause-reads c =
    on_all c.declare.result (as_coded c.lay_deed.new.laid c.args.ids.now c.lay_deed.new.ids _ _ c.in_ok-deed.ensures c.in_ok-lay_deed.ensures.reads)
