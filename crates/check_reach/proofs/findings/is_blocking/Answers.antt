use Rattle.std.proofs.Common.{◌||◌, ℕ, Bool, List, sym, ap, ◌∙◌}
use Rattle.std.specs.List.{list_any}
use Rattle.model_tree.specs.Views.{statement_of}
use Rattle.check_expressions.specs.ModelRules.Reach.{is_call_of, blocking_functions}
use Rattle.check_reach.specs.Findings.{is_blocking_name}
use Rattle.check_reach.proofs.JudgeLaws.{called_blocks}
use Rattle.check_expressions.specs.CheckNames.ModuleNames.{items_of}
use Rattle.check_reach.proofs.findings.is_blocking.Goals as goal

pub returns-else-blocks_itself : goal.returns-else-blocks_itself
returns-else-blocks_itself c =
    let items = items_of c.args.names.now in
    let s = statement_of c.args.statement.now in
    c.calls_blocking.ensures ∙ ap (is_blocking_name items) c.called.ensures ∙ called_blocks items s
    ∙ ap (λ (b : Bool). b || list_any (λ (n : List ℕ). is_call_of n s) (blocking_functions items)) (sym c.if-blocks_itself.false ∙ c.blocks_itself.ensures)
