use Rattle.std.proofs.Common.{List, [], ap, sym, ◌∙◌}
use Rattle.std.proofs.lemmas.Result.{IfOk-weaker}
use Rattle.model_tree.specs.WholeTree.{model_of}
use Rattle.model_tree.specs.Views.{modules_of}
use Rattle.model_tree.specs.declared.items.Module.{Module}
use Rattle.check_statements.specs.Doubled.{in_modules}
use Rattle.check_statements.proofs.Tables.{sites_fault, none_distinct}
use Rattle.check_statements.proofs.whole.double_finding.Goals as goal

pub returns-clause-found : goal.returns-clause-found
returns-clause-found c =
    IfOk-weaker c.in_modules.result _ _
    (λ found h. h ∙ ap (λ (ms : List Module). in_modules (modules_of ms) []) c.as_slice.ensures.value ∙ sym (sites_fault (model_of c.args.tree.now)))
    c.in_modules.ensures

pub returns-clause-distinct : goal.returns-clause-distinct
returns-clause-distinct c =
    IfOk-weaker c.in_modules.result _ _
    (λ found h. none_distinct (model_of c.args.tree.now) found (h ∙ ap (λ (ms : List Module). in_modules (modules_of ms) []) c.as_slice.ensures.value ∙ sym (sites_fault (model_of c.args.tree.now))))
    c.in_modules.ensures
