use Rattle.std.proofs.Common.{◌≡◌, sym, ◌∙◌}
use Rattle.model_tree.specs.Tree as tree
use Rattle.model_tree.specs.Views.{function_of}
use Rattle.check_statements.specs.ModelRules.Scopes.{Scope}
use Rattle.check_statements.specs.CheckNames.Places.{scope_of}
use Rattle.check_items.specs.Whole.{in_function, item_fault}
use Rattle.check_items.proofs.ItemLemmas.{function_is}
use Rattle.check_items.proofs.Walked.{found_by, if_ok}
use Rattle.check_items.proofs.items.function_finding.Goals as goal

pub returns : goal.returns
returns c =
    let s : Scope = scope_of c.args.place in
    let f : tree.FunctionItem = function_of c.args.function.now in
    let same : in_function f (record s { answer = f.answer }) ≡ item_fault s (tree.function c.args.line f) = sym (function_is s c.args.line f) in
    if_ok c.in_function.result (λ found w. found_by (in_function f (record s { answer = f.answer })) _ _ found w ∙ same) c.in_function.ensures
