use Rattle.std.specs.Borrow.{Bor}
use Rattle.model_rules.specs.ModelTree.Tree as tree
use Rattle.model_rules.specs.ModelTree.Views.{function_of}
use Rattle.model_rules.specs.ModelTree.declared.items.FunctionItem.{FunctionItem}
use Rattle.model_rules.specs.Scopes.{functions_in}
use Rattle.check_names.specs.ModuleNames.{items_of, names_of_functions}
use Rattle.check_names.proofs.ModuleLemmas.{turn, numbered_turn, one_function, one_function_named, longer}
use Rattle.check_names.proofs.module_names.functions_among.Goals as goal

pub loop-item-preserved : goal.loop-item-preserved
loop-item-preserved c =
    let xs = c.args.items.now in
    let k = c.loop-item.item-index in
    let x = c.item-item.result in
    let e = c.in_ok-add_function.ensures in
    record {
      called = turn (λ is. functions_in (items_of is)) one_function xs k x c.loop-item-test.true c.item-item.is _ _ _ e.functions c.loop-item.invariant.called;
      named =
          numbered_turn (λ is. names_of_functions (items_of is)) one_function_named xs k x c.loop-item-test.true c.item-item.is _ _ _ _ _ e.places
          (longer (λ (f : Bor FunctionItem). function_of f.now) (λ (f : tree.FunctionItem). f.name) _ _ _ e.functions) c.loop-item.invariant.named;
    }
