use Rattle.std.proofs.Common.{◌≡◌, ◌++◌, map, drop, length}
use Rattle.std.specs.Borrow.{Bor}
use Rattle.model_rules.specs.ModelTree.Views.{function_of}
use Rattle.model_rules.specs.ModelTree.declared.items.FunctionItem.{FunctionItem}
use Rattle.model_rules.specs.Scopes.{functions_in}
use Rattle.check_names.specs.Tables.{numbered, numbered_from}
use Rattle.check_names.specs.ModuleNames.{items_of, names_of_functions}
use Rattle.check_names.proofs.module_names.functions_among.Given as goal

abbrev pub invariant-loop-item : goal.invariant-loop-item
invariant-loop-item l = record {
  called : map (λ (f : Bor FunctionItem). function_of f.now) l.functions.items ++ functions_in (items_of (drop l.item-index l.items)) ≡ functions_in (items_of l.items);
  named : numbered_from (length l.functions.items) l.places (names_of_functions (items_of (drop l.item-index l.items))) ≡ numbered (names_of_functions (items_of l.items));
}
