use Rattle.std.proofs.Common.{◌∙◌}
use Rattle.std.specs.Borrow.{Bor}
use Rattle.model_rules.specs.ModelTree.Views.{function_of}
use Rattle.model_rules.specs.ModelTree.declared.items.FunctionItem.{FunctionItem}
use Rattle.check_names.proofs.ModuleLemmas.{map_map}
use Rattle.check_names.proofs.module_names.ModuleNames.new.Goals as goal

pub invariant_of-result : goal.invariant_of-result
invariant_of-result c = record {
  declared = c.in_ok-declaring.ensures.items;
  named = c.in_ok-declaring.ensures.places;
  called = map_map (λ (f : Bor FunctionItem). f.now) function_of c.in_ok-functions.functions.items ∙ c.in_ok-functions.ensures.functions;
  functions_named = c.in_ok-functions.ensures.places;
}
