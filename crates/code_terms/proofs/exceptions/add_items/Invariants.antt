use Rattle.std.proofs.Common.{◌≡◌, drop}
use Rattle.check_expressions.specs.CheckNames.ModuleNames.{items_of}
use Rattle.code_terms.specs.Names.{thrown_in_items, with_all}
use Rattle.code_terms.proofs.exceptions.add_items.Given as goal

abbrev pub invariant-loop-item : goal.invariant-loop-item
invariant-loop-item l = with_all l.names (thrown_in_items (items_of (drop l.item-index l.items))) ≡ with_all l.fn.names (thrown_in_items (items_of l.items))
