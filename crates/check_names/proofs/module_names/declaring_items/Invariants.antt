use Rattle.std.proofs.Common.{◌≡◌, ◌++◌, map, filter, drop, length}
use Rattle.std.specs.Borrow.{Bor}
use Rattle.model_rules.specs.ModelTree.declared.items.Item.{Item}
use Rattle.check_names.specs.Tables.{numbered, numbered_from}
use Rattle.check_names.specs.ModuleNames.{items_of, is_declaring, names_declared}
use Rattle.check_names.proofs.module_names.declaring_items.Given as goal

abbrev pub invariant-loop-item : goal.invariant-loop-item
invariant-loop-item l = record {
  declared : map (λ (i : Bor Item). i.now) l.declaring.items ++ filter is_declaring (drop l.item-index l.items) ≡ filter is_declaring l.items;
  named : numbered_from (length l.declaring.items) l.places (names_declared (items_of (drop l.item-index l.items))) ≡ numbered (names_declared (items_of l.items));
}
