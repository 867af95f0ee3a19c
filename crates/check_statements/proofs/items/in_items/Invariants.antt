use Rattle.std.proofs.Common.{◌≡◌, [], drop}
use Rattle.check_actions.specs.CheckNames.ModuleNames.{items_of}
use Rattle.check_statements.specs.Doubled.{in_items}
use Rattle.check_statements.proofs.items.in_items.Given as goal

abbrev pub invariant-loop-item : goal.invariant-loop-item
invariant-loop-item l =
    in_items (items_of l.items) (items_of l.items) [] ≡ in_items (items_of l.items) (items_of (drop l.item-index l.items)) l.before
