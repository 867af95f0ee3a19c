use Rattle.std.proofs.Common.{◌≡◌, ◌++◌, drop}
use Rattle.check_expressions.specs.CheckNames.ModuleNames.{items_of}
use Rattle.check_reach.specs.Flat.{seen_list, flats_in}
use Rattle.check_reach.proofs.bodies.bodies_of.Given as goal

abbrev pub invariant-loop-item : goal.invariant-loop-item
invariant-loop-item l = seen_list l.bodies.items ++ flats_in (items_of (drop l.item-index l.items)) ≡ flats_in (items_of l.items)
