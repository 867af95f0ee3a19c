use Rattle.std.proofs.Common.{◌≡◌, ◌++◌, ℕ, List, map, drop}
use Rattle.std.specs.Borrow.{Bor}
use Rattle.std.specs.List.{flat_map}
use Rattle.check_expressions.specs.CheckNames.ModuleNames.{items_of}
use Rattle.check_reach.specs.Flat.{all_handlers}
use Rattle.check_reach.proofs.handlers.add_handlers.Given as goal

abbrev pub invariant-loop-item : goal.invariant-loop-item
invariant-loop-item l = map (λ (n : Bor (List ℕ)). n.now) l.names.items ++ flat_map all_handlers (items_of (drop l.item-index l.items)) ≡ map (λ (n : Bor (List ℕ)). n.now) l.fn.names.items ++ flat_map all_handlers (items_of l.items)
