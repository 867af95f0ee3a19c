use Rattle.std.proofs.Common.{◌≡◌, ◌++◌, ℕ, List, map, drop}
use Rattle.std.specs.Borrow.{Bor}
use Rattle.check_expressions.specs.CheckNames.ModuleNames.{items_of}
use Rattle.check_reach.specs.Flat.{blocking_bodies, seen_list}
use Rattle.check_reach.proofs.deeds.blocking_bodies.Given as goal

abbrev pub invariant-loop-body : goal.invariant-loop-body
invariant-loop-body l = map (λ (n : Bor (List ℕ)). n.now) l.found.items ++ blocking_bodies (items_of l.names) (seen_list (drop l.body-index l.bodies)) ≡ blocking_bodies (items_of l.names) (seen_list l.bodies)
