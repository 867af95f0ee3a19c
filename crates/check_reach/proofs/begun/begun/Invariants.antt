use Rattle.std.proofs.Common.{◌≡◌, ◌++◌, ℕ, List, map, drop}
use Rattle.std.specs.Borrow.{Bor}
use Rattle.check_reach.specs.Flat.{begun, seen_list}
use Rattle.check_reach.proofs.begun.begun.Given as goal

abbrev pub invariant-loop-body : goal.invariant-loop-body
invariant-loop-body l = map (λ (n : Bor (List ℕ)). n.now) l.names.items ++ begun l.begin (seen_list (drop l.body-index l.bodies)) ≡ begun l.begin (seen_list l.bodies)
