use Rattle.std.proofs.Common.{◌≡◌, ◌++◌, ℕ, List, map, drop}
use Rattle.std.specs.Borrow.{Bor}
use Rattle.flat_design.specs.declared.code.BodyKind.TheVariants as body_kind
use Rattle.check_reach.specs.Flat.{named_of, seen_list}
use Rattle.check_reach.proofs.sets.threads_of.Given as goal

abbrev pub invariant-loop-body : goal.invariant-loop-body
invariant-loop-body l = map (λ (n : Bor (List ℕ)). n.now) l.found.items ++ named_of body_kind.Thread (seen_list (drop l.body-index l.bodies)) ≡ named_of body_kind.Thread (seen_list l.bodies)
