use Rattle.timed_queue.proofs.WalkLaws.{IsWalk}
use Rattle.timed_queue.proofs.wheel.Wheel.least_from.Given as goal

abbrev pub invariant-walking : goal.invariant-walking
invariant-walking l = IsWalk l.self.nodes.items l.place l.t l.step l.at l.least
