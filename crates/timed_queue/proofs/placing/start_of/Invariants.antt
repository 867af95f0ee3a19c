use Rattle.timed_queue.proofs.PlaceLaws.{Down}
use Rattle.timed_queue.proofs.placing.start_of.Given as goal

abbrev pub invariant-down : goal.invariant-down
invariant-down l = Down l.fn.place l.fn.origin l.unit l.levels l.left l.high

abbrev pub decreases-down : goal.decreases-down
decreases-down l = l.levels
