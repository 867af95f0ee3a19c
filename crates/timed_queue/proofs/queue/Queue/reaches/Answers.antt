use Rattle.std.proofs.Common.{refl, ap, ◌∙◌, arith}
use Rattle.std.specs.FinMap as map
use Rattle.std.specs.Ordering.{nat_cmp}
use Rattle.sim_time.specs.declared.moments.Time.{Time}
use Rattle.timed_queue.proofs.Due.{none_due, none_early}
use Rattle.timed_queue.proofs.queue.Queue.reaches.Goals as goal

pub returns-then-t-bound : goal.returns-then-t-bound
returns-then-t-bound c = λ _. none_early c.args.self.now.times c.args.t c.in-Some.bound.0 c.in-Some.ensures.bound c.if-t-bound.true

pub returns-in-None : goal.returns-in-None
returns-in-None c = λ _. none_due c.args.self.now.times c.args.t (ap map.len (c.in-None.ensures.none.0 refl) ∙ map.len-empty nat_cmp Time)
