use Rattle.std.proofs.Common.{sym, ap, ◌∙◌}
use Rattle.std.specs.FinMap as map
use Rattle.timed_queue.specs.Timed.{Timed}
use Rattle.timed_queue.proofs.QueueLaws.{len-times_of}
use Rattle.timed_queue.proofs.queue.Queue.len.Goals as goal

pub returns : goal.returns
returns c = c.len.ensures.len ∙ sym (len-times_of c.self.inside.index.entries c.self.inside.wheel.nodes.items c.self.invariant.0.rises) ∙ ap (λ (q : Timed). map.len q.times) c.self.view_is
