use Rattle.std.proofs.Common.{sym}
use Rattle.kernel_phases.proofs.EarliestTime.{event_first}
use Rattle.kernel_phases.proofs.times.events_first.Goals as goal

pub returns-then-t-bound : goal.returns-then-t-bound
returns-then-t-bound c = λ d h.
    let told = rw c.in-Some.is at c.earliest-event.ensures in
    sym (event_first c.args.k.now d h c.in-Some.t.0 c.args.bound.0 (sym told) c.requires.bound c.if-t-bound.true)
