use Rattle.std.proofs.Common.{sym, ◌∙◌}
use Rattle.kernel_phases.proofs.EarliestTime.{event_alone}
use Rattle.kernel_phases.proofs.times.earliest.Goals as goal

pub returns-in-None-no_deadline_before : goal.returns-in-None-no_deadline_before
returns-in-None-no_deadline_before c = λ d h. c.earliest.ensures ∙ sym (event_alone c.args.k.now d h c.in-None-no_deadline_before.ensures.none)
