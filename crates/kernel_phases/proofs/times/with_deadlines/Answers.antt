use Rattle.std.proofs.Common.{sym, ap, ◌∙◌}
use Rattle.kernel_state.specs.SimModel.Phases as phases
use Rattle.kernel_phases.proofs.EarliestTime.{event_alone, with_deadline}
use Rattle.kernel_phases.proofs.times.with_deadlines.Goals as goal

pub returns-in-None : goal.returns-in-None
returns-in-None c = λ d h. c.requires.event ∙ sym (event_alone c.args.k.now d h c.in-None.ensures.none)

pub returns-in-Some : goal.returns-in-Some
returns-in-Some c = λ d h. c.earlier.ensures ∙ ap (λ a. phases.earlier a c.in-Some.t.0) c.requires.event ∙ sym (with_deadline c.args.k.now d h c.in-Some.t.0 c.in-Some.ensures.least)
