use Rattle.std.proofs.Common.{sym, ap, ◌∙◌}
use Rattle.kernel_state.specs.SimModel.Phases as phases
use Rattle.kernel_phases.proofs.EarliestTime.{event_alone, with_deadline, deadline_first}
use Rattle.kernel_phases.proofs.times.deadlines_first.Goals as goal

pub returns-in-None : goal.returns-in-None
returns-in-None c = λ d h. c.earliest-in-None.ensures ∙ sym (event_alone c.args.k.now d h c.in-None.ensures.none)

pub returns-then-t-bound : goal.returns-then-t-bound
returns-then-t-bound c = λ d h. sym (deadline_first c.args.k.now d h c.in-Some.t.0 c.args.bound.0 c.in-Some.ensures.least c.requires.bound c.if-t-bound.true)

pub returns-else-t-bound : goal.returns-else-t-bound
returns-else-t-bound c = λ d h.
    c.earlier.ensures ∙ ap (λ a. phases.earlier a c.in-Some.t.0) c.earliest-else-t-bound.ensures ∙ sym (with_deadline c.args.k.now d h c.in-Some.t.0 c.in-Some.ensures.least)
