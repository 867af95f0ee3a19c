use Rattle.std.proofs.Common.{ap, ◌∙◌, None}
use Rattle.sim_model.specs.Phases.{earliest_event}
use Rattle.kernel_events.proofs.Earliest.{earliest_told}
use Rattle.kernel_events.proofs.EventBoard.earliest.Goals as goal

pub returns : goal.returns
returns c = earliest_told c.self.inside.events c.self.inside.deltas c.self.inside.times c.self.inside.size c.self.invariant c.earliest.result c.earliest.ensures.empty c.earliest.ensures.least
    ∙ ap (λ es. earliest_event es None) c.self.view_is
