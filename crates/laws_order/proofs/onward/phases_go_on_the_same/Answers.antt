use Rattle.laws_order.proofs.Notifying.{update-step, delta-step, timed-step, initialization-same}
use Rattle.laws_order.proofs.onward.phases_go_on_the_same.Goals as goal

pub returns : goal.returns
returns c = record { update = update-step c.drivers_resolve_in_any_order.ensures; delta = delta-step; timed = timed-step; begun = initialization-same c.drivers_resolve_in_any_order.ensures }
