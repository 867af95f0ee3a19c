use Rattle.bus_runs.proofs.Direct.{by_order}
use Rattle.bus_runs.proofs.traffic_laws.answers_go_by_the_order.Goals as goal

pub returns : goal.returns
returns c = by_order
