use Rattle.bus_runs.proofs.Direct.{as_routed}
use Rattle.bus_runs.proofs.traffic_laws.direct_is_as_routed.Goals as goal

pub returns : goal.returns
returns c = as_routed
