use Rattle.bus_router.specs.Times.{row_at}
use Rattle.bus_runs.proofs.Turns.{take_turns}
use Rattle.bus_runs.proofs.traffic_laws.hops_take_turns.Goals as goal

pub returns : goal.returns
returns c = λ bus rows it. take_turns bus (row_at rows) it.timed
