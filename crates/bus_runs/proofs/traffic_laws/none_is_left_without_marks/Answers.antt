use Rattle.bus_runs.proofs.Routed.{none_left}
use Rattle.bus_runs.proofs.traffic_laws.none_is_left_without_marks.Goals as goal

pub returns : goal.returns
returns c = λ bus table regions can unmarked it. none_left bus can unmarked table regions it
