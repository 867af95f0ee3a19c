use Rattle.bus_runs.proofs.Routed.{routed_table}
use Rattle.bus_runs.proofs.traffic_laws.all_is_routed_without_marks.Goals as goal

pub returns : goal.returns
returns c = λ bus rows can unmarked. routed_table bus can unmarked rows
