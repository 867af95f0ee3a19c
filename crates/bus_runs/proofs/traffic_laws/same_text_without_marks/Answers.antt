use Rattle.bus_runs.proofs.Routed.{routed_text}
use Rattle.bus_runs.proofs.traffic_laws.same_text_without_marks.Goals as goal

pub returns : goal.returns
returns c = λ bus out can unmarked it. routed_text bus can unmarked out it
