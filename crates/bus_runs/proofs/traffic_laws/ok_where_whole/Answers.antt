use Rattle.bus_runs.proofs.Whole.{ok_whole}
use Rattle.bus_runs.proofs.traffic_laws.ok_where_whole.Goals as goal

pub returns : goal.returns
returns c = λ bus table payloads can apart it k there. ok_whole bus can apart table payloads it k there
