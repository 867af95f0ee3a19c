use Rattle.bus_runs.proofs.OneList.{same_hops}
use Rattle.bus_runs.proofs.entry_laws.one_list_of_hops.Goals as goal

pub returns : goal.returns
returns c = λ bus table one other first second. same_hops bus table one other first second
