use Rattle.bus_runs.proofs.OneList.{unbroken_hops}
use Rattle.bus_runs.proofs.entry_laws.no_entry_breaks_a_rule.Goals as goal

pub returns : goal.returns
returns c = λ bus table hops all h below. unbroken_hops bus table hops all h below
