use Rattle.bus_runs.proofs.OwnHops.{has_its_entries}
use Rattle.bus_runs.proofs.entry_laws.each_access_has_its_entries.Goals as goal

pub returns : goal.returns
returns c = λ bus table hops can all k there. has_its_entries bus table hops can all k there
