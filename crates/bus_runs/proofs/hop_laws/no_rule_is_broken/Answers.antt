use Rattle.bus_runs.proofs.FourEntries.{never_broken}
use Rattle.bus_runs.proofs.hop_laws.no_rule_is_broken.Goals as goal

pub returns : goal.returns
returns c = never_broken
