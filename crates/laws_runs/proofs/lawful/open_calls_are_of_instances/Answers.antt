use Rattle.laws_runs.proofs.LawfulRuns.{held-after, owned-after}
use Rattle.laws_runs.proofs.lawful.open_calls_are_of_instances.Goals as goal

pub returns-clause-held : goal.returns-clause-held
returns-clause-held c = held-after

pub returns-clause-owned : goal.returns-clause-owned
returns-clause-owned c = owned-after
