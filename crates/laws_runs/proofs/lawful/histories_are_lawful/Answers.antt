use Rattle.laws_runs.proofs.LawfulRuns.{lawful-after}
use Rattle.laws_runs.proofs.lawful.histories_are_lawful.Goals as goal

pub returns : goal.returns
returns c = lawful-after
