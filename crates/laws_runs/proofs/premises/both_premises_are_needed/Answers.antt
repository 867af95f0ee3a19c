use Rattle.laws_runs.proofs.Unfitting.{sound-tried, types-tried, wide-run, set-run}
use Rattle.laws_runs.proofs.premises.both_premises_are_needed.Goals as goal

pub returns : goal.returns
returns c = record {
  types = (sound-tried 65, wide-run);
  script = (sound-tried 1, types-tried, set-run);
}
