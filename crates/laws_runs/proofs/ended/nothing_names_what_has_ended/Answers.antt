use Rattle.laws_runs.proofs.EndedNames.{named-nowhere}
use Rattle.laws_runs.proofs.ended.nothing_names_what_has_ended.Goals as goal

pub returns : goal.returns
returns c = named-nowhere
