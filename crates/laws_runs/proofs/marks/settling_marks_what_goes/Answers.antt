use Rattle.laws_runs.proofs.MarkLemmas.{fall-open}
use Rattle.laws_runs.proofs.marks.settling_marks_what_goes.Goals as goal

pub returns : goal.returns
returns c = fall-open
