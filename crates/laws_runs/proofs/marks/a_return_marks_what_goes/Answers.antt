use Rattle.laws_runs.proofs.MarkLemmas.{return-open}
use Rattle.laws_runs.proofs.marks.a_return_marks_what_goes.Goals as goal

pub returns : goal.returns
returns c = return-open
