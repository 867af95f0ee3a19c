use Rattle.laws_runs.proofs.GuardLemmas.{guards-put, guards-past, guards-local, guards-raise}
use Rattle.laws_runs.proofs.marks.moves_keep_guards.Goals as goal

pub returns : goal.returns
returns c = record { goes_on = guards-put; passes = guards-past; sets = guards-local; raises = guards-raise }
