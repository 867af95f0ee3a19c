use Rattle.std.proofs.Common.{⊎_elim}
use Rattle.tlmsim.proofs.Courses.{ran_with}
use Rattle.tlmsim.proofs.Ends.{never_rose}
use Rattle.tlmsim.proofs.running.run_alone.Goals as goal

pub returns-clause-ran : goal.returns-clause-ran
returns-clause-ran g c = ran_with _ _ _ _ _ _ _ (λ t took. took.report) (rw c.as_slice.ensures at c.run_session.ensures.ran)

pub returns-clause-cause : goal.returns-clause-cause
returns-clause-cause g c = record {
  later = c.run_session.ensures.cause.faults_later;
  rose = λ is. ⊎_elim (λ r. r) (λ r. absurd (never_rose r)) (c.run_session.ensures.cause.rose is);
}
