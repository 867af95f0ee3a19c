use Rattle.laws_runs.proofs.Places.{next-standing, put-standing, past-standing}
use Rattle.laws_runs.proofs.standing.the_statement_in_place_stands_in_a_body.Goals as goal

pub returns : goal.returns
returns c = record {
  body = λ d home r s h is. (next-standing d home r s h is).of_body;
  unwind = λ d home r s h is e. (next-standing d home r s h is).of_unwind e;
  goes_on = put-standing;
  passes = past-standing;
}
