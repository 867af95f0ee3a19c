use Rattle.laws_runs.proofs.Throwing.{own-throw, other-throw}
use Rattle.laws_runs.proofs.throws.a_throw_unwinds_the_guards_inside_its_try.Goals as goal

pub returns : goal.returns
returns x = record {
  own = λ c q i e at top caught none. own-throw c q i e at caught none top;
  other = λ c q i e at lives below off kind started caught none. other-throw c q i e at caught none lives below off kind started;
}
