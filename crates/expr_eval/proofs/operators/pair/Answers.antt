use Rattle.expr_eval.proofs.DigitLaws.{pair_cut}
use Rattle.expr_eval.proofs.operators.pair.Goals as goal

pub returns-in-Some-Some-clause-pairs : goal.returns-in-Some-Some-clause-pairs
returns-in-Some-Some-clause-pairs c =
    λ f. rw (← c.digits_of.ensures, ← c.digits_of-2.ensures, c.in-Some-Some.is-0, c.in-Some-Some.is-1)
    (pair_cut c.in-Some-Some.a c.in-Some-Some.b c.resize.result c.resize-in-Some-Some.result c.min-width.result c.min-width.ensures c.resize.ensures.each_digit c.resize-in-Some-Some.ensures.each_digit f)
