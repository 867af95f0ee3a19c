use Rattle.sim_model.specs.LogicValues.Digits.{digits}
use Rattle.expr_eval.proofs.DigitLaws.{resized_vector, zeros_vector}
use Rattle.expr_eval.proofs.conversions.resized.Goals as goal

pub returns-in-Some : goal.returns-in-Some
returns-in-Some c =
    rw c.in-Some.is
    (resized_vector c.args.width c.min.result (digits c.in-Some.v) c.resize.result c.min.ensures c.resize.ensures.each_digit)

pub returns-in-None : goal.returns-in-None
returns-in-None c =
    rw c.in-None.is (zeros_vector c.args.width c.min-in-None.result c.filled.result c.min-in-None.ensures c.filled.ensures.each_digit)
