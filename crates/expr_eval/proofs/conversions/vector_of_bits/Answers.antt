use Rattle.expr_eval.proofs.DigitLaws.{binary_vector}
use Rattle.expr_eval.proofs.conversions.vector_of_bits.Goals as goal

pub returns : goal.returns
returns c =
    binary_vector c.args.width c.args.n c.min.result c.of_bits.result c.min.ensures c.of_bits.ensures.each_digit
