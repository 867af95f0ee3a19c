use Rattle.std.proofs.Common.{arith}
use Rattle.expr_eval.proofs.NumberLaws.{bits_cut}
use Rattle.expr_eval.proofs.digits.bits_between.Goals as goal

pub returns : goal.returns
returns c =
    rw (c.cut.ensures, c.shr.ensures, c.from.ensures)
    (bits_cut c.args.n c.args.high c.args.low _ c.ranges.n.fits (omega arith) (omega arith))
