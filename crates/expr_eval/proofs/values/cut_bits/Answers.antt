use Rattle.expr_eval.proofs.NumberLaws.{cut_to_all}
use Rattle.expr_eval.proofs.values.cut_bits.Goals as goal

pub returns-then-width-gt64 : goal.returns-then-width-gt64
returns-then-width-gt64 c = cut_to_all c.args.s c.args.width c.args.n c.if-width-gt64.true c.ranges.n.fits
