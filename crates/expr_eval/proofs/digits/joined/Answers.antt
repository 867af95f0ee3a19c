use Rattle.expr_eval.proofs.DigitLaws.{joined_full, joined_cut}
use Rattle.expr_eval.proofs.digits.joined.Goals as goal

pub returns-then-room-eq0 : goal.returns-then-room-eq0
returns-then-room-eq0 c = joined_full c.args.upper c.args.lower c.if-room-eq0.true

pub returns : goal.returns
returns c =
    joined_cut c.args.upper c.args.lower c.resize.result c.concat.result c.min.result c.min.ensures c.resize.ensures.each_digit c.concat.ensures.each_digit
