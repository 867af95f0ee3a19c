use Rattle.logic_values.proofs.IntegerLemmas.{and_low_mask}
use Rattle.logic_values.proofs.integers.low_bits.Goals as goal

pub returns : goal.returns
returns c = and_low_mask c.args.a c.low_mask.result c.args.width c.low_mask.ensures
