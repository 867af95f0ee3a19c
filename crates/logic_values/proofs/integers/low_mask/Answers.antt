use Rattle.logic_values.proofs.IntegerLemmas.{low_mask_is}
use Rattle.logic_values.proofs.integers.low_mask.Goals as goal

pub returns : goal.returns
returns c = low_mask_is c.args.width c.requires.some c.requires.at_most_64
