use Rattle.script_text.proofs.RangeLemmas.{greatest_is}
use Rattle.script_text.proofs.values.greatest.Goals as goal

pub returns : goal.returns
returns c = greatest_is c.args.width c.requires.some c.requires.at_most_64
