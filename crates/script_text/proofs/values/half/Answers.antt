use Rattle.script_text.proofs.RangeLemmas.{half_is}
use Rattle.script_text.proofs.values.half.Goals as goal

pub returns : goal.returns
returns c = half_is c.greatest.result c.args.width c.requires.some c.greatest.ensures
