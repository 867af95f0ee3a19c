use Rattle.tick_rules.proofs.Faultless.{faultless}
use Rattle.tick_rules.proofs.laws.faultless_texts_have_faultless_ticks.Goals as goal

pub returns : goal.returns
returns c = faultless
