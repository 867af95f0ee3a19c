use Rattle.laws_texts.proofs.Same.{same_times}
use Rattle.laws_texts.proofs.tick_laws.language_1_has_its_times.Goals as goal

pub returns : goal.returns
returns c = same_times
