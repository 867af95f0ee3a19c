use Rattle.expanded_text.proofs.Texts.{same_reading}
use Rattle.expanded_text.proofs.text_laws.one_reading.Goals as goal

pub returns : goal.returns
returns c = same_reading
