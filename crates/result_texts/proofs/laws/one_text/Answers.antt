use Rattle.result_texts.proofs.OneText.{same_text}
use Rattle.result_texts.proofs.laws.one_text.Goals as goal

pub returns : goal.returns
returns c = λ bus rows payloads others one other same first second. same_text bus rows payloads others one other same first second
