use Rattle.laws_texts.proofs.WholeLines.{never_fall}
use Rattle.laws_texts.proofs.site_laws.lines_never_fall.Goals as goal

pub returns : goal.returns
returns c = λ text m h. never_fall text m h
