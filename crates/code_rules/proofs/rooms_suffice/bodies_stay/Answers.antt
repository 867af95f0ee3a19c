use Rattle.code_rules.proofs.Still.{body_still, differs_back}
use Rattle.code_rules.proofs.rooms_suffice.bodies_stay.Goals as goal

pub returns : goal.returns
returns c = record { bodies = λ before after d f b found. body_still before after d f b found; back = λ before after d. differs_back before after d }
