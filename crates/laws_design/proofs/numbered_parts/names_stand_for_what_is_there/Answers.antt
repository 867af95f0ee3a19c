use Rattle.laws_design.proofs.Fits.{names_fit}
use Rattle.laws_design.proofs.numbered_parts.names_stand_for_what_is_there.Goals as goal

pub returns : goal.returns
returns c = λ m d design home n. names_fit m d design home n
