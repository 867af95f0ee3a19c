use Rattle.laws_design.proofs.Parts.{fifos_sized}
use Rattle.laws_design.proofs.first_values.fifos_have_room.Goals as goal

pub returns : goal.returns
returns c = λ m d none design n p e. fifos_sized m d none design n p e
