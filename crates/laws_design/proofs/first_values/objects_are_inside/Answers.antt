use Rattle.laws_design.proofs.Parts.{parents_before}
use Rattle.laws_design.proofs.first_values.objects_are_inside.Goals as goal

pub returns : goal.returns
returns c = λ m d design i o e. parents_before m d design i o e
