use Rattle.laws_design.proofs.FewObjects.{objects_few}
use Rattle.laws_design.proofs.formed_bindings.objects_are_few.Goals as goal

pub returns : goal.returns
returns c = λ m h. objects_few m h
