use Rattle.laws_design.proofs.SizedObjects.{objects_sized}
use Rattle.laws_design.proofs.formed_bindings.sizes_are_in_range.Goals as goal

pub returns : goal.returns
returns c = λ m h i o at. objects_sized m h i o at
