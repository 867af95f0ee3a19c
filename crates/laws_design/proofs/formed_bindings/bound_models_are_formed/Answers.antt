use Rattle.laws_design.proofs.FewObjects.{objects_few}
use Rattle.laws_design.proofs.SizedObjects.{objects_sized}
use Rattle.laws_design.proofs.formed_bindings.bound_models_are_formed.Goals as goal

pub returns : goal.returns
returns c = λ m clean limits inside ends. record { few = objects_few m limits; parents = inside; sizes = objects_sized m clean; bindings = ends }
