use Rattle.laws_design.proofs.Own.{own_declared}
use Rattle.laws_design.proofs.formed_bindings.objects_are_those_declared.Goals as goal

pub returns : goal.returns
returns c = λ m clean at place. own_declared m clean at place
