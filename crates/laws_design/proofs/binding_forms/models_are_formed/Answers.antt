use Rattle.laws_design.proofs.Bindings.{are_formed}
use Rattle.laws_design.proofs.binding_forms.models_are_formed.Goals as goal

pub returns : goal.returns
returns c = λ m clean acyclic limits. are_formed m clean acyclic limits
