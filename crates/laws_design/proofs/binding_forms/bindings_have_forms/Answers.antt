use Rattle.laws_design.proofs.Bindings.{all_formed}
use Rattle.laws_design.proofs.binding_forms.bindings_have_forms.Goals as goal

pub returns : goal.returns
returns c = λ m clean acyclic. all_formed m clean acyclic
