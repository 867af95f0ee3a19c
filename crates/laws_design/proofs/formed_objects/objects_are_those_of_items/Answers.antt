use Rattle.laws_design.proofs.Models.{children_of_model}
use Rattle.laws_design.proofs.formed_objects.objects_are_those_of_items.Goals as goal

pub returns : goal.returns
returns c = λ m none j place o found is. children_of_model m none j o place found is
