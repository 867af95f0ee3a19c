use Rattle.laws_design.proofs.Deep.{none_left_out}
use Rattle.laws_design.proofs.formed_bindings.no_instance_is_left_out.Goals as goal

pub returns : goal.returns
returns c = λ m clean n most at place. none_left_out m clean n most at place
