use Rattle.laws_code.proofs.Fields.{methods}
use Rattle.laws_code.proofs.reached_bodies.methods_do_not_block.Goals as goal

pub returns : goal.returns
returns c = λ m d none stands read all. methods m d none read stands all
