use Rattle.laws_code.proofs.Fields.{unwinding}
use Rattle.laws_code.proofs.reached_bodies.unwinding_is_plain.Goals as goal

pub returns : goal.returns
returns c = λ m d none stands read. unwinding m d none read stands
