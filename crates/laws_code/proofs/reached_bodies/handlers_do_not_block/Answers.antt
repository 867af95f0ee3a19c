use Rattle.laws_code.proofs.Fields.{handlers}
use Rattle.laws_code.proofs.reached_bodies.handlers_do_not_block.Goals as goal

pub returns : goal.returns
returns c = λ m d none stands read named. handlers m d none read stands named
