use Rattle.laws_code.proofs.Fields.{threads}
use Rattle.laws_code.proofs.reached_bodies.threads_set_no_trigger.Goals as goal

pub returns : goal.returns
returns c = λ m d none read all named. threads m d none read all named
