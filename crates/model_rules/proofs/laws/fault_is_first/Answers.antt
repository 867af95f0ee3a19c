use Rattle.model_rules.proofs.Firsts.{first_at}
use Rattle.model_rules.proofs.laws.fault_is_first.Goals as goal

pub returns : goal.returns
returns c = λ rules xs f h. first_at rules f xs h
