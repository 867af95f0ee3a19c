use Rattle.model_rules.proofs.Firsts.{first_append}
use Rattle.model_rules.specs.Passes.{fault_at}
use Rattle.model_rules.proofs.laws.first_of_two.Goals as goal

pub returns : goal.returns
returns c = λ rules xs ys. first_append (fault_at rules) xs ys
