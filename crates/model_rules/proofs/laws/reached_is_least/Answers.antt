use Rattle.model_rules.proofs.Closures.{is_least}
use Rattle.model_rules.specs.Reach.{functions, is_caller}
use Rattle.model_rules.proofs.laws.reached_is_least.Goals as goal

pub returns : goal.returns
returns c = λ items roots. is_least is_caller (functions items) roots
