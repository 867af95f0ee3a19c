use Rattle.model_rules.proofs.Closures.{is_least}
use Rattle.model_rules.specs.Reach.{functions, has_blocking, is_called_by, names_where}
use Rattle.model_rules.proofs.laws.blocking_is_least.Goals as goal

pub returns : goal.returns
returns c = λ items. is_least is_called_by (functions items) (names_where (has_blocking items) (functions items))
