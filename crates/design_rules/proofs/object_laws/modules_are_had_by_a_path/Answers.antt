use Rattle.design_rules.proofs.Paths.{has_path}
use Rattle.design_rules.proofs.object_laws.modules_are_had_by_a_path.Goals as goal

pub returns : goal.returns
returns c = has_path
