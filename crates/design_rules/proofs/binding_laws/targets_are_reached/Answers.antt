use Rattle.design_rules.proofs.Listed.{targets_reached}
use Rattle.design_rules.proofs.binding_laws.targets_are_reached.Goals as goal

pub returns : goal.returns
returns c = λ os h listed. targets_reached os 0 os.list h listed
