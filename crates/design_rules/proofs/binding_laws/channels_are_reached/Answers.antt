use Rattle.design_rules.proofs.Listed.{channels_reached}
use Rattle.design_rules.proofs.binding_laws.channels_are_reached.Goals as goal

pub returns : goal.returns
returns c = λ os p ch listed at. channels_reached os 0 os.list p ch listed at
