use Rattle.design_rules.specs.Paths.{steps}
use Rattle.design_rules.proofs.Reached.{leaders_reach}
use Rattle.design_rules.proofs.binding_laws.leaders_reach_sockets.Goals as goal

pub returns : goal.returns
returns c = λ os i t at. leaders_reach os (steps os) t i at
