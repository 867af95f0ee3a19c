use Rattle.design_rules.proofs.Rounds.{leaders_follow}
use Rattle.design_rules.proofs.binding_laws.leaders_follow_bindings.Goals as goal

pub returns : goal.returns
returns c = leaders_follow
