use Rattle.design_rules.proofs.Rounds.{ends_follow}
use Rattle.design_rules.proofs.binding_laws.ends_follow_bindings.Goals as goal

pub returns : goal.returns
returns c = ends_follow
