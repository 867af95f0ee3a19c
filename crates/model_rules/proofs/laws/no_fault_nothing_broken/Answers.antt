use Rattle.model_rules.proofs.Firsts.{each_none}
use Rattle.model_rules.specs.Sites.{sites}
use Rattle.model_rules.specs.Passes.{passes}
use Rattle.model_rules.proofs.laws.no_fault_nothing_broken.Goals as goal

pub returns : goal.returns
returns c = λ m h. each_none (sites m) passes h
