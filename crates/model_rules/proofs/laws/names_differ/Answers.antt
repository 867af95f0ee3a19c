use Rattle.model_rules.specs.Passes.{fault_of, doubles, constructs, reaches}
use Rattle.model_rules.specs.Sites.{sites}
use Rattle.model_rules.specs.Names.{first}
use Rattle.model_rules.proofs.Firsts.{or_none}
use Rattle.model_rules.proofs.Doubles.{distinct}
use Rattle.std.specs.Prelude.{[], ◌∷◌}
use Rattle.model_rules.proofs.laws.names_differ.Goals as goal

pub returns : goal.returns
returns c = λ m h. distinct m (or_none (fault_of doubles (sites m)) (first (λ rules. fault_of rules (sites m)) (constructs ∷ reaches ∷ [])) h).0
