-- What the first fault of a model tells.
use Rattle.std.specs.Prelude.{◌≡◌, List, ◌∷◌, ◌++◌, None}
use Rattle.std.specs.List.{AllByRecursion}
use Rattle.code_rules.specs.ModelTree.Tree as tree
use Rattle.code_rules.specs.ModelTree.declared.faults.Fault.{Fault}
use Rattle.code_rules.specs.ModelRules.Sites.{sites}
use Rattle.code_rules.specs.ModelRules.Passes.{Rule, fault_of, passes}
use Rattle.code_rules.specs.ModelRules.Answered.{IsFirstAt}

-- the fault is that of the first site which breaks a rule of a pass, and the passes before it have none
pub record IsDecided (m : tree.Model) (f : Fault) : Type 0 where
  pub before : List (List Rule)
  pub rules : List Rule
  pub after : List (List Rule)
  pub order : passes ≡ before ++ rules ∷ after
  pub first_at : IsFirstAt rules (sites m) f
  pub none_before : AllByRecursion (λ earlier. fault_of earlier (sites m) ≡ None) before
