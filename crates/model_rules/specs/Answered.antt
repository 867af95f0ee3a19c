-- What the fault of a pass tells.
use Rattle.std.specs.Prelude.{◌≡◌, List, ◌∷◌, ◌++◌, Some, None}
use Rattle.flat_design.specs.ModelTree.declared.faults.Fault.{Fault}
use Rattle.model_rules.specs.Sites.{Site}
use Rattle.model_rules.specs.Passes.{Rule, fault_at, fault_of}

-- the fault is that of a site which breaks a rule of the list, and the sites before it break none
pub record IsFirstAt (rules : List Rule) (xs : List Site) (f : Fault) : Type 0 where
  pub before : List Site
  pub at : Site
  pub after : List Site
  pub order : xs ≡ before ++ at ∷ after
  pub broken : fault_at rules at ≡ Some f
  pub none_before : fault_of rules before ≡ None
