-- The first pass with a fault decides.
use Rattle.std.proofs.Common.{◌≡◌, List, [], ◌∷◌, ◌++◌, Option, Some, None, refl, ◌∙◌, ap}
use Rattle.std.specs.List.{AllByRecursion}
use Rattle.std.specs.Option.{option_or}
use Rattle.code_rules.specs.ModelTree.Tree as tree
use Rattle.code_rules.specs.ModelTree.declared.faults.Fault.{Fault}
use Rattle.code_rules.specs.ModelRules.Sites.{Site, sites}
use Rattle.code_rules.specs.ModelRules.Names.{first}
use Rattle.code_rules.specs.ModelRules.Passes.{Rule, fault_of, passes, first_fault}
use Rattle.code_rules.proofs.ModelRules.Firsts.{first_at}
use Rattle.laws_code.specs.Decided.{IsDecided}

module _ (xs : List Site) (f : Fault) where
  -- the pass among these
  record IsAmong (all : List (List Rule)) : Type 0 where
    before : List (List Rule)
    rules : List Rule
    after : List (List Rule)
    order : all ≡ before ++ rules ∷ after
    found : fault_of rules xs ≡ Some f
    none_before : AllByRecursion (λ earlier. fault_of earlier xs ≡ None) before

  at_pass : (rules : List Rule) (more : List (List Rule)) (o : Option Fault) → fault_of rules xs ≡ o → (first (λ r. fault_of r xs) more ≡ Some f → IsAmong more)
      → option_or o (first (λ r. fault_of r xs) more) ≡ Some f → IsAmong (rules ∷ more)
  at_pass rules more None e rest h =
      let k = rest h in
      record { before = rules ∷ k.before; rules = k.rules; after = k.after; order = ap (λ rs. rules ∷ rs) k.order; found = k.found; none_before = (e, k.none_before) }
  at_pass rules more (Some g) e rest h = record { before = []; rules = rules; after = more; order = refl; found = e ∙ h; none_before = tt }

  among : (all : List (List Rule)) → first (λ r. fault_of r xs) all ≡ Some f → IsAmong all
  among [] h = cc
  among (rules ∷ more) h = at_pass rules more (fault_of rules xs) refl (among more) h

pub decided : (m : tree.Model) (f : Fault) → first_fault m ≡ Some f → IsDecided m f
decided m f h =
    let k = among (sites m) f passes h in
    record { before = k.before; rules = k.rules; after = k.after; order = k.order; first_at = first_at k.rules f (sites m) k.found; none_before = k.none_before }
