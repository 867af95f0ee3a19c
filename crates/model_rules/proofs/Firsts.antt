-- The first that is found in a list.
use Rattle.std.proofs.Common.{◌≡◌, List, [], ◌∷◌, ◌++◌, Option, Some, None, refl}
use Rattle.std.specs.List.{AllByRecursion}
use Rattle.std.specs.Option.{option_or}
use Rattle.flat_design.specs.ModelTree.declared.faults.Fault.{Fault}
use Rattle.model_rules.specs.Names.{first}
use Rattle.model_rules.specs.Sites.{Site}
use Rattle.model_rules.specs.Passes.{Rule, fault_at, fault_of}
use Rattle.model_rules.specs.Answered.{IsFirstAt}

or_or : {B : Type 0} (a b c : Option B) → option_or a (option_or b c) ≡ option_or (option_or a b) c
or_or None b c = refl
or_or (Some x) b c = refl

pub first_append : {A B : Type 0} (f : A → Option B) (xs ys : List A) → first f (xs ++ ys) ≡ option_or (first f xs) (first f ys)
first_append f [] ys = refl
first_append f (x ∷ xs) ys = rw (first_append f xs ys) (or_or (f x) (first f xs) (first f ys))

-- none is found exactly where none of them has one
pub or_none : {B : Type 0} (a b : Option B) → option_or a b ≡ None → (a ≡ None) × (b ≡ None)
or_none None b h = (refl, h)
or_none (Some x) b h = cc

pub all_none : {A B : Type 0} (f : A → Option B) (xs : List A) → first f xs ≡ None → AllByRecursion (λ x. f x ≡ None) xs
all_none f [] h = tt
all_none f (x ∷ xs) h = let parts = or_none (f x) (first f xs) h in (parts.0, all_none f xs parts.1)

module _ (rules : List Rule) (f : Fault) where
  -- by what the first of the sites has
  at_head : (x : Site) (xs : List Site) (o : Option Fault) → fault_at rules x ≡ o → (fault_of rules xs ≡ Some f → IsFirstAt rules xs f)
      → option_or o (fault_of rules xs) ≡ Some f → IsFirstAt rules (x ∷ xs) f
  at_head x xs None e rest h =
      let r = rest h in
      record { before = x ∷ r.before; at = r.at; after = r.after; order = rw (r.order) refl; broken = r.broken; none_before = rw (e, r.none_before) refl }
  at_head x xs (Some g) e rest h = record { before = []; at = x; after = xs; order = refl; broken = rw e h; none_before = refl }

  pub first_at : (xs : List Site) → fault_of rules xs ≡ Some f → IsFirstAt rules xs f
  first_at [] h = cc
  first_at (x ∷ xs) h = at_head x xs (fault_at rules x) refl (first_at xs) h

-- each pass
pub each_none : (xs : List Site) (passes : List (List Rule)) → first (λ rules. fault_of rules xs) passes ≡ None
    → AllByRecursion (λ rules. AllByRecursion (λ x. fault_at rules x ≡ None) xs) passes
each_none xs [] h = tt
each_none xs (rules ∷ more) h =
    let parts = or_none (fault_of rules xs) (first (λ rules. fault_of rules xs) more) h in
    (all_none (fault_at rules) xs parts.0, each_none xs more parts.1)
