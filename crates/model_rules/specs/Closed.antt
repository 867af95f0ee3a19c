-- Sets of functions that are closed under calls.
use Rattle.std.specs.Prelude.{◌≡◌, Bool, true, List}
use Rattle.std.specs.List.{AllByRecursion}
use Rattle.model_rules.specs.Reach.{Body, Names, is_among, is_next}

-- each function of the first set is in the second
abbrev pub IsWithin : List Body → Names → Names → Type 0
IsWithin fs set other = AllByRecursion (λ (b : Body). is_among set b.name ≡ true → is_among other b.name ≡ true) fs

-- each function to which one of the set leads is in it
abbrev pub IsClosed : (Body → Body → Bool) → List Body → Names → Type 0
IsClosed leads fs set = AllByRecursion (λ (b : Body). is_next leads fs set b ≡ true → is_among set b.name ≡ true) fs

-- the least closed set that has these functions
pub record IsLeast (leads : Body → Body → Bool) (fs : List Body) (roots : Names) (set : Names) : Type 0 where
  pub has_roots : IsWithin fs roots set
  pub closed : IsClosed leads fs set
  pub least : (other : Names) → IsWithin fs roots other → IsClosed leads fs other → IsWithin fs set other
