-- Marks on numbers, and edges along which they spread.
use Rattle.std.specs.Prelude.{◌≡◌, ◌==◌, ◌<◌, ℕ, Bool, true, false, List, [], ◌∷◌, length, slice_get, unwrap_or}
use Rattle.std.specs.List.{list_all}
use Rattle.check_reach.specs.declared.edges.Edge.{Edge}

-- past the marks every number counts as marked
abbrev pub is_marked : List Bool → ℕ → Bool
is_marked marks n = unwrap_or (slice_get marks n) true

abbrev pub target_if : Bool → ℕ → List ℕ → List ℕ
target_if true target more = target ∷ more
target_if false target more = more

-- where the edges from a number lead
abbrev pub targets : List Edge → ℕ → List ℕ
targets [] n = []
targets (e ∷ es) n = target_if (e.source == n) e.target (targets es n)

-- The marks of the least set of numbers below a count that has some numbers, and with each number those to which edges lead
-- from it. Edges from other numbers lead nowhere.
pub record IsSpread (count : ℕ) (edges : List Edge) (roots : List ℕ) (marks : List Bool) : Type 0 where
  pub as_many : length marks ≡ count
  pub has_roots : list_all (is_marked marks) roots ≡ true
  pub closed : (n : ℕ) → n < count → is_marked marks n ≡ true → list_all (is_marked marks) (targets edges n) ≡ true
  pub least : (other : ℕ → Bool) → list_all other roots ≡ true → ((n : ℕ) → n < count → other n ≡ true → list_all other (targets edges n) ≡ true)
      → (n : ℕ) → n < count → is_marked marks n ≡ true → other n ≡ true
