-- Marks that spread: the marks, and the numbers whose edges are still to be followed.
use Rattle.std.specs.Prelude.{◌≡◌, ◌==◌, ◌||◌, ◌<◌, ◌+◌, ℕ, Bool, true, false, List, [], ◌∷◌, ◌++◌, length, slice_get, slice_set, unwrap_or}
use Rattle.std.specs.List.{list_all, list_any}
use Rattle.check_reach.specs.declared.edges.Edge.{Edge}
use Rattle.check_reach.specs.Edges.{is_marked}

abbrev pub Spreading : Type 0
Spreading = List Bool × List ℕ

abbrev pub reach_if : Bool → ℕ → Spreading → Spreading
reach_if true n s = s
reach_if false n s = (slice_set s.0 n true, s.1 ++ n ∷ [])

-- a number is marked, and waits if it was not marked before
abbrev pub reach : ℕ → Spreading → Spreading
reach n s = reach_if (is_marked s.0 n) n s

abbrev pub reach_all : List ℕ → Spreading → Spreading
reach_all [] s = s
reach_all (n ∷ ns) s = reach_all ns (reach n s)

abbrev pub is_waiting : List ℕ → ℕ → Bool
is_waiting waiting n = list_any (λ k. k == n) waiting

abbrev pub row_of : List (List ℕ) → ℕ → List ℕ
row_of rows n = unwrap_or (slice_get rows n) []

-- the target of an edge is put into the row of its source, where there is one
abbrev pub with_edge : List (List ℕ) → Edge → List (List ℕ)
with_edge rows e = slice_set rows e.source (row_of rows e.source ++ e.target ∷ [])

abbrev pub one_if_not : Bool → ℕ
one_if_not true = 0
one_if_not false = 1

-- how many are not marked
abbrev pub unmarked : List Bool → ℕ
unmarked [] = 0
unmarked (b ∷ bs) = one_if_not b + unmarked bs

-- what is marked and what waits is in a set
abbrev pub Holds : (ℕ → Bool) → Spreading → Type 0
Holds other s = ((n : ℕ) → n < length s.0 → is_marked s.0 n ≡ true → other n ≡ true) × ((n : ℕ) → is_waiting s.1 n ≡ true → other n ≡ true)

-- What is marked waits, or leads to what is marked alone; and all of it is in each closed set that has the roots.
pub record IsUnderWay (count : ℕ) (rows : List (List ℕ)) (roots : List ℕ) (s : Spreading) : Type 0 where
  pub as_many : length s.0 ≡ count
  pub has_roots : list_all (is_marked s.0) roots ≡ true
  pub followed : (n : ℕ) → n < count → is_marked s.0 n ≡ true → (is_waiting s.1 n || list_all (is_marked s.0) (row_of rows n)) ≡ true
  pub least : (other : ℕ → Bool) → list_all other roots ≡ true → ((n : ℕ) → other n ≡ true → list_all other (row_of rows n) ≡ true) → Holds other s
