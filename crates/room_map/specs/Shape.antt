-- A tree of entries, each with the place of the node that holds it.
use Rattle.std.specs.Prelude.{⊤, ℕ, ◌+◌, ◌≤◌, ◌==◌, List, [], ◌∷◌, ◌++◌, max, if◌then◌else◌}

pub data Shape (K V : Type 0) : Type 0 where
  Bare : Shape K V
  Fork : ℕ → Shape K V → K → V → Shape K V → Shape K V

-- 1 where the places are the same, else 0
unfoldable pub is_at : ℕ → ℕ → ℕ
is_at i k = if i == k then 1 else 0

module _ {K V : Type 0} where
  -- the entries of the left side, then its own, then those of the right side
  abbrev pub entries : Shape K V → List (K × V)
  entries Bare = []
  entries (Fork i l k v r) = entries l ++ (k, v) ∷ entries r

  -- how many nodes stand on the longest way down
  abbrev pub height : Shape K V → ℕ
  height Bare = 0
  height (Fork i l k v r) = max (height l) (height r) + 1

  -- how many of its nodes stand at this place
  abbrev pub times : ℕ → Shape K V → ℕ
  times k Bare = 0
  times k (Fork i l _ _ r) = times k l + is_at i k + times k r

  -- the sides of each node differ by at most one in height
  abbrev pub IsBalanced : Shape K V → Type 0
  IsBalanced Bare = ⊤
  IsBalanced (Fork i l k v r) = IsBalanced l × IsBalanced r × (height l ≤ height r + 1) × (height r ≤ height l + 1)
