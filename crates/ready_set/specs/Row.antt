-- A set whose members, where they follow one another, are kept as a row beside the others, of which there is none then. No public
-- clause cites this module.
use Rattle.std.specs.Prelude.{◌≡◌, ℕ, zero, suc, ◌+◌, ◌-◌, ◌^◌, ◌<◌, ◌≤◌, List, [], ◌∷◌}
use Rattle.std.specs.Ordering.{nat_cmp}
use Rattle.std.specs.FinSet as set
use Rattle.ready_set.specs.Ready.{Ready}

-- n numbers that follow one another, from a on
unfoldable pub row : ℕ → ℕ → List ℕ
row a zero = []
row a (suc n) = a ∷ row (a + 1) n

-- the numbers of a row, where it has one, else the others
abbrev pub in_row : ℕ → ℕ → set.FinSet nat_cmp → set.FinSet nat_cmp
in_row a zero others = others
in_row a (suc n) others = set.from_list (row a (suc n))

-- the set, where a row of at least one number has all its members
abbrev pub with_row : ℕ → ℕ → Ready → Ready
with_row a n r = record { members = in_row a n r.members; spare = r.spare - n }

-- the numbers of the row are all the members, where it has one, and there is room for them
pub record IsRow (a n : ℕ) (r : Ready) : Type 0 where
  pub none : 0 < n → r.members ≡ set.empty
  pub room : n ≤ r.spare
  pub below : a + n < 2 ^ 32
