-- Places in the order of the ranks that stand at them.
use Rattle.std.specs.Prelude.{◌≡◌, ℕ, ◌<◌, Bool, true, ◌&&◌, ◌||◌, ◌==◌, nat_lt, List, length, slice_index, slice_index_or}
use Rattle.dmi_map.specs.declared.order.Rank.{Rank}

-- the rank at a place; past the end one that no definition looks at
abbrev pub rank_at : List Rank → ℕ → Rank
rank_at ranks k = slice_index_or ranks k (record { first = 0; second = 0 })

-- a rank is less by its first number, at equal ones by its second; and of places with equal ranks the lesser one comes first
abbrev pub is_before : Rank → ℕ → Rank → ℕ → Bool
is_before rank j other k =
    nat_lt rank.first other.first || ((rank.first == other.first) && (nat_lt rank.second other.second || ((rank.second == other.second) && nat_lt j k)))

-- place j comes before place k
abbrev pub ComesBefore : (ℕ → Rank) → ℕ → ℕ → Type 0
ComesBefore ranks j k = is_before (ranks j) j (ranks k) k ≡ true

-- each place comes before each that stands behind it
abbrev pub AreInOrder : (ℕ → Rank) → List ℕ → Type 0
AreInOrder ranks places = (i j : ℕ) → i < j → j < length places → ComesBefore ranks (slice_index places i) (slice_index places j)
