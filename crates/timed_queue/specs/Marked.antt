-- Which places are marked: a bit for each of 64 places in a word for each of 11 levels. No public clause cites this module.
use Rattle.std.specs.Prelude.{◌≡◌, ◌≢◌, ℕ, ◌/◌, ◌%◌, ◌<◌, List, get_or}
use Rattle.std.specs.Int.{bit_at}

-- the bit of a place
abbrev pub mark_of : List ℕ → ℕ → ℕ
mark_of words place = bit_at (get_or words (place / 64) 0) (place % 64)

-- the bit of one place is this one, and the others are as before
pub record Marks (old new : List ℕ) (place mark : ℕ) : Type 0 where
  pub here : mark_of new place ≡ mark
  pub others : (q : ℕ) → q ≢ place → mark_of new q ≡ mark_of old q

-- the place is marked, and none before it is
pub record IsFirstMark (words : List ℕ) (place : ℕ) : Type 0 where
  pub within : place < 704
  pub marked : mark_of words place ≡ 1
  pub first : (q : ℕ) → q < place → mark_of words q ≡ 0
