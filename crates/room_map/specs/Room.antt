-- What a contract sees of a `RoomMap`.
use Rattle.std.specs.Prelude.{ℕ, List}

-- the entries in rising order of their keys, for how many more there is room, and how many nodes stand on the longest way
-- that a call may go down to an entry
pub record Room (K V : Type 0) : Type 0 where
  pub entries : List (K × V)
  pub spare : ℕ
  pub depth : ℕ
