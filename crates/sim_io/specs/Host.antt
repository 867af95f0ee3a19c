-- What a shelf of real files keeps count of.
use Rattle.std.specs.Prelude.{ℕ, ◌+◌, Result, Ok, Err}
use Rattle.sim_io.specs.declared.outside.Trouble.{Trouble}

-- the files that were opened for reading, those that were created, and how many calls that read and
-- that write failed
pub record HostState : Type 0 where
  pub opened : ℕ
  pub created : ℕ
  pub reads : ℕ
  pub writes : ℕ

-- how many files there are after one more was asked for
abbrev pub one_more : {T : Type 0} → ℕ → Result T Trouble → ℕ
one_more count (Ok value) = count + 1
one_more count (Err e) = count
