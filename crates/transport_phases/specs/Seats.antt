-- Who requests and who responds on a hop: one transaction each, if any. No public clause cites this module.
use Rattle.std.specs.Prelude.{◌≡◌, ◌≢◌, ◌⊎◌, ℕ, Bool, true, false, not, ◌==◌, Option, None, Some, if◌then◌else◌}
use Rattle.std.specs.Ordering.{nat_cmp}
use Rattle.std.specs.FinMap as map
use Rattle.transport_phases.specs.declared.transaction.Kept.{Kept}
use Rattle.transport_phases.specs.Phases.{is_requesting, is_responding}
use Rattle.transport_phases.specs.Rows.{Rows, row_of, kept_in}

-- the transaction has the seat
abbrev pub has_seat : Option ℕ → ℕ → Bool
has_seat None t = false
has_seat (Some u) t = u == t

-- another one has it
abbrev pub has_other : Option ℕ → ℕ → Bool
has_other None t = false
has_other (Some u) t = not (u == t)

-- who has it where this transaction leaves it
abbrev pub seat_without : ℕ → Option ℕ → Option ℕ
seat_without t None = None
seat_without t (Some u) = if u == t then None else Some u

-- who has it where this transaction takes it, or has it no longer
abbrev pub seat_after : Option ℕ → ℕ → Bool → Option ℕ
seat_after seat t true = Some t
seat_after seat t false = seat_without t seat

-- of all transactions the one that has the seat passes the test
abbrev pub IsSeat : (Kept → Bool) → map.FinMap nat_cmp Kept → Option ℕ → Type 0
IsSeat test rows seat = (t : ℕ) → test (kept_in rows t) ≡ has_seat seat t

-- no row says nothing, and the two seats are those of who requests and who responds
pub record IsSound (rows : map.FinMap nat_cmp Kept) (requester responder : Option ℕ) : Type 0 where
  pub says : (t : ℕ) → map.get rows t ≡ row_of (kept_in rows t)
  pub requests : IsSeat is_requesting rows requester
  pub responds : IsSeat is_responding rows responder

-- the transaction has this row afterwards, and each other one the row that it had
abbrev pub SetsRow : map.FinMap nat_cmp Kept → map.FinMap nat_cmp Kept → ℕ → Kept → Type 0
SetsRow old new t k = (u : ℕ) → map.get new u ≡ (if t == u then row_of k else map.get old u)

-- no transaction but this one passes the test
abbrev pub NoOther : (Kept → Bool) → Rows → ℕ → Type 0
NoOther test r t = (u : ℕ) → u ≢ t → test (kept_in r.kept u) ≡ false

-- where this is kept of a transaction that passes the test then, it passed before, or no other one does
abbrev pub MayEnter : (Kept → Bool) → Rows → ℕ → Kept → Type 0
MayEnter test r t k = test k ≡ true → (test (kept_in r.kept t) ≡ true) ⊎ NoOther test r t
