-- What a contract sees of a `Fifo` (IEEE 1666-2011, 6.23).
use Rattle.std.specs.Prelude.{ℕ, ◌+◌, ◌-◌, ◌==◌, List, [], ◌∷◌, ◌++◌, Option, None, length, drop, slice_get, if◌then◌else◌, refl}
use Rattle.std.specs.Coded.{Coded, code_by, coded×, coded_list, coded_ℕ}
use Rattle.logic_values.specs.declared.kinds.Value.{Value}
use Rattle.logic_values.specs.contracts.kinds.Value as value

-- how many values it holds at most, all values not yet read with the oldest first,
-- and how many were written and how many read in this evaluation phase
pub record Queued : Type 0 where
  pub size : ℕ
  pub unread : List Value
  pub written : ℕ
  pub read : ℕ

-- a fifo is stored as its fields
abbrev pub queued_code : Coded Queued
queued_code =
    code_by
    (ℕ × (List Value × (ℕ × ℕ)))
    (coded× coded_ℕ (coded× (coded_list value.the_row.coded) (coded× coded_ℕ coded_ℕ)))
    (λ q. (q.size, (q.unread, (q.written, q.read))))
    (λ p. record { size = p.0; unread = p.1.0; written = p.1.1.0; read = p.1.1.1 })
    (λ _. refl)

-- a fifo of this size with no value
abbrev pub nothing_in : ℕ → Queued
nothing_in size = record { size = size; unread = []; written = 0; read = 0 }

-- how many values can be read now: none that was written in this evaluation phase
abbrev pub available : Queued → ℕ
available q = length q.unread - q.written

-- how many values can be written now: the places of those read in this evaluation phase are not free yet
abbrev pub free : Queued → ℕ
free q = q.size - length q.unread - q.read

-- the oldest value, if it can be read now
abbrev pub readable : Queued → Option Value
readable q = if available q == 0 then None else slice_get q.unread 0

-- the oldest value is read, if it can be
abbrev pub after_read : Queued → Queued
after_read q = if available q == 0 then q else record q { unread = drop 1 q.unread; read = q.read + 1 }

-- the value is written behind the others, if there is a free place
abbrev pub after_write : Queued → Value → Queued
after_write q v = if free q == 0 then q else record q { unread = q.unread ++ v ∷ []; written = q.written + 1 }

-- the next evaluation phase: nothing is written or read in it yet
abbrev pub after_update : Queued → Queued
after_update q = record q { written = 0; read = 0 }
