-- The quantum keeper (IEEE 1666-2011, 16.2) and the global quantum (clause 12), in picoseconds.
use Rattle.std.specs.Prelude.{ℕ, ◌+◌, ◌-◌, ◌%◌, ◌^◌, Bool, ◌==◌, nat_lt, nat_le, Option, Some, None, if◌then◌else◌}
use Rattle.sim_time.specs.declared.moments.Time.{Time}
use Rattle.quantum_keeper.specs.declared.keeper.Keeper.{Keeper}

-- the local quantum: what is left at this moment of the global one
abbrev pub quantum_left : ℕ → ℕ → ℕ
quantum_left global now = if global == 0 then 0 else global - now % global

abbrev pub moment : ℕ → Time
moment picoseconds = record { 0 = picoseconds }

-- a keeper before its first use
abbrev pub at_start : Keeper
at_start = record { local = moment 0; next = moment 0 }

-- what a sum gives where it is a time, that is below 2^64
abbrev pub where_time : {X : Type 0} → ℕ → X → Option X
where_time sum x = if nat_lt sum (2 ^ 64) then Some x else None

-- a keeper that was reset at this moment
abbrev pub after_reset : ℕ → ℕ → Option Keeper
after_reset global now = where_time (now + quantum_left global now) (record { local = moment 0; next = moment (now + quantum_left global now) })

-- the keeper with this local time
abbrev pub with_local : Keeper → ℕ → Keeper
with_local k t = record k { local = moment t }

-- the keeper with this much added to its local time
abbrev pub after_inc : Keeper → ℕ → Option Keeper
after_inc k t = where_time (k.local.0 + t) (with_local k (k.local.0 + t))

-- the local time has reached the next sync point at this moment
abbrev pub must_sync : Keeper → ℕ → Option Bool
must_sync k now = where_time (now + k.local.0) (nat_le k.next.0 (now + k.local.0))
