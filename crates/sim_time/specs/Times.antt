use Rattle.std.specs.Prelude.{ℕ, zero, suc, ◌*◌, ◌^◌, ◌/◌, ◌%◌, nat_lt, if◌then◌else◌, Option, Some, None, Result, Ok, Err}
use Rattle.sim_time.specs.declared.moments.Time.{Time}
use Rattle.sim_time.specs.declared.moments.Resolution.{Resolution}
use Rattle.sim_time.specs.declared.moments.Unit.{Unit as TimeUnit}
use Rattle.sim_time.specs.declared.moments.Unit.TheVariants.{Fs, Ps, Ns, Us, Ms, S}
use Rattle.sim_time.specs.declared.moments.UnitStop.{UnitStop}
use Rattle.sim_time.specs.declared.moments.UnitStop.TheVariants as stop

-- the time of that many resolutions, which is there below 2^64
abbrev pub time_of : ℕ → Option Time
time_of ticks = if nat_lt ticks (2 ^ 64) then Some (record { 0 = ticks }) else None

-- how many femtoseconds a unit has
abbrev pub femtoseconds_in : TimeUnit → ℕ
femtoseconds_in Fs = 1
femtoseconds_in Ps = 1000
femtoseconds_in Ns = 1000000
femtoseconds_in Us = 1000000000
femtoseconds_in Ms = 1000000000000
femtoseconds_in S = 1000000000000000

-- how many whole picoseconds a unit has
abbrev pub picoseconds_in : TimeUnit → ℕ
picoseconds_in Fs = 0
picoseconds_in Ps = 1
picoseconds_in Ns = 1000
picoseconds_in Us = 1000000
picoseconds_in Ms = 1000000000
picoseconds_in S = 1000000000000

-- and a resolution
abbrev pub femtoseconds_of : Resolution → ℕ
femtoseconds_of r = 10 ^ r.power

-- a number of resolutions, where it is a time
abbrev pub within_range : Option Time → Result Time UnitStop
within_range None = Err stop.Range
within_range (Some t) = Ok t

-- so many femtoseconds, with that remainder, as a number of resolutions
abbrev pub whole_ticks : ℕ → ℕ → ℕ → Result Time UnitStop
whole_ticks zero span resolution = within_range (time_of (span / resolution))
whole_ticks (suc rest) span resolution = Err stop.Inexact

-- the time of so many units at a resolution
abbrev pub ticks_of : ℕ → TimeUnit → Resolution → Result Time UnitStop
ticks_of n unit r = whole_ticks ((n * femtoseconds_in unit) % femtoseconds_of r) (n * femtoseconds_in unit) (femtoseconds_of r)
