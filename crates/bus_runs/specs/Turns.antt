-- Accesses on a hop take turns, and which of them are OK.
use Rattle.std.specs.Prelude.{◌≡◌, ℕ, ◌<◌, ◌≤◌, Some, length}
use Rattle.bus_router.specs.DmiMap.declared.ranges.TargetRange.{TargetRange}
use Rattle.bus_router.specs.TrafficFile.declared.Bus.{Bus}
use Rattle.bus_router.specs.TrafficFile.Traffic.{line_at, initiator_of, range_of_line}
use Rattle.bus_router.specs.Times.{Table, IsAt, Earlier, HoldsAll}

-- an initiator begins an access when the one before it is back, and a home one when it has served those that arrived before it
pub record TakeTurns (bus : Bus) (table : Table) : Type 0 where
  pub initiators : (j k : ℕ) → k < length bus.lines → j < k → initiator_of bus j ≡ initiator_of bus k → (table j).r ≤ (table k).b
  pub homes : (home j k : ℕ) → IsAt bus table home j → IsAt bus table home k → Earlier table j k → (table j).e ≤ (table k).s

-- access k has a home, which has all its bytes
pub record IsWhole (bus : Bus) (k : ℕ) : Type 0 where
  pub range : TargetRange
  pub home_is : range_of_line bus k ≡ Some range
  pub all : HoldsAll range (line_at bus k)
