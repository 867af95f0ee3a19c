-- The grants that stand when all accesses are back.
use Rattle.std.specs.Prelude.{◌≡◌, ◌≢◌, ℕ, ◌<◌, ◌≤◌, true, false, List, Some, Contains, length, slice_get}
use Rattle.traffic_file.specs.DmiMap.declared.grants.Region.{Region}
use Rattle.traffic_file.specs.DmiMap.Regions.{region_of}
use Rattle.traffic_file.specs.DmiMap.declared.ranges.TargetRange.{TargetRange}
use Rattle.traffic_file.specs.declared.Bus.{Bus}
use Rattle.traffic_file.specs.Traffic.{line_at, initiator_at, invalidate_at, initiator_of, range_of_line}
use Rattle.bus_router.specs.declared.rows.BusRow.{BusRow}
use Rattle.bus_router.specs.Times.{Table, HoldsAll, reaches}

-- no invalidation at this time or later shares an address with the range
abbrev pub StaysFrom : Bus → TargetRange → ℕ → Type 0
StaysFrom bus range from =
    (i : ℕ) → i < length bus.invalidates → from ≤ (invalidate_at bus i).time → reaches (invalidate_at bus i) range ≡ false

-- the initiator of access j keeps grants, the access went through the router with all its bytes in this range, and nothing took
-- the grant of the range away since the access was served
pub record LeavesOf (bus : Bus) (row : BusRow) (j : ℕ) (range : TargetRange) : Type 0 where
  pub keeps : (initiator_at bus (initiator_of bus j)).dmi ≡ true
  pub routed : row.direct ≡ false
  pub done : HoldsAll range (line_at bus j)
  pub stays : StaysFrom bus range row.e

-- access j leaves a grant of this range, that of its home
pub record Leaves (bus : Bus) (table : Table) (j : ℕ) (range : TargetRange) : Type 0 where
  pub there : j < length bus.lines
  pub home_is : range_of_line bus j ≡ Some range
  pub of : LeavesOf bus (table j) j range

-- the grant of the whole range to the initiator of access j
abbrev pub granted_by : Bus → ℕ → TargetRange → Region
granted_by bus j range = region_of (initiator_of bus j) range.target range.low range.size

-- each region was left by an access, each access left its region, and no region is there twice
pub record AreLeft (bus : Bus) (table : Table) (regions : List Region) : Type 0 where
  pub each : (region : Region) → Contains regions region → (j : ℕ) × (range : TargetRange) × Leaves bus table j range × (region ≡ granted_by bus j range)
  pub all : (j : ℕ) (range : TargetRange) → Leaves bus table j range → Contains regions (granted_by bus j range)
  pub once : (i j : ℕ) (region : Region) → i < j → j < length regions → slice_get regions i ≡ Some region → slice_get regions j ≢ Some region
