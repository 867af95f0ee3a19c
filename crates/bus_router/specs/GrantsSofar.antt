-- The grants of the accesses before one of them. No public clause cites this module.
use Rattle.std.specs.Prelude.{◌≡◌, ◌≢◌, ℕ, ◌<◌, ◌≤◌, ◌⊎◌, List, Some, Contains, length, slice_get}
use Rattle.traffic_file.specs.DmiMap.declared.grants.Region.{Region}
use Rattle.traffic_file.specs.DmiMap.Regions.{with_region}
use Rattle.traffic_file.specs.DmiMap.declared.ranges.TargetRange.{TargetRange}
use Rattle.traffic_file.specs.declared.Bus.{Bus}
use Rattle.traffic_file.specs.Traffic.{range_of_line}
use Rattle.bus_router.specs.declared.rows.BusRow.{BusRow}
use Rattle.bus_router.specs.Times.{Table}
use Rattle.bus_router.specs.Leaving.{LeavesOf, Leaves, granted_by}

-- access j left its region, or leaves none and nothing changed
abbrev pub IsMore : Bus → BusRow → ℕ → List Region → List Region → Type 0
IsMore bus row j old new =
    ((range : TargetRange) × (range_of_line bus j ≡ Some range) × LeavesOf bus row j range × (new ≡ with_region old (granted_by bus j range)))
    ⊎ (((range : TargetRange) → range_of_line bus j ≡ Some range → LeavesOf bus row j range → ⊥) × (new ≡ old))

pub record LeftSofar (bus : Bus) (table : Table) (regions : List Region) (n : ℕ) : Type 0 where
  pub few : length regions ≤ n
  pub each : (region : Region) → Contains regions region → (j : ℕ) × (range : TargetRange) × Leaves bus table j range × (region ≡ granted_by bus j range)
  pub all : (j : ℕ) (range : TargetRange) → j < n → Leaves bus table j range → Contains regions (granted_by bus j range)
  pub once : (i j : ℕ) (region : Region) → i < j → j < length regions → slice_get regions i ≡ Some region → slice_get regions j ≢ Some region
