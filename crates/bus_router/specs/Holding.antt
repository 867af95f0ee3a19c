-- The last access that brought an initiator a grant of a range. No public clause cites this module.
use Rattle.std.specs.Prelude.{◌≡◌, ℕ, ◌<◌, ◌≤◌, false}
use Rattle.traffic_file.specs.DmiMap.declared.ranges.TargetRange.{TargetRange}
use Rattle.traffic_file.specs.declared.Bus.{Bus}
use Rattle.traffic_file.specs.Traffic.{line_at, initiator_of}
use Rattle.bus_router.specs.Times.{Table, HoldsAll}
use Rattle.bus_router.specs.TableSofar.{TimedSofar}
use Rattle.bus_router.specs.Making.{IsDone}

-- access j of the initiator went through the router, with all its bytes in the range
pub record Brings (bus : Bus) (table : Table) (range : TargetRange) (i j : ℕ) : Type 0 where
  pub same : initiator_of bus j ≡ i
  pub routed : (table j).direct ≡ false
  pub done : HoldsAll range (line_at bus j)

abbrev pub NoneBrings : Bus → Table → TargetRange → ℕ → ℕ → Type 0
NoneBrings bus table range i k = (j : ℕ) → j < k → Brings bus table range i j → ⊥

-- j is the last below k that did
pub record LastBrings (bus : Bus) (table : Table) (range : TargetRange) (i k j : ℕ) : Type 0 where
  pub earlier : j < k
  pub brings : Brings bus table range i j
  pub last : (m : ℕ) → j < m → m < k → Brings bus table range i m → ⊥

-- what is done so far has the times of the bus, and the earlier accesses of k's initiator are back at this time
pub record Premises (bus : Bus) (table : Table) (k time : ℕ) : Type 0 where
  pub timed : TimedSofar bus (IsDone table) table
  pub closed : (j : ℕ) → j < k → initiator_of bus j ≡ initiator_of bus k → IsDone table j
  pub back : (j : ℕ) → j < k → initiator_of bus j ≡ initiator_of bus k → (table j).r ≤ time
