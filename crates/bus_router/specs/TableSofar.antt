-- The table of the accesses that are done so far. No public clause cites this module.
use Rattle.std.specs.Prelude.{◌≡◌, ℕ, ◌+◌, ◌<◌, ◌≤◌, ◌↔◌, true, false, None, Some, max}
use Rattle.traffic_file.specs.declared.Bus.{Bus}
use Rattle.traffic_file.specs.Traffic.{line_at, target_at, initiator_of, home_of}
use Rattle.bus_router.specs.declared.rows.BusRow.{BusRow}
use Rattle.bus_router.specs.Times.{Table, IsFirst, IsBefore, Earlier, IsHeld, IsAtOnce, IsNowhere, IsServed}

-- j is done, and went to the home through the router
pub record IsAtSofar (bus : Bus) (done : ℕ → Type 0) (table : Table) (home j : ℕ) : Type 0 where
  pub there : done j
  pub home_is : home_of bus j ≡ Some home
  pub routed : (table j).direct ≡ false

abbrev pub IsFirstSofar : Bus → (ℕ → Type 0) → Table → ℕ → ℕ → Type 0
IsFirstSofar bus done table home k = (m : ℕ) → IsAtSofar bus done table home m → Earlier table m k → ⊥

pub record IsBeforeSofar (bus : Bus) (done : ℕ → Type 0) (table : Table) (home j k : ℕ) : Type 0 where
  pub at : IsAtSofar bus done table home j
  pub earlier : Earlier table j k
  pub none_between : (m : ℕ) → IsAtSofar bus done table home m → Earlier table j m → Earlier table m k → ⊥

-- the times of an access follow one another
pub record Rises (row : BusRow) : Type 0 where
  pub arrives : row.b ≤ row.a
  pub waits : row.a ≤ row.s
  pub served : row.s ≤ row.e
  pub back : row.e ≤ row.r

-- what is done has the times of the bus, where at each home only what is done counts
pub record TimedSofar (bus : Bus) (done : ℕ → Type 0) (table : Table) : Type 0 where
  pub closed : (j k : ℕ) → done k → j < k → initiator_of bus j ≡ initiator_of bus k → done j
  pub rises : (k : ℕ) → done k → Rises (table k)
  pub begins : (k : ℕ) → done k → IsFirst bus k → (table k).b ≡ (line_at bus k).time
  pub goes_on : (j k : ℕ) → done k → IsBefore bus j k → (table k).b ≡ max (line_at bus k).time (table j).r
  pub direct : (k : ℕ) → done k → ((table k).direct ≡ true) ↔ IsHeld bus table k (table k).b
  pub at_once : (k : ℕ) → done k → (table k).direct ≡ true → IsAtOnce (table k)
  pub arrives : (k : ℕ) → done k → (table k).direct ≡ false → (table k).a ≡ (table k).b + bus.delay
  pub nowhere : (k : ℕ) → done k → (table k).direct ≡ false → home_of bus k ≡ None → IsNowhere bus.delay (table k)
  pub alone : (home k : ℕ) → IsAtSofar bus done table home k → IsFirstSofar bus done table home k → (table k).s ≡ (table k).a
  pub behind : (home j k : ℕ) → IsAtSofar bus done table home k → IsBeforeSofar bus done table home j k → (table k).s ≡ max (table k).a (table j).e
  pub served : (home k : ℕ) → IsAtSofar bus done table home k → IsServed bus.delay (target_at bus home).latency (table k)

-- the same of one row, whether it is done or the next
pub record Fits (bus : Bus) (done : ℕ → Type 0) (table : Table) (k : ℕ) : Type 0 where
  pub closed : (j : ℕ) → j < k → initiator_of bus j ≡ initiator_of bus k → done j
  pub rises : Rises (table k)
  pub begins : IsFirst bus k → (table k).b ≡ (line_at bus k).time
  pub goes_on : (j : ℕ) → IsBefore bus j k → (table k).b ≡ max (line_at bus k).time (table j).r
  pub direct : ((table k).direct ≡ true) ↔ IsHeld bus table k (table k).b
  pub at_once : (table k).direct ≡ true → IsAtOnce (table k)
  pub arrives : (table k).direct ≡ false → (table k).a ≡ (table k).b + bus.delay
  pub nowhere : (table k).direct ≡ false → home_of bus k ≡ None → IsNowhere bus.delay (table k)
  pub alone : (home : ℕ) → home_of bus k ≡ Some home → (table k).direct ≡ false → IsFirstSofar bus done table home k → (table k).s ≡ (table k).a
  pub behind : (home j : ℕ) → home_of bus k ≡ Some home → (table k).direct ≡ false → IsBeforeSofar bus done table home j k → (table k).s ≡ max (table k).a (table j).e
  pub served : (home : ℕ) → home_of bus k ≡ Some home → (table k).direct ≡ false → IsServed bus.delay (target_at bus home).latency (table k)
