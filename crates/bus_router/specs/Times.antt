-- When each access begins, arrives, is served and is back, with the times of the base protocol on each hop.
--
-- An access begins when its initiator has the response to the one before. It takes the bus's delay on its way to the router,
-- waits there until its home has served the access before it, is served for its home's latency, and takes the delay on its way
-- back. An initiator that keeps grants reaches a memory directly where it holds one: then all is done at once.
use Rattle.std.specs.Prelude.{◌≡◌, ◌≢◌, ℕ, ◌+◌, ◌<◌, ◌≤◌, ◌↔◌, ◌⊎◌, Bool, true, false, ◌&&◌, nat_le, nat_lt, List, None, Some, max, length, slice_index_or}
use Rattle.traffic_file.specs.DmiMap.declared.ranges.TargetRange.{TargetRange}
use Rattle.traffic_file.specs.declared.Bus.{Bus}
use Rattle.traffic_file.specs.declared.BusLine.{BusLine}
use Rattle.traffic_file.specs.declared.Invalidate.{Invalidate}
use Rattle.traffic_file.specs.TextLines.Words.{length_of}
use Rattle.traffic_file.specs.Traffic.{line_at, target_at, initiator_at, invalidate_at, initiator_of, range_of_line, home_of}
use Rattle.bus_router.specs.declared.rows.BusRow.{BusRow}

-- the times of each access, by its place in the file
abbrev pub Table : Type 0
Table = ℕ → BusRow

-- the row at a place of a list; past the end one that no definition looks at
abbrev pub row_at : List BusRow → Table
row_at rows k = slice_index_or rows k (record { b = 0; a = 0; s = 0; e = 0; r = 0; direct = false })

-- ---- the accesses of one initiator

-- k is its first
abbrev pub IsFirst : Bus → ℕ → Type 0
IsFirst bus k = (m : ℕ) → m < k → initiator_of bus m ≢ initiator_of bus k

-- j is the one before k
pub record IsBefore (bus : Bus) (j k : ℕ) : Type 0 where
  pub earlier : j < k
  pub same : initiator_of bus j ≡ initiator_of bus k
  pub none_between : (m : ℕ) → j < m → m < k → initiator_of bus m ≢ initiator_of bus k

-- ---- the accesses of one home

-- j goes there through the router
pub record IsAt (bus : Bus) (table : Table) (home j : ℕ) : Type 0 where
  pub there : j < length bus.lines
  pub home_is : home_of bus j ≡ Some home
  pub routed : (table j).direct ≡ false

-- j comes before k: it arrives earlier, or at the same time and stands earlier in the file
abbrev pub Earlier : Table → ℕ → ℕ → Type 0
Earlier table j k = ((table j).a < (table k).a) ⊎ (((table j).a ≡ (table k).a) × (j < k))

-- none comes before k
abbrev pub IsFirstAt : Bus → Table → ℕ → ℕ → Type 0
IsFirstAt bus table home k = (m : ℕ) → IsAt bus table home m → Earlier table m k → ⊥

-- j is the one before k
pub record IsBeforeAt (bus : Bus) (table : Table) (home j k : ℕ) : Type 0 where
  pub at : IsAt bus table home j
  pub earlier : Earlier table j k
  pub none_between : (m : ℕ) → IsAt bus table home m → Earlier table j m → Earlier table m k → ⊥

-- ---- grants

-- all bytes of the access are in the range
pub record HoldsAll (range : TargetRange) (line : BusLine) : Type 0 where
  pub low : range.low ≤ line.address
  pub high : line.address + length_of line.action ≤ range.low + range.size

-- the invalidation shares an address with the range
abbrev pub reaches : Invalidate → TargetRange → Bool
reaches invalidate range = nat_lt invalidate.low (range.low + range.size) && nat_le range.low invalidate.high

-- no invalidation with a time from `from` to `to` shares an address with the range
abbrev pub IsLeft : Bus → TargetRange → ℕ → ℕ → Type 0
IsLeft bus range from to =
    (i : ℕ) → i < length bus.invalidates → from ≤ (invalidate_at bus i).time → (invalidate_at bus i).time ≤ to
    → reaches (invalidate_at bus i) range ≡ false

-- the grant of a range that access j brought its initiator is there for access k at a time: j went there through the router
-- with all its bytes in the range, and is back, and nothing took the grant away since j was served
pub record IsGranted (bus : Bus) (table : Table) (range : TargetRange) (j k time : ℕ) : Type 0 where
  pub earlier : j < k
  pub same : initiator_of bus j ≡ initiator_of bus k
  pub home_is : range_of_line bus j ≡ Some range
  pub routed : (table j).direct ≡ false
  pub done : HoldsAll range (line_at bus j)
  pub back : (table j).r ≤ time
  pub left : IsLeft bus range (table j).e time

-- the initiator of k keeps grants, and holds one at that time of the home of k, which has all bytes of k
pub record IsHeld (bus : Bus) (table : Table) (k time : ℕ) : Type 0 where
  pub keeps : (initiator_at bus (initiator_of bus k)).dmi ≡ true
  pub range : TargetRange
  pub home_is : range_of_line bus k ≡ Some range
  pub whole : HoldsAll range (line_at bus k)
  pub since : ℕ
  pub granted : IsGranted bus table range since k time

-- ---- the table

-- all is done when the access begins
pub record IsAtOnce (row : BusRow) : Type 0 where
  pub a : row.a ≡ row.b
  pub s : row.s ≡ row.b
  pub e : row.e ≡ row.b
  pub r : row.r ≡ row.b

-- the router answers it itself
pub record IsNowhere (delay : ℕ) (row : BusRow) : Type 0 where
  pub s : row.s ≡ row.a
  pub e : row.e ≡ row.a
  pub r : row.r ≡ row.a + delay

-- its home serves it, and the response goes back
pub record IsServed (delay latency : ℕ) (row : BusRow) : Type 0 where
  pub e : row.e ≡ row.s + latency
  pub r : row.r ≡ row.e + delay

-- the table has the times of the bus
pub record Timed (bus : Bus) (table : Table) : Type 0 where
  -- an access begins at its time, but not before the response to the one before is back
  pub begins : (k : ℕ) → k < length bus.lines → IsFirst bus k → (table k).b ≡ (line_at bus k).time
  pub goes_on : (j k : ℕ) → k < length bus.lines → IsBefore bus j k → (table k).b ≡ max (line_at bus k).time (table j).r
  -- it is direct exactly where its initiator holds a grant when it begins
  pub direct : (k : ℕ) → k < length bus.lines → ((table k).direct ≡ true) ↔ IsHeld bus table k (table k).b
  pub at_once : (k : ℕ) → k < length bus.lines → (table k).direct ≡ true → IsAtOnce (table k)
  -- else it arrives a delay later
  pub arrives : (k : ℕ) → k < length bus.lines → (table k).direct ≡ false → (table k).a ≡ (table k).b + bus.delay
  pub nowhere : (k : ℕ) → k < length bus.lines → (table k).direct ≡ false → home_of bus k ≡ None → IsNowhere bus.delay (table k)
  -- and its home begins to serve it when it has arrived and the one before it there is served
  pub alone : (home k : ℕ) → IsAt bus table home k → IsFirstAt bus table home k → (table k).s ≡ (table k).a
  pub behind : (home j k : ℕ) → IsAt bus table home k → IsBeforeAt bus table home j k → (table k).s ≡ max (table k).a (table j).e
  pub served : (home k : ℕ) → IsAt bus table home k → IsServed bus.delay (target_at bus home).latency (table k)

-- the list has a row of these times for each access
pub record IsTableOf (bus : Bus) (rows : List BusRow) : Type 0 where
  pub many : length rows ≡ length bus.lines
  pub timed : Timed bus (row_at rows)
