-- The table while it is made: what has come back, what waits to be served, and what is kept for what comes later. No public
-- clause cites this module.
use Rattle.std.specs.Prelude.{◌≡◌, ◌≢◌, ℕ, ◌+◌, ◌*◌, ◌^◌, ◌<◌, ◌≤◌, ◌⊎◌, true, false, nat_lt, List, Some, MatchOption, max, length, slice_index, slice_set, count_by}
use Rattle.std.specs.Ordering.{nat_cmp}
use Rattle.std.specs.FinMap as map
use Rattle.timed_queue.specs.SimTime.declared.moments.Time.{Time}
use Rattle.timed_queue.specs.Timed.{Timed}
use Rattle.traffic_file.specs.declared.Bus.{Bus}
use Rattle.traffic_file.specs.Traffic.{line_at, target_at, initiator_of, home_of}
use Rattle.bus_router.specs.declared.rows.BusRow.{BusRow}
use Rattle.bus_router.specs.declared.plan.Plan.{Plan}
use Rattle.bus_router.specs.Times.{Table, row_at, IsFirst, IsBefore, Earlier, IsHeld}
use Rattle.bus_router.specs.TableSofar.{IsAtSofar, TimedSofar}

-- ---- one access

-- it has come back: none comes back at 0
abbrev pub IsDone : Table → ℕ → Type 0
IsDone table k = 0 < (table k).r

-- it has begun, and is not back
pub record IsWaiting (table : Table) (k : ℕ) : Type 0 where
  pub begun : 0 < (table k).a
  pub idle : (table k).r ≡ 0

-- it has not begun
pub record IsFresh (table : Table) (k : ℕ) : Type 0 where
  pub a : (table k).a ≡ 0
  pub r : (table k).r ≡ 0

-- one that waits is on its way to the router
pub record IsBegun (bus : Bus) (table : Table) (k : ℕ) : Type 0 where
  pub there : k < length bus.lines
  pub closed : (j : ℕ) → j < k → initiator_of bus j ≡ initiator_of bus k → IsDone table j
  pub begins : IsFirst bus k → (table k).b ≡ (line_at bus k).time
  pub goes_on : (j : ℕ) → IsBefore bus j k → (table k).b ≡ max (line_at bus k).time (table j).r
  pub routed : (table k).direct ≡ false
  pub free : IsHeld bus table k (table k).b → ⊥
  pub arrives : (table k).a ≡ (table k).b + bus.delay

-- ---- homes

-- j is the last that went to the home
pub record LastThere (bus : Bus) (table : Table) (home j : ℕ) : Type 0 where
  pub at : IsAtSofar bus (IsDone table) table home j
  pub last : (m : ℕ) → IsAtSofar bus (IsDone table) table home m → (m ≡ j) ⊎ Earlier table m j

-- when the last that went to the home was served; 0 where none did
abbrev pub IsKept : Bus → Table → ℕ → ℕ → Type 0
IsKept bus table home end =
    (((m : ℕ) → IsAtSofar bus (IsDone table) table home m → ⊥) × (end ≡ 0)) ⊎ ((j : ℕ) × LastThere bus table home j × (end ≡ (table j).e))

-- ---- all

pub record Made (bus : Bus) (table : Table) (busy : List ℕ) (now : ℕ) : Type 0 where
  pub timed : TimedSofar bus (IsDone table) table
  pub waiting : (k : ℕ) → IsWaiting table k → IsBegun bus table k
  pub order : (m k : ℕ) → IsDone table m → (table m).direct ≡ false → IsWaiting table k → Earlier table m k
  pub reached : (m : ℕ) → IsDone table m → (table m).direct ≡ false → (table m).a ≤ now
  pub kept : (home : ℕ) → home < length bus.targets → IsKept bus table home (slice_index busy home)

-- each access of the initiator is back, waits, or comes behind one that waits
abbrev pub IsBehindWaiting : Bus → Table → ℕ → Type 0
IsBehindWaiting bus table k = (j : ℕ) × (j < k) × (initiator_of bus j ≡ initiator_of bus k) × IsWaiting table j

abbrev pub IsSettled : Bus → Table → ℕ → Type 0
IsSettled bus table i = (k : ℕ) → k < length bus.lines → initiator_of bus k ≡ i → IsDone table k ⊎ (IsWaiting table k ⊎ IsBehindWaiting bus table k)

-- the initiator's accesses below k are back, the last of them at `back`, and none from k on has begun
pub record Follows (bus : Bus) (table : Table) (i k back : ℕ) : Type 0 where
  pub past : (j : ℕ) → j < k → initiator_of bus j ≡ i → IsDone table j
  pub fresh : (j : ℕ) → k ≤ j → j < length bus.lines → initiator_of bus j ≡ i → IsFresh table j
  pub none : ((j : ℕ) → j < k → initiator_of bus j ≢ i) → back ≡ 0
  pub last : (j : ℕ) → j < k → initiator_of bus j ≡ i → ((m : ℕ) → j < m → m < k → initiator_of bus m ≢ i) → (table j).r ≡ back

-- ---- the queue of arrivals, and what of it is due now

-- k is one of what is due, from a place on
pub record IsRest (due : List ℕ) (place k : ℕ) : Type 0 where
  pub at : ℕ
  pub from : place ≤ at
  pub below : at < length due
  pub is : slice_index due at ≡ k

abbrev pub Times : Type 0
Times = map.FinMap nat_cmp Time

pub record Queued (table : Table) (now k : ℕ) (t : Time) : Type 0 where
  pub waiting : IsWaiting table k
  pub arrives : t.0 ≡ (table k).a
  pub later : now < t.0

pub record Due (table : Table) (now k : ℕ) : Type 0 where
  pub waiting : IsWaiting table k
  pub arrives : (table k).a ≡ now

-- what waits is due or in the queue, but for one access, where there is one that is being served
pub record Queues (table : Table) (times : Times) (due : List ℕ) (place now : ℕ) (served : ℕ → Type 0) : Type 0 where
  pub queued : (k : ℕ) (t : Time) → map.get times k ≡ Some t → Queued table now k t
  pub resting : (k : ℕ) → IsRest due place k → Due table now k
  pub unserved : (k : ℕ) → IsRest due place k → served k → ⊥
  pub all : (k : ℕ) → IsWaiting table k → served k ⊎ (IsRest due place k ⊎ (map.get times k ≡ Some (record { 0 = (table k).a })))
  pub rising : (p q : ℕ) → p < q → q < length due → slice_index due p < slice_index due q

-- ---- bounds

abbrev pub done_count : List BusRow → ℕ
done_count rows = count_by (λ row. nat_lt 0 row.r) rows

abbrev pub begun_count : List BusRow → ℕ
begun_count rows = count_by (λ row. nat_lt 0 row.a) rows

-- each access that is done makes times later by less than 2^42
abbrev pub limit : List BusRow → ℕ
limit rows = 2 ^ 42 * (done_count rows + 1)

pub record AreBounded (rows : List BusRow) : Type 0 where
  pub back : (k : ℕ) → (row_at rows k).r < limit rows
  pub arrived : (k : ℕ) → (row_at rows k).a < limit rows + 2 ^ 40

-- ---- what functions hand on

pub record Parts (bus : Bus) (rows : List BusRow) (busy : List ℕ) (queue : Timed) (now : ℕ) : Type 0 where
  pub many : length rows ≡ length bus.lines
  pub homes : length busy ≡ length bus.targets
  pub made : Made bus (row_at rows) busy now
  pub bounded : AreBounded rows
  pub room : length bus.lines ≤ queue.spare + begun_count rows

-- no access of initiators from this one on has begun
abbrev pub AreFresh : Bus → Table → ℕ → Type 0
AreFresh bus table from = (k : ℕ) → k < length bus.lines → from ≤ initiator_of bus k → IsFresh table k

-- all that waits is in the queue or is due, of initiators before `from`
pub record Making (bus : Bus) (rows : List BusRow) (busy : List ℕ) (queue : Timed) (due : List ℕ) (place now from : ℕ) : Type 0 where
  pub parts : Parts bus rows busy queue now
  pub settled : (i : ℕ) → i < from → IsSettled bus (row_at rows) i
  pub fresh : AreFresh bus (row_at rows) from
  pub queues : Queues (row_at rows) queue.times due place now (λ k. ⊥)

-- k is the next that is served
pub record Serving (bus : Bus) (rows : List BusRow) (busy : List ℕ) (queue : Timed) (due : List ℕ) (place now from k : ℕ) : Type 0 where
  pub parts : Parts bus rows busy queue now
  pub settled : (i : ℕ) → i < from → IsSettled bus (row_at rows) i
  pub fresh : AreFresh bus (row_at rows) from
  pub queues : Queues (row_at rows) queue.times due place now (λ m. m ≡ k)
  pub is_due : Due (row_at rows) now k
  pub least : (m : ℕ) → IsWaiting (row_at rows) m → m ≢ k → Earlier (row_at rows) k m

-- the initiator's accesses below k are back, the last of them at `back`
pub record Returning (bus : Bus) (rows : List BusRow) (busy : List ℕ) (queue : Timed) (due : List ℕ) (place now from i k back : ℕ) : Type 0 where
  pub parts : Parts bus rows busy queue now
  pub settled : (other : ℕ) → other < from → other ≢ i → IsSettled bus (row_at rows) other
  pub fresh : AreFresh bus (row_at rows) from
  pub before : i < from
  pub queues : Queues (row_at rows) queue.times due place now (λ k. ⊥)
  pub follows : Follows bus (row_at rows) i k back
  pub later : now ≤ back
  pub below : back < limit rows

-- ---- rows

abbrev pub waiting_row : ℕ → ℕ → BusRow
waiting_row b a = record { b = b; a = a; s = 0; e = 0; r = 0; direct = false }

abbrev pub direct_row : ℕ → BusRow
direct_row b = record { b = b; a = b; s = b; e = b; r = b; direct = true }

-- the router answers it
abbrev pub nowhere_row : ℕ → BusRow → BusRow
nowhere_row delay row = record { b = row.b; a = row.a; s = row.a; e = row.a; r = row.a + delay; direct = false }

-- a home serves it, where the one before was served at this time
abbrev pub home_row : ℕ → ℕ → ℕ → BusRow → BusRow
home_row delay latency end row = record {
  b = row.b;
  a = row.a;
  s = max row.a end;
  e = max row.a end + latency;
  r = max row.a end + latency + delay;
  direct = false;
}

pub record ServedNowhere (bus : Bus) (before after : BusRow) (busy busy' : List ℕ) : Type 0 where
  pub row : after ≡ nowhere_row bus.delay before
  pub homes : busy' ≡ busy

pub record ServedAt (bus : Bus) (before after : BusRow) (busy busy' : List ℕ) (home : ℕ) : Type 0 where
  pub there : home < length bus.targets
  pub row : after ≡ home_row bus.delay (target_at bus home).latency (slice_index busy home) before
  pub homes : busy' ≡ slice_set busy home after.e

-- the row of k after it is served
abbrev pub IsServedNow : Bus → ℕ → BusRow → BusRow → List ℕ → List ℕ → Type 0
IsServedNow bus k before after busy busy' = MatchOption (home_of bus k) (ServedNowhere bus before after busy busy') (ServedAt bus before after busy busy')

-- ---- a plan

abbrev pub IsMaking : Bus → Plan → ℕ → Type 0
IsMaking bus plan from = Making bus plan.rows.items plan.busy.items plan.queue plan.due.items plan.place plan.now from

abbrev pub IsServing : Bus → Plan → ℕ → ℕ → Type 0
IsServing bus plan from k = Serving bus plan.rows.items plan.busy.items plan.queue plan.due.items plan.place plan.now from k

abbrev pub IsReturning : Bus → Plan → ℕ → ℕ → ℕ → ℕ → Type 0
IsReturning bus plan from i k back = Returning bus plan.rows.items plan.busy.items plan.queue plan.due.items plan.place plan.now from i k back

-- every access of initiators before `from` is back
abbrev pub IsOver : Bus → Plan → ℕ → Type 0
IsOver bus plan from = Making bus plan.rows.items plan.busy.items plan.queue plan.due.items plan.place plan.now from
    × ((k : ℕ) → k < length bus.lines → initiator_of bus k < from → IsDone (row_at plan.rows.items) k)
