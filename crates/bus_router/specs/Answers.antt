-- What accesses read and write: the payload of each, and its response status.
--
-- At each memory accesses are carried out one behind another, in the order in which they are served there. Each finds the memory
-- as those before it left it; the first finds bytes 0. An access whose address no memory has is answered with ADDRESS.
use Rattle.std.specs.Prelude.{◌≡◌, ℕ, ◌<◌, ◌↔◌, List, [], Option, None, Some, length, replicate, take, fold, Contains, slice_index, slice_index_or, if◌then◌else◌}
use Rattle.std.specs.Option.{option_map_or}
use Rattle.traffic_file.specs.DmiMap.declared.order.Rank.{Rank}
use Rattle.traffic_file.specs.DmiMap.Ranks.{AreInOrder}
use Rattle.traffic_file.specs.PayloadPool.declared.payload.Payload.{Payload}
use Rattle.traffic_file.specs.PayloadPool.declared.payload.TheConstants.{READ, WRITE, IGNORE, INCOMPLETE, ADDRESS}
use Rattle.traffic_file.specs.DmiMap.Accesses.{accessed, memory_accessed}
use Rattle.traffic_file.specs.DmiMap.declared.ranges.TargetRange.{TargetRange}
use Rattle.traffic_file.specs.declared.Bus.{Bus}
use Rattle.traffic_file.specs.TextLines.declared.actions.BusAction.{BusAction}
use Rattle.traffic_file.specs.TextLines.declared.actions.BusAction.TheVariants.{Get, Put}
use Rattle.traffic_file.specs.Traffic.{line_at, target_at, range_of_line, home_of}
use Rattle.bus_router.specs.declared.rows.BusRow.{BusRow}
use Rattle.bus_router.specs.Times.{Table}

-- ---- the order at a memory

-- by the time at which they are served; at one time what is direct comes first, in the order of the file, and then what came
-- through the router, in the order of arrival, which is after time 0, and then of the file
abbrev pub served_rank : BusRow → Rank
served_rank row = record { first = row.s; second = if row.direct then 0 else row.a }

-- access k goes to this home
pub record IsOf (bus : Bus) (home k : ℕ) : Type 0 where
  pub there : k < length bus.lines
  pub home_is : home_of bus k ≡ Some home

-- these are the accesses of the home, in the order in which they are served
pub record IsServiceOrder (bus : Bus) (table : Table) (home : ℕ) (ks : List ℕ) : Type 0 where
  pub all : (k : ℕ) → Contains ks k ↔ IsOf bus home k
  pub order : AreInOrder (λ k. served_rank (table k)) ks

-- ---- what an access asks for

-- as wide as it is long, with no enable bytes
abbrev pub asked_by : ℕ → BusAction → Payload
asked_by address (Get len) = record { command = READ; address = address; bytes = replicate len 0; enables = []; width = len; status = INCOMPLETE }
asked_by address (Put bytes) = record { command = WRITE; address = address; bytes = bytes; enables = []; width = length bytes; status = INCOMPLETE }

-- the payload of access k before it is carried out
abbrev pub asked : Bus → ℕ → Payload
asked bus k = asked_by (line_at bus k).address (line_at bus k).action

-- the range of the home of each access, or none
pub record AreHomes (bus : Bus) (homes : List (Option TargetRange)) : Type 0 where
  pub many : length homes ≡ length bus.lines
  pub each : (k : ℕ) → k < length bus.lines → slice_index_or homes k None ≡ range_of_line bus k

-- ---- what it is answered

-- the first address of its home; of one without a home 0, which no definition looks at
abbrev pub low_of : Bus → ℕ → ℕ
low_of bus k = option_map_or (λ range. range.low) (range_of_line bus k) 0

-- a memory after these accesses, one behind another
abbrev pub memory_from : Bus → List ℕ → List ℕ → List ℕ
memory_from bus memory ks = fold (λ before k. memory_accessed (low_of bus k) (asked bus k) before) memory ks

-- the memory of a home after these accesses of all
abbrev pub memory_behind : Bus → ℕ → List ℕ → List ℕ
memory_behind bus home ks = memory_from bus (replicate (target_at bus home).size 0) ks

-- the payload at a place; past the end one that no definition looks at
abbrev pub payload_at : List Payload → ℕ → Payload
payload_at payloads k = slice_index_or payloads k (record { command = IGNORE; address = 0; bytes = []; enables = []; width = 0; status = INCOMPLETE })

-- each access of the home found the memory as those before it left it
pub record IsServedAt (bus : Bus) (table : Table) (payloads : List Payload) (home : ℕ) : Type 0 where
  pub ks : List ℕ
  pub order : IsServiceOrder bus table home ks
  pub each : (i : ℕ) → i < length ks
      → payload_at payloads (slice_index ks i) ≡ accessed (low_of bus (slice_index ks i)) (asked bus (slice_index ks i)) (memory_behind bus home (take i ks))

-- the payloads of all accesses, in the order of the file
pub record AreAnswers (bus : Bus) (table : Table) (payloads : List Payload) : Type 0 where
  pub many : length payloads ≡ length bus.lines
  pub nowhere : (k : ℕ) → k < length bus.lines → home_of bus k ≡ None → payload_at payloads k ≡ record (asked bus k) { status = ADDRESS }
  pub served : (home : ℕ) → home < length bus.targets → IsServedAt bus table payloads home
