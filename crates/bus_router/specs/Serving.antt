-- The answers while they are made. No public clause cites this module.
use Rattle.std.specs.Prelude.{◌≡◌, ◌≢◌, ℕ, ◌<◌, List, Option, None, Some, length, take, slice_index}
use Rattle.traffic_file.specs.PayloadPool.declared.payload.Payload.{Payload}
use Rattle.traffic_file.specs.PayloadPool.declared.payload.TheConstants.{ADDRESS}
use Rattle.traffic_file.specs.DmiMap.Accesses.{accessed}
use Rattle.traffic_file.specs.DmiMap.declared.ranges.TargetRange.{TargetRange}
use Rattle.traffic_file.specs.declared.Bus.{Bus}
use Rattle.traffic_file.specs.Traffic.{range_of_line}
use Rattle.bus_router.specs.Times.{Table}
use Rattle.bus_router.specs.Answers.{IsOf, asked, low_of, memory_from, payload_at, IsServedAt}

-- the payload of access k before the memories are reached
abbrev pub first_by : Bus → ℕ → Option TargetRange → Payload
first_by bus k None = record (asked bus k) { status = ADDRESS }
first_by bus k (Some range) = asked bus k

abbrev pub first_of : Bus → ℕ → Payload
first_of bus k = first_by bus k (range_of_line bus k)

abbrev pub AreFirst : Bus → List Payload → Type 0
AreFirst bus payloads = (k : ℕ) → k < length bus.lines → payload_at payloads k ≡ first_of bus k

-- the places are apart, and there
pub record ArePlaces (bus : Bus) (ks : List ℕ) : Type 0 where
  pub within : (i : ℕ) → i < length ks → slice_index ks i < length bus.lines
  pub apart : (i j : ℕ) → i < j → j < length ks → slice_index ks i ≢ slice_index ks j

-- the answer to the access at a place of an order, from this memory on
abbrev pub IsAnswered : Bus → List ℕ → List ℕ → List Payload → ℕ → Type 0
IsAnswered bus first ks payloads i =
    payload_at payloads (slice_index ks i) ≡ accessed (low_of bus (slice_index ks i)) (asked bus (slice_index ks i)) (memory_from bus first (take i ks))

-- the accesses before a place of an order are answered, and no other payload is another than before
pub record ServedSofar (bus : Bus) (first ks : List ℕ) (old payloads : List Payload) (memory : List ℕ) (i : ℕ) : Type 0 where
  pub many : length payloads ≡ length old
  pub memory_is : memory ≡ memory_from bus first (take i ks)
  pub done : (j : ℕ) → j < i → IsAnswered bus first ks payloads j
  pub others : (k : ℕ) → ((j : ℕ) → j < i → slice_index ks j ≢ k) → payload_at payloads k ≡ payload_at old k

-- the homes before this one are served
pub record HomesSofar (bus : Bus) (table : Table) (payloads : List Payload) (home : ℕ) : Type 0 where
  pub many : length payloads ≡ length bus.lines
  pub served : (t : ℕ) → t < home → IsServedAt bus table payloads t
  pub unserved : (k : ℕ) → k < length bus.lines → ((t : ℕ) → t < home → IsOf bus t k → ⊥) → payload_at payloads k ≡ first_of bus k
