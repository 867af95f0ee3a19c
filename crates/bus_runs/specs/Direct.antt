-- What the router does with an access, beside what is done directly.
use Rattle.std.specs.Prelude.{◌≡◌, ℕ, List, Some, length}
use Rattle.bus_router.specs.PayloadPool.declared.payload.Payload.{Payload}
use Rattle.bus_router.specs.PayloadPool.Transfer.{carried, memory_after, status_of}
use Rattle.bus_router.specs.DmiMap.Accesses.{accessed, memory_accessed, status_there}
use Rattle.bus_router.specs.DmiMap.declared.ranges.TargetRange.{TargetRange}
use Rattle.bus_router.specs.DmiMap.Ranges.{range_with, found_at}

-- the payload as the router hands it to a target: its address is the offset that the map has for it
abbrev pub handed : ℕ → Payload → Payload
handed offset p = record p { address = offset }

-- what comes back has the status and the bytes of the transfer, and its own address
abbrev pub handed_back : ℕ → Payload → List ℕ → Payload
handed_back offset p memory = record (carried (handed offset p) memory) { address = p.address }

-- the access of a payload to the memory of its range, done directly, is what the router does with it, which looks its address up: at the
-- same target, with the same status, the same data, and the same memory after it
pub record IsAsRouted (range : TargetRange) (p : Payload) (memory : List ℕ) (target offset : ℕ) : Type 0 where
  pub target_is : range.target ≡ target
  pub status_is : status_there range.low p (length memory) ≡ status_of (handed offset p) (length memory)
  pub payload_is : accessed range.low p memory ≡ handed_back offset p memory
  pub memory_is : memory_accessed range.low p memory ≡ memory_after (handed offset p) memory

abbrev pub DirectIsAsRouted : Type 0
DirectIsAsRouted =
    (ranges : List TargetRange) (range : TargetRange) (p : Payload) (memory : List ℕ) (target offset : ℕ) → range_with p.address ranges ≡ Some range
    → found_at ranges p.address ≡ Some (target, offset) → IsAsRouted range p memory target offset
