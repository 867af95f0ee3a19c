-- How an access carries its bytes to a memory that does not begin at address 0, or from it: through the router and directly alike.
use Rattle.std.specs.Prelude.{ℕ, ◌-◌, ℤ, List}
use Rattle.payload_pool.specs.declared.payload.Payload.{Payload}
use Rattle.payload_pool.specs.Transfer.{carried, memory_after, status_of}

-- the payload as the memory from `low` on sees it
abbrev pub seen_from : ℕ → Payload → Payload
seen_from low p = record p { address = p.address - low }

-- the status of the access at a memory of this size
abbrev pub status_there : ℕ → Payload → ℕ → ℤ
status_there low p size = status_of (seen_from low p) size

-- the payload after the access: its address stays
abbrev pub accessed : ℕ → Payload → List ℕ → Payload
accessed low p memory = record (carried (seen_from low p) memory) { address = p.address }

-- the memory after the access
abbrev pub memory_accessed : ℕ → Payload → List ℕ → List ℕ
memory_accessed low p memory = memory_after (seen_from low p) memory
