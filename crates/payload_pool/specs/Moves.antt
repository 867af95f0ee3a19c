-- One byte of a transfer. No public clause cites this module.
use Rattle.std.specs.Prelude.{ℕ, List, slice_index, slice_set, if◌then◌else◌}
use Rattle.payload_pool.specs.declared.payload.Payload.{Payload}
use Rattle.payload_pool.specs.Transfer.{address_of, is_enabled}

-- the memory with byte i, if it is enabled
abbrev pub after_sent : Payload → ℕ → List ℕ → List ℕ
after_sent p i memory = if is_enabled p.enables i then slice_set memory (address_of p i) (slice_index p.bytes i) else memory

-- the payload with byte i from the memory, if it is enabled
abbrev pub after_fetched : Payload → ℕ → List ℕ → Payload
after_fetched p i memory = if is_enabled p.enables i then record p { bytes = slice_set p.bytes i (slice_index memory (address_of p i)) } else p
