-- How a payload carries its bytes to a memory or from it (IEEE 1666-2011, clause 14).
use Rattle.std.specs.Prelude.{ℕ, ◌+◌, ◌%◌, ◌^◌, ℤ, Bool, not, ◌&&◌, ◌||◌, ◌==◌, nat_le, List, [], ◌∷◌, Option, None, Some, unwrap_or, length, map, filter, slice_index, if◌then◌else◌}
use Rattle.std.specs.List.{list_any, range_with_len}
use Rattle.std.specs.Ordering.{int_eq}
use Rattle.payload_pool.specs.declared.payload.Payload.{Payload}
use Rattle.payload_pool.specs.declared.payload.TheConstants.{READ, WRITE, IGNORE, OK, ADDRESS, COMMAND, BURST, BYTE_ENABLE}

-- the places of a list, counted from 0
abbrev pub places : List ℕ → List ℕ
places xs = range_with_len 0 (length xs)

-- the address of byte i: after each width of bytes it begins again at the first
abbrev pub address_of : Payload → ℕ → ℕ
address_of p i = p.address + i % p.width

-- there are no enable bytes, or the one for byte i is 0xff
abbrev pub is_enabled : List ℕ → ℕ → Bool
is_enabled enables i = (length enables == 0) || (slice_index enables (i % length enables) == 255)

-- ---- the status

-- one of the three commands
abbrev pub is_command : ℤ → Bool
is_command c = int_eq c READ || (int_eq c WRITE || int_eq c IGNORE)

-- neither 0x00 nor 0xff
abbrev pub is_bad_enable : ℕ → Bool
is_bad_enable e = not (e == 0) && not (e == 255)

-- past 64 bits, or past a memory of this size
abbrev pub is_outside : ℕ → ℕ → Bool
is_outside size address = nat_le (2 ^ 64) address || nat_le size address

-- some byte has no place in a memory of this size
abbrev pub leaves : Payload → ℕ → Bool
leaves p size = list_any (λ i. is_outside size (address_of p i)) (places p.bytes)

-- the first case that holds
abbrev pub status_of : Payload → ℕ → ℤ
status_of p size =
    if not (is_command p.command) then COMMAND else
    if int_eq p.command IGNORE then OK else
    if p.width == 0 then BURST else
    if list_any is_bad_enable p.enables then BYTE_ENABLE else
    if leaves p size then ADDRESS else OK

-- bytes are moved for this command
abbrev pub moves : Payload → ℕ → ℤ → Bool
moves p size command = int_eq (status_of p size) OK && int_eq p.command command

-- ---- the bytes

-- byte i is enabled and goes to the address a
abbrev pub goes_to : Payload → ℕ → ℕ → Bool
goes_to p a i = is_enabled p.enables i && (address_of p i == a)

-- the last of a list
abbrev pub last_of : List ℕ → Option ℕ
last_of [] = None
last_of (x ∷ xs) = Some (unwrap_or (last_of xs) x)

-- the byte at this place, or as before where there is no place
abbrev pub byte_or : List ℕ → ℕ → Option ℕ → ℕ
byte_or bytes before None = before
byte_or bytes before (Some i) = slice_index bytes i

-- what a write leaves at the address a: the last enabled byte that goes there, or what was there
abbrev pub written_at : Payload → List ℕ → ℕ → ℕ
written_at p memory a = byte_or p.bytes (slice_index memory a) (last_of (filter (goes_to p a) (places p.bytes)))

-- what a read leaves at place i: the memory's byte where it is enabled, or what was there
abbrev pub read_at : Payload → List ℕ → ℕ → ℕ
read_at p memory i = if is_enabled p.enables i then slice_index memory (address_of p i) else slice_index p.bytes i

-- the memory after the transfer
abbrev pub memory_after : Payload → List ℕ → List ℕ
memory_after p memory = if moves p (length memory) WRITE then map (written_at p memory) (places memory) else memory

-- the data after the transfer
abbrev pub bytes_after : Payload → List ℕ → List ℕ
bytes_after p memory = if moves p (length memory) READ then map (read_at p memory) (places p.bytes) else p.bytes

-- the payload after the transfer
abbrev pub carried : Payload → List ℕ → Payload
carried p memory = record p { bytes = bytes_after p memory; status = status_of p (length memory) }
