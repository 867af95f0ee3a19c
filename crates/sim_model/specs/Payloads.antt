-- The payloads of a run by their serials, which are given from 0 and never twice (IEEE 1666-2011, 14.5): each with the count of
-- those who hold it, or nothing once it was freed.
use Rattle.std.specs.Prelude.{ℕ, List, [], ◌∷◌, ◌++◌, filter, length, slice_get, slice_set, is_some, unwrap_or, Option, Some, None}
use Rattle.payload_pool.specs.Payloads.{new_payload, payload_in, one_more, one_less, rewritten}
use Rattle.payload_pool.specs.declared.payload.Payload.{Payload}
use Rattle.payload_pool.specs.declared.pool.Counted.{Counted}

abbrev pub Payloads : Type 0
Payloads = List (Option Counted)

abbrev pub counted_at : Payloads → ℕ → Option Counted
counted_at ps t = unwrap_or (slice_get ps t) None

-- the live payload of the number
abbrev pub payload_of : Payloads → ℕ → Option Payload
payload_of ps t = payload_in (counted_at ps t)

abbrev pub live_payloads : Payloads → ℕ
live_payloads ps = length (filter is_some ps)

-- a new payload that nobody has written is held once; its serial is the number of those that were made before
abbrev pub with_made : Payloads → ℕ → ℕ → Payloads
with_made ps len enables = ps ++ Some (record { payload = new_payload len enables; count = 1 }) ∷ []

abbrev pub with_acquired : Payloads → ℕ → Payloads
with_acquired ps t = slice_set ps t (one_more (counted_at ps t))

abbrev pub with_released : Payloads → ℕ → Payloads
with_released ps t = slice_set ps t (one_less (counted_at ps t))

-- its count stays, and the payload is this one
abbrev pub with_payload : Payloads → ℕ → Payload → Payloads
with_payload ps t q = slice_set ps t (rewritten (counted_at ps t) q)
