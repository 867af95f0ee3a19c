-- What a contract sees of a `Pool`.
use Rattle.std.specs.Prelude.{ℕ, ◌+◌, ◌-◌, ◌==◌, ℤ, List, Option, None, Some, replicate, if◌then◌else◌, refl}
use Rattle.std.specs.Coded.{Coded, code_by, coded×, coded_ℕ, coded_ℤ, coded_list}
use Rattle.std.specs.FinMap as map
use Rattle.numbered_slots.specs.Numbered.{Numbered, numbered_code, with_inserted, with_value, without}
use Rattle.payload_pool.specs.declared.payload.Payload.{Payload}
use Rattle.payload_pool.specs.declared.payload.TheConstants.{IGNORE, INCOMPLETE}
use Rattle.payload_pool.specs.declared.pool.Counted.{Counted}

-- the live payloads by number, each with the count of those that hold it, and the number that the next one gets
abbrev pub Payloads : Type 0
Payloads = Numbered Counted

-- a payload with its count is stored as the tuple of its fields
abbrev pub counted_code : Coded Counted
counted_code =
    code_by
    (ℤ × (ℕ × (List ℕ × (List ℕ × (ℕ × (ℤ × ℕ))))))
    (coded× coded_ℤ (coded× coded_ℕ (coded× (coded_list coded_ℕ) (coded× (coded_list coded_ℕ) (coded× coded_ℕ (coded× coded_ℤ coded_ℕ))))))
    (λ c. (c.payload.command, (c.payload.address, (c.payload.bytes, (c.payload.enables, (c.payload.width, (c.payload.status, c.count)))))))
    (λ p. record {
      payload = record { command = p.0; address = p.1.0; bytes = p.1.1.0; enables = p.1.1.1.0; width = p.1.1.1.1.0; status = p.1.1.1.1.1.0 };
      count = p.1.1.1.1.1.1;
    })
    (λ _. refl)

-- a pool is stored as what it shows
abbrev pub payloads_code : Coded Payloads
payloads_code = numbered_code counted_code

-- a payload with so many bytes and enable bytes that nobody has written
abbrev pub new_payload : ℕ → ℕ → Payload
new_payload len enables = record {
  command = IGNORE;
  address = 0;
  bytes = replicate len 0;
  enables = replicate enables 255;
  width = len;
  status = INCOMPLETE;
}

-- the pool with a new payload under the next number, held once
abbrev pub with_made : Payloads → ℕ → ℕ → Payloads
with_made p len enables = with_inserted p (record { payload = new_payload len enables; count = 1 })

-- the payload itself
abbrev pub payload_in : Option Counted → Option Payload
payload_in None = None
payload_in (Some c) = Some c.payload

-- the live payload of the number
abbrev pub payload_of : Payloads → ℕ → Option Payload
payload_of p t = payload_in (map.get p.live t)

-- held once more
abbrev pub one_more : Option Counted → Option Counted
one_more None = None
one_more (Some c) = Some (record c { count = c.count + 1 })

-- held once less, and nothing where nobody is left
abbrev pub one_less : Option Counted → Option Counted
one_less None = None
one_less (Some c) = if c.count - 1 == 0 then None else Some (record c { count = c.count - 1 })

-- the pool with this under the number, or with nothing
abbrev pub with_counted : Payloads → ℕ → Option Counted → Payloads
with_counted p t None = without p t
with_counted p t (Some c) = with_value p t c

abbrev pub with_acquired : Payloads → ℕ → Payloads
with_acquired p t = with_counted p t (one_more (map.get p.live t))

abbrev pub with_released : Payloads → ℕ → Payloads
with_released p t = with_counted p t (one_less (map.get p.live t))

-- the count stays, and the payload is this one
abbrev pub rewritten : Option Counted → Payload → Option Counted
rewritten None q = None
rewritten (Some c) q = Some (record c { payload = q })

-- the pool with this payload under the number, if one is live there
abbrev pub with_payload : Payloads → ℕ → Payload → Payloads
with_payload p t q = with_counted p t (rewritten (map.get p.live t) q)
