-- What a `Pool` ends as, where a `&mut` to one of its payloads is returned.
use Rattle.std.specs.Prelude.{ℕ, Result}
use Rattle.std.specs.Borrow.{LendsIfOk, Fml, MutBor}
use Rattle.payload_pool.specs.Payloads.{Payloads, with_payload}
use Rattle.payload_pool.specs.declared.payload.Payload.{Payload}
use Rattle.payload_pool.specs.declared.pool.Freed.{Freed}
use Rattle.payload_pool.specs.contracts.payload.Payload as payload
use Rattle.payload_pool.specs.contracts.pool.Pool as pool

-- the number has the last payload written through the borrow, and at `Err` the pool stays as it is
abbrev pub lends_payload : MutBor Payloads → ℕ → Result (MutBor Payload) Freed → Fml
lends_payload p t r = LendsIfOk pool.the_row payload.the_row p r (with_payload p.now t) p.now
