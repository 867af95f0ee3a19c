-- In the pool of a run the payload of each access is live.
use Rattle.std.proofs.Common.{ℕ, ◌<◌, [], length, Some, sym, ap, ◌∙◌, arith}
use Rattle.std.specs.Prelude.{unwrap_or}
use Rattle.bus_router.specs.PayloadPool.Payloads.{Payloads, payload_in}
use Rattle.bus_router.specs.PayloadPool.declared.payload.TheConstants.{IGNORE, INCOMPLETE}
use Rattle.bus_router.specs.TrafficFile.declared.Bus.{Bus}
use Rattle.bus_router.specs.Times.{Table}
use Rattle.bus_router.specs.Pools.{IsLive}
use Rattle.bus_runs.specs.Runs.{AreAnswersIn}

pub all_live : (bus : Bus) (table : Table) (pool : Payloads) → AreAnswersIn bus table pool → (k : ℕ) → k < length bus.lines → IsLive pool k
all_live bus table pool it k below =
    let many = it.answers.many in
    let each = ap payload_in (it.pooled.each k (omega arith)) in
    each ∙ ap Some (sym (ap (λ o. unwrap_or o (record { command = IGNORE; address = 0; bytes = []; enables = []; width = 0; status = INCOMPLETE })) each))
