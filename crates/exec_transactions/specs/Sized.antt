-- A payload of sizes that are known.
use Rattle.std.specs.Prelude.{ℕ, Some, Result, Ok, length}
use Rattle.exec_calls.specs.LogicValues.declared.kinds.Value.TheVariants as value
use Rattle.flat_design.specs.declared.names.NameUse.{NameUse}
use Rattle.flat_design.specs.declared.faults.RunFault.{RunFault}
use Rattle.exec_calls.specs.KernelTransactions.declared.payloads.MakeStop.{MakeStop}
use Rattle.exec_calls.specs.KernelTransactions.declared.payloads.MakeStop.TheVariants as made
use Rattle.exec_calls.specs.KernelState.declared.stops.StatementStop.{StatementStop}
use Rattle.exec_calls.specs.KernelState.declared.stops.StatementStop.TheVariants as stop
use Rattle.exec_calls.specs.SimModel.Values.{on_ok}
use Rattle.exec_calls.specs.SimModel.Residual.{Residual}
use Rattle.exec_calls.specs.SimModel.Payloads.{with_made}
use Rattle.exec_calls.specs.SimModel.Configuration.{Config}
use Rattle.exec_calls.specs.SimModel.Reading.{Here}
use Rattle.exec_calls.specs.SimModel.Storing.{passes, set_name}
use Rattle.exec_calls.specs.SimModel.Transport.{with_pool, size_within, may_make}

-- a variable holds a new payload
abbrev pub made_into : Config → ℕ → Residual → Here → NameUse → ℕ → ℕ → Config
made_into c p r h n len enables = set_name (with_pool (passes c p r) (with_made c.transactions.pool len enables)) p h n (value.Pay (Some (length c.transactions.pool)))

-- the bytes, the enable bytes and the number of live payloads are each within their bounds, or the first that is not is the fault
abbrev pub makes_sized : Config → ℕ → Residual → Here → NameUse → ℕ → ℕ → Result Config RunFault
makes_sized c p r h n len enables =
    on_ok (size_within 1 len) (λ x. on_ok (size_within 0 enables) (λ y. on_ok (may_make c) (λ ok. Ok (made_into c p r h n x y))))

-- why no payload is made is told as it is
abbrev pub stop_as : MakeStop → StatementStop
stop_as (made.Fault f) = stop.Fault f
stop_as made.NoMemory = stop.NoMemory
