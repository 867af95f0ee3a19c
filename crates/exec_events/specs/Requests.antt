-- What a wait or a next trigger asks for.
use Rattle.std.specs.Prelude.{Bool, true, false, List, Result, Ok}
use Rattle.kernel_view.specs.EventCore.declared.event.Ev.{Ev}
use Rattle.flat_design.specs.declared.faults.RunFault.{RunFault}
use Rattle.kernel_view.specs.SimModel.Values.{on_ok}
use Rattle.kernel_view.specs.SimModel.Configuration.{Wait, waits_for_any, waits_for_all, Trigger, Deadline}
use Rattle.kernel_view.specs.SimModel.Waits.{once}

-- a wait for any of these events, or for all, each counted once; and where each is there once
abbrev pub wait_for : Bool → List Ev → Wait
wait_for false = waits_for_any
wait_for true = λ xs. waits_for_all (once xs)

abbrev pub waiting_for : Bool → List Ev → Wait
waiting_for false xs = waits_for_any xs
waiting_for true xs = waits_for_all xs

-- when a wait so ends by time, or its fault
abbrev pub ends : Result Trigger RunFault → Result Deadline RunFault
ends r = on_ok r (λ t. Ok t.deadline)
