-- Events that a statement names, in the order in which it names them.
use Rattle.std.specs.Prelude.{Bool, ◌&&◌, List, [], ◌∷◌, ◌++◌, Option, Some, None, Result, Ok, Err, if◌then◌else◌}
use Rattle.kernel_view.specs.EventCore.declared.event.Ev.{Ev}
use Rattle.flat_design.specs.Code.{EventTerm}
use Rattle.flat_design.specs.declared.faults.RunFault.{RunFault}
use Rattle.kernel_view.specs.SimModel.Values.{on_ok}
use Rattle.kernel_view.specs.SimModel.Reading.{Here}
use Rattle.kernel_view.specs.SimModel.Waiting.{places_in, events_at}
use Rattle.kernel_view.specs.SimModel.Waits.{is_among}

-- in a wait for all an event that is there counts once
abbrev pub with_event : Bool → List Ev → Ev → List Ev
with_event all xs e = if all && is_among e xs then xs else xs ++ e ∷ []

-- the fault, where there is one
abbrev pub fault_of : {A : Type 0} → Result A RunFault → Option RunFault
fault_of (Ok x) = None
fault_of (Err f) = Some f

-- the first of two faults, where there is one
abbrev pub first_fault : Option RunFault → Option RunFault → Option RunFault
first_fault None f = f
first_fault (Some g) f = Some g

-- the events, all places evaluated before
abbrev pub events_named : Here → List EventTerm → Result (List Ev) RunFault
events_named h es = on_ok (places_in h es) (events_at h es)
