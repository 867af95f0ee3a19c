-- Events by name: one of the design's by its number, or one of those that each instance has, by its serial.
use Rattle.std.specs.Prelude.{Bool, false, ◌==◌}
use Rattle.event_core.specs.declared.event.Ev.{Ev}
use Rattle.event_core.specs.declared.event.Ev.TheVariants.{Fixed, Terminated, Restarted}

-- both are the same event
abbrev pub same_event : Ev → Ev → Bool
same_event (Fixed a) (Fixed b) = a == b
same_event (Terminated a) (Terminated b) = a == b
same_event (Restarted a) (Restarted b) = a == b
same_event (Fixed a) (Terminated b) = false
same_event (Fixed a) (Restarted b) = false
same_event (Terminated a) (Fixed b) = false
same_event (Terminated a) (Restarted b) = false
same_event (Restarted a) (Fixed b) = false
same_event (Restarted a) (Terminated b) = false
