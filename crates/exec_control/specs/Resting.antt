-- How a method waits after its return.
use Rattle.std.specs.Prelude.{ℕ, Bool, true, false, length, Option, Some, None, option_map}
use Rattle.std.specs.FinMap as map
use Rattle.exec_data.specs.InstanceTable.declared.instances.Instance.{Instance as Entry}
use Rattle.exec_data.specs.InstanceTable.declared.instances.Deadline.TheVariants as due
use Rattle.exec_data.specs.SimModel.Configuration.{Config, Instance, change_instance}
use Rattle.exec_data.specs.SimModel.Waits.{leaves_stack}
use Rattle.exec_data.specs.SimModel.Control.{next_wait}
use Rattle.exec_data.specs.KernelProcesses.Moves.{events_of, sensitive_of}
use Rattle.exec_data.specs.KernelProcesses.Moved.{HasRoom}
use Rattle.exec_data.specs.KernelProcesses.declared.parts.Process.{Process}
use Rattle.exec_data.specs.KernelProcesses.declared.parts.Trigger.{Trigger}
use Rattle.exec_data.specs.KernelProcesses.declared.parts.Wait.TheVariants as how
use Rattle.exec_data.specs.KernelState.Kernel.{trigger_of}
use Rattle.exec_data.specs.KernelState.declared.kernel.Kept.{Kept}
use Rattle.exec_data.specs.KernelState.declared.kernel.Kernel.{Kernel}
use Rattle.exec_control.specs.declared.endings.Ending.{Ending}
use Rattle.exec_control.specs.declared.endings.Ending.TheVariants as ending

-- by this next trigger, or by its static sensitivity; its body has not begun
abbrev pub rests_next : Option Trigger → Instance → Instance
rests_next t i = record i { started = false; wait = (next_wait (option_map trigger_of t)).wait; deadline = (next_wait (option_map trigger_of t)).deadline }

-- a method that has returned leaves the stack and waits again: its next trigger is used, and its body has not begun
abbrev pub rests_again : Config → ℕ → Instance → Config
rests_again c p i =
    leaves_stack (change_instance (change_instance c p (λ j. record j { trigger = None })) p (λ j. record j { started = false; wait = (next_wait i.trigger).wait; deadline = (next_wait i.trigger).deadline }))

-- this next trigger, or that of its static sensitivity
abbrev pub rest_of : Option Trigger → Trigger
rest_of None = record { wait = how.Static; deadline = due.None }
rest_of (Some t) = t

-- the next trigger that is kept of an instance
abbrev pub next_kept : Option (Entry (Process Kept)) → Option Trigger
next_kept None = None
next_kept (Some x) = x.body.body.trigger

-- how many events there are in the wait that it rests by
abbrev pub rest_count : Option Trigger → Option (Entry (Process Kept)) → ℕ
rest_count t x = length (events_of (rest_of t).wait (sensitive_of x))

-- there is room for that wait
abbrev pub CanRest : Kernel → ℕ → Option Trigger → Type 0
CanRest k p t = HasRoom p (rest_count t (map.get k.schedule.table.live p)) k.schedule

-- a body ends as that of a thread does
abbrev pub ends_thread : Ending → Bool
ends_thread ending.Thread = true
ends_thread (ending.Static n) = false
ends_thread ending.Other = false
