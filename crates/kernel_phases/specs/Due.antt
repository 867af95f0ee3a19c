-- A kernel between the taking of what is due and its wakes.
use Rattle.std.specs.Prelude.{◌≡◌, ◌≤◌, ◌+◌, ◌^◌, ℕ, List, [], length, vec_capacity, Some}
use Rattle.std.specs.Global.{Vec}
use Rattle.kernel_state.specs.KernelEvents.Numbered.{fixed}
use Rattle.kernel_state.specs.SimModel.Configuration.{Config}
use Rattle.kernel_state.specs.SimModel.Waits.{fire_all, wake_all}
use Rattle.kernel_state.specs.ProcessBodies.Bodies as bodies
use Rattle.kernel_state.specs.KernelProcesses.InstanceViews.{is_on, body_at}
use Rattle.kernel_state.specs.KernelProcesses.Sound as schedules
use Rattle.kernel_state.specs.KernelTransactions.Board.{IsWithin}
use Rattle.kernel_state.specs.Kernel.{StandsFor}
use Rattle.kernel_state.specs.declared.kernel.Kept.{Kept}
use Rattle.kernel_state.specs.declared.kernel.Kernel.{Kernel}

-- a sound kernel, but for instances that are due
pub record IsBetween (k : Kernel) : Type 0 where
  pub schedule : schedules.IsSound k.schedule
  pub bodies : (p : ℕ) (kept : Kept) → body_at k.schedule p ≡ Some kept → bodies.IsSound k.program.now kept.body
  pub serials : k.schedule.table.next ≤ 2 ^ 16 + k.made
  pub payloads : IsWithin k.made k.transactions

-- a list without members that has room for all events
pub record HasRoom (k : Kernel) (events : Vec ℕ) : Type 0 where
  pub none : events.items ≡ []
  pub room : length k.events ≤ vec_capacity events

-- these events fire, and then those of a list that has just the instances that are due wake
abbrev pub SetsOff : List ℕ → Kernel → Kernel → Type 0
SetsOff events old new = (c : Config) (due : List ℕ) → StandsFor old c → ((q : ℕ) → is_on due q ≡ is_on old.schedule.due.items q) → StandsFor new (wake_all due (fire_all (fixed events) c))
