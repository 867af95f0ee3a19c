-- Nothing names an instance: no list of processes, no event and no timer.
use Rattle.std.specs.Prelude.{◌≡◌, ℕ, Bool, true, false, Some}
use Rattle.sim_model.specs.EventCore.declared.event.Ev.{Ev}
use Rattle.sim_model.specs.Configuration.{Config, Instance, Deadline, instance_at, no_deadline}
use Rattle.sim_model.specs.Waits.{holds, wake, fire}
use Rattle.sim_model.specs.Phases.{due_instances}

pub record IsNamedNowhere (c : Config) (q : ℕ) : Type 0 where
  -- it is neither runnable nor active
  pub runnable : holds c.processes.runnable q ≡ false
  pub active : holds c.processes.stack q ≡ false
  -- an event, whichever fires, leaves it as it is, and does not make it runnable; and no wake reaches it
  pub events : (e : Ev) → instance_at (fire c e) q ≡ instance_at c q
  pub joins_by_none : (e : Ev) → holds (fire c e).processes.runnable q ≡ false
  pub wakes : wake c q ≡ c
  -- no timer stands for it: whichever deadlines are due, its is not
  pub timers : (due : Deadline → Bool) → due no_deadline ≡ false → holds (due_instances due 0 c.processes.instances) q ≡ false

-- the instance was made, and has ended
pub record HasEnded (c : Config) (q : ℕ) : Type 0 where
  pub instance : Instance
  pub is : instance_at c q ≡ Some instance
  pub over : instance.ended ≡ true
