-- What a kernel stands for: a configuration, part by part.
use Rattle.std.specs.Prelude.{◌≡◌, ◌≤◌, ◌<◌, ◌+◌, ◌^◌, ℕ, Bool, true, false, List, [], ◌∷◌, ◌++◌, slice_get, option_map, Option, Some, None}
use Rattle.std.specs.Fmt.{decimal}
use Rattle.std.specs.FinMap as map
use Rattle.kernel_processes.specs.FlatDesign.Code.{Arena, arena_of, body_at}
use Rattle.kernel_processes.specs.FlatDesign.declared.design.Design.{Design}
use Rattle.kernel_processes.specs.SimModel.Configuration as model
use Rattle.kernel_processes.specs.SimModel.Configuration.{Config, path_of, below}
use Rattle.kernel_processes.specs.SimModel.Calls.{body_name, home_path}
use Rattle.process_bodies.specs.KernelBodies.Strip.{strip}
use Rattle.process_bodies.specs.KernelBodies.declared.program.Program.{Program}
use Rattle.process_bodies.specs.Bodies.{left_in}
use Rattle.process_bodies.specs.Bodies as bodies
use Rattle.kernel_processes.specs.InstanceViews.{body_at as kept_at, deadline_of}
use Rattle.kernel_processes.specs.Sound as schedules
use Rattle.kernel_processes.specs.declared.parts.Trigger.{Trigger}
use Rattle.kernel_processes.specs.Moved.{wait_as}
use Rattle.kernel_transactions.specs.Board.{StandsForTransactions, StandsForQuantum, IsWithin}
use Rattle.kernel_state.specs.Processes.{Beside, StandsForProcesses}
use Rattle.kernel_state.specs.declared.kernel.PathOf.{PathOf}
use Rattle.kernel_state.specs.declared.kernel.PathOf.TheVariants as path_by
use Rattle.kernel_state.specs.declared.kernel.Kept.{Kept}
use Rattle.kernel_state.specs.declared.kernel.Cycle.{Cycle}
use Rattle.kernel_state.specs.declared.kernel.Kernel.{Kernel}

-- the design, with its code
abbrev pub whole_design : Kernel → Design
whole_design k = record k.design { code = k.program.now.code }

-- the path of an instance: that of an object, or that of a spawned one
abbrev pub path_in : Design → ℕ → ℕ → PathOf → List ℕ
path_in d home code (path_by.Object n) = path_of d n
path_in d home code (path_by.Spawned n) = below (home_path d (slice_get d.instances home)) (body_name (body_at (arena_of d.code) code) ++ 95 ∷ decimal n)

abbrev pub trigger_of : Trigger → model.Trigger
trigger_of t = record { wait = wait_as t.wait; deadline = deadline_of t.deadline }

-- what is kept of an instance beside its waits and marks shows the rest of it; the guards of a body have no numbers
pub record Shows (d : Design) (program : Program) (kept : Kept) (i : Beside) : Type 0 where
  pub home : i.home ≡ kept.home
  pub path : i.path ≡ path_in d kept.home kept.body.calls.code kept.path
  pub code : i.code ≡ kept.body.calls.code
  pub arguments : i.arguments ≡ kept.body.calls.arguments.items
  pub residual : strip i.residual ≡ left_in program kept.body
  pub trigger : i.trigger ≡ option_map trigger_of kept.trigger

abbrev pub cycle_of : Cycle → model.Cycle
cycle_of x = record { phase = x.phase; begun = x.begun; now = x.now.0; end = option_map (λ t. t.0) x.end; stop_asked = x.stop_asked; stopped = x.stopped }

-- The script and what was seen of the run, the trace, are not kept. Of each instance, also of one that has ended, it is kept which one
-- spawned it.
pub record StandsFor (k : Kernel) (c : Config) : Type 0 where
  pub design : c.design ≡ whole_design k
  pub cycle : c.cycle ≡ cycle_of k.cycle
  pub processes : StandsForProcesses (Shows (whole_design k) k.program.now) k.schedule c.processes
  pub parents : c.processes.parents ≡ k.parents.items
  pub events : c.events ≡ k.events
  pub channels : c.channels ≡ k.channels
  pub transactions : StandsForTransactions k.transactions c.transactions
  pub quantum : StandsForQuantum k.transactions c.quantum
  pub variables : c.store.variables ≡ k.variables.items
  pub memories : c.store.memories ≡ k.memories.items

-- What holds of a kernel whatever it stands for.
pub record IsSound (k : Kernel) : Type 0 where
  pub schedule : schedules.IsSound k.schedule
  pub bodies : (p : ℕ) (kept : Kept) → kept_at k.schedule p ≡ Some kept → bodies.IsSound k.program.now kept.body
  pub nobody_due : k.schedule.due.items ≡ []
  pub serials : k.schedule.table.next ≤ 2 ^ 16 + k.made
  pub payloads : IsWithin k.made k.transactions
