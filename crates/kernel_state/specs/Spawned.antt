-- A spawned instance.
use Rattle.std.specs.Prelude.{◌≡◌, ℕ, Bool, true, false, List, ◌∷◌, ◌++◌, slice_get, Option, Some, None, Result, Ok, Err, if◌then◌else◌}
use Rattle.std.specs.Fmt.{decimal}
use Rattle.kernel_processes.specs.FlatDesign.Code.{arena_of, body_at}
use Rattle.kernel_processes.specs.FlatDesign.declared.design.Design.{Design}
use Rattle.kernel_processes.specs.FlatDesign.declared.faults.RunFault.{RunFault}
use Rattle.kernel_processes.specs.FlatDesign.declared.faults.RunFault.TheVariants as fault
use Rattle.kernel_processes.specs.InstanceTable.declared.SpawnStop.{SpawnStop}
use Rattle.kernel_processes.specs.InstanceTable.declared.SpawnStop.TheVariants as spawn_stop
use Rattle.kernel_processes.specs.SimModel.Residual.{skip}
use Rattle.kernel_processes.specs.SimModel.Configuration as model
use Rattle.kernel_processes.specs.SimModel.Configuration.{Config, Instance, below}
use Rattle.kernel_processes.specs.SimModel.Calls.{body_name, home_path, added, runnable_unless}
use Rattle.kernel_processes.specs.InstanceViews.{kind_of}
use Rattle.kernel_state.specs.declared.kernel.Offspring.{Offspring}

-- before its body begins, it waits for its static sensitivity or for nothing
abbrev pub offspring_in : Design → ℕ → Offspring → Instance
offspring_in d serial o = record {
  kind = kind_of o.kind;
  home = o.home;
  path = below (home_path d (slice_get d.instances o.home)) (body_name (body_at (arena_of d.code) o.code) ++ 95 ∷ decimal serial);
  static = o.sensitive;
  code = o.code;
  arguments = o.arguments.items;
  residual = skip;
  started = false;
  wait = if o.waits then model.waits_statically else model.waits_for_nothing;
  deadline = model.no_deadline;
  trigger = None;
  suspended = false;
  kept = false;
  disabled = false;
  ended = false;
}

-- the configuration with it under the next serial
abbrev pub with_offspring : Config → ℕ → Offspring → Config
with_offspring c serial o = runnable_unless o.waits serial (added c (offspring_in c.design serial o))

-- whether as many live as may is answered as it is
abbrev pub AnswersMay : Result ℕ SpawnStop → Result Unit RunFault → Type 0
AnswersMay (Ok n) may = may ≡ Ok tt
AnswersMay (Err spawn_stop.TooMany) may = may ≡ Err fault.TooManyInstances
AnswersMay (Err spawn_stop.NoMemory) may = Unit {0}
