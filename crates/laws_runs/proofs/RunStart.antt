-- Before the first command nothing is runnable and nothing active, and every process was not begun yet.
use Rattle.std.proofs.Common.{List, [], map, slice_get, Option, Some, None, option_map, refl, sym, subst, arith}
use Rattle.std.proofs.lemmas.Option.{slice_get-map}
use Rattle.sim_model.specs.FlatDesign.declared.design.ProcessPart.{ProcessPart}
use Rattle.sim_model.specs.FlatDesign.declared.design.Design.{Design}
use Rattle.sim_model.specs.Configuration.{Processes, first_instance}
use Rattle.laws_runs.proofs.InstancesFit.{Fits, AllFit, stands-nowhere}

-- the processes of a design before the first command
abbrev pub first_processes : Design → Processes
first_processes d = record { runnable = []; stack = []; instances = map (first_instance d) d.processes; parents = map (λ (p : ProcessPart). None) d.processes }

first_at : (d : Design) (o : Option ProcessPart) → Fits (option_map (first_instance d) o) 0 0
first_at d None = omega arith
first_at d (Some p) = stands-nowhere (first_instance d p) 0 0 (omega arith) refl refl

pub first-fits : (d : Design) → AllFit (first_processes d)
first-fits d p = subst (λ o. Fits o 0 0) (sym (slice_get-map (first_instance d) d.processes p)) (first_at d (slice_get d.processes p))
