-- Deadlines that are taken away change no body, no home, no residual and no stack.
use Rattle.std.proofs.Common.{ℕ, Bool, true, false, cond, slice_get, map, Option, Some, None, option_map, refl, sym, subst}
use Rattle.std.proofs.lemmas.Option.{slice_get-map}
use Rattle.sim_model.specs.FlatDesign.declared.design.Design.{Design}
use Rattle.sim_model.specs.Configuration.{Instance, Processes, Deadline, no_deadline}
use Rattle.sim_model.specs.Phases.{without_deadline}
use Rattle.sim_model.specs.Clean.{times}
use Rattle.laws_runs.proofs.Fine.{Fine, FineAt, AllFine, same-fine}

timeless_if : (b : Bool) (d : Design) (i : Instance) (s : ℕ) → Fine d i s → Fine d (cond b (record i { deadline = no_deadline }) i) s
timeless_if true d i s h = same-fine d i (record i { deadline = no_deadline }) s s (record { home = refl; code = refl; residual = refl }) (λ n. n) h
timeless_if false d i s h = h

timeless_at : (d : Design) (time : Deadline → Bool) (o : Option Instance) (s : ℕ) → FineAt d o s → FineAt d (option_map (without_deadline time) o) s
timeless_at d time None s h = h
timeless_at d time (Some i) s h = timeless_if (time i.deadline) d i s h

pub timeless-fine : (d : Design) (time : Deadline → Bool) (ps : Processes) → AllFine d ps → AllFine d (record ps { instances = map (without_deadline time) ps.instances })
timeless-fine d time ps fine p =
    subst (λ o. FineAt d o (times p ps.stack)) (sym (slice_get-map (without_deadline time) ps.instances p)) (timeless_at d time (slice_get ps.instances p) (times p ps.stack) (fine p))
