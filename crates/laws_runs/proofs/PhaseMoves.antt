-- What the phases of the scheduler do to the processes.
use Rattle.std.proofs.Common.{◌≡◌, ◌≢◌, ◌+◌, ◌<◌, ℕ, suc, Bool, true, false, cond, List, [], ◌∷◌, ◌++◌, length, map, slice_get, Option, Some, None, option_map, refl, sym, ap, ◌∙◌, subst, arith, ⊎_elim}
use Rattle.std.proofs.lemmas.Option.{slice_get-map, slice_get_cases}
use Rattle.sim_model.specs.FlatDesign.declared.design.ProcessPart.{ProcessPart}
use Rattle.sim_model.specs.FlatDesign.declared.design.Design.{Design}
use Rattle.sim_model.specs.Configuration.{Config, Instance, Processes, Deadline, no_deadline, change, change_instance, with_runnable, first_instance}
use Rattle.sim_model.specs.Waits.{freed}
use Rattle.sim_model.specs.Phases.{without_deadline, initialize_each}
use Rattle.sim_model.specs.Clean.{times}
use Rattle.laws_runs.proofs.Times.{times-last_here, times-last_other}
use Rattle.laws_runs.proofs.Changes.{change-here, change-other}
use Rattle.laws_runs.proofs.InstancesFit.{Stands, Fits, AllFit, Moved, never, stands-free, moved-to}
use Rattle.laws_runs.proofs.RunStart.{first_processes}

-- ---- what is due fires together

timeless_stands : (i : Instance) (r s : ℕ) → Stands i r s → Stands (record i { deadline = no_deadline }) r s
timeless_stands i r s h = record {
  once = h.once;
  free = λ n. let f = h.free n in record { wait = f.wait; deadline = refl; kept = f.kept };
  lives = h.lives;
  over = λ e. let f = h.over e in record { wait = f.wait; deadline = refl; kept = f.kept };
  left = h.left;
  kept = h.kept;
  no_wait = h.no_wait;
  no_time = λ e. refl;
  suspended = h.suspended;
}

timeless_if : (b : Bool) (i : Instance) (r s : ℕ) → Stands i r s → Stands (cond b (record i { deadline = no_deadline }) i) r s
timeless_if true i r s h = timeless_stands i r s h
timeless_if false i r s h = h

timeless_at : (time : Deadline → Bool) (o : Option Instance) (r s : ℕ) → Fits o r s → Fits (option_map (without_deadline time) o) r s
timeless_at time None r s h = h
timeless_at time (Some i) r s h = timeless_if (time i.deadline) i r s h

pub timeless-fits : (time : Deadline → Bool) (ps : Processes) → AllFit ps → AllFit (record ps { instances = map (without_deadline time) ps.instances })
timeless-fits time ps fits p =
    subst (λ o. Fits o (times p ps.runnable) (times p ps.stack)) (sym (slice_get-map (without_deadline time) ps.instances p))
    (timeless_at time (slice_get ps.instances p) (times p ps.runnable) (times p ps.stack) (fits p))

-- ---- initialization

-- an instance that was not begun and waits in no list
pub record Unbegun (ps : Processes) (q : ℕ) : Type 0 where
  pub instance : Instance
  pub at : slice_get ps.instances q ≡ Some instance
  pub lives : instance.ended ≡ false
  pub kept : instance.kept ≡ false
  pub suspended : instance.suspended ≡ false
  pub nowhere : times q ps.runnable + times q ps.stack ≡ 0

last_move : (ps : Processes) (p : ℕ) (f : Instance → Instance) → Moved p ps (record { runnable = ps.runnable ++ p ∷ []; stack = ps.stack; instances = change ps.instances p f; parents = ps.parents })
last_move ps p f = record {
  others = λ q apart. change-other ps.instances p q f apart;
  runnable = λ q apart. let same = times-last_other p q ps.runnable apart in omega (arith, same);
  active = λ q apart. omega arith;
}

first_fits : (c : Config) (p : ℕ) → Unbegun c.processes p → AllFit c.processes → AllFit (with_runnable (change_instance c p freed) (c.processes.runnable ++ p ∷ [])).processes
first_fits c p u fits =
    let i = u.instance in
    let last = times-last_here p c.processes.runnable in
    let none = u.nowhere in
    moved-to p c.processes _ (freed i) (last_move c.processes p freed) (change-here c.processes.instances p freed i u.at) fits
    (stands-free (freed i) (times p (c.processes.runnable ++ p ∷ [])) (times p c.processes.stack) (omega (arith, last, none)) (record { wait = refl; deadline = refl; kept = u.kept }) u.lives (never i.suspended u.suspended))

others_unbegun : (c : Config) (p q : ℕ) → q ≢ p → Unbegun c.processes q → Unbegun (with_runnable (change_instance c p freed) (c.processes.runnable ++ p ∷ [])).processes q
others_unbegun c p q apart u =
    let same = times-last_other p q c.processes.runnable apart in
    let none = u.nowhere in
    record { instance = u.instance; at = change-other c.processes.instances p q freed apart ∙ u.at; lives = u.lives; kept = u.kept; suspended = u.suspended; nowhere = omega (arith, same, none) }

-- those from p on
abbrev pub UnbegunFrom : ℕ → List ProcessPart → Processes → Type 0
UnbegunFrom p xs ps = (k : ℕ) → k < length xs → Unbegun ps (p + k)

rest_unbegun : (p : ℕ) (x : ProcessPart) (xs : List ProcessPart) (ps : Processes) → UnbegunFrom p (x ∷ xs) ps → UnbegunFrom (suc p) xs ps
rest_unbegun p x xs ps u k less = let one : p + suc k ≡ suc p + k = omega arith in subst (λ n. Unbegun ps n) one (u (suc k) (omega (arith, less)))

here_unbegun : (p : ℕ) (x : ProcessPart) (xs : List ProcessPart) (ps : Processes) → UnbegunFrom p (x ∷ xs) ps → Unbegun ps p
here_unbegun p x xs ps u = let none : p + 0 ≡ p = omega arith in subst (λ n. Unbegun ps n) none (u 0 (omega arith))

fit_either : (b : Bool) (c d : Config) → AllFit c.processes → AllFit d.processes → AllFit (cond b c d).processes
fit_either true c d one two = one
fit_either false c d one two = two

pub initialize-fits : (p : ℕ) (xs : List ProcessPart) (c : Config) → UnbegunFrom p xs c.processes → AllFit c.processes → AllFit (initialize_each p xs c).processes
initialize-fits p [] c u fits = fits
initialize-fits p (x ∷ xs) c u fits =
    fit_either x.dont_initialize (initialize_each (suc p) xs c) (initialize_each (suc p) xs (with_runnable (change_instance c p freed) (c.processes.runnable ++ p ∷ [])))
    (initialize-fits (suc p) xs c (rest_unbegun p x xs c.processes u) fits)
    (initialize-fits (suc p) xs (with_runnable (change_instance c p freed) (c.processes.runnable ++ p ∷ []))
    (λ k less. others_unbegun c p (suc p + k) (λ same. absurd (omega (arith, same))) (rest_unbegun p x xs c.processes u k less))
    (first_fits c p (here_unbegun p x xs c.processes u) fits))

same_if : (b : Bool) (c d e : Config) → d.cycle ≡ c.cycle → e.cycle ≡ c.cycle → (cond b d e).cycle ≡ c.cycle
same_if true c d e one two = one
same_if false c d e one two = two

pub initialize-cycle : (p : ℕ) (xs : List ProcessPart) (c : Config) → (initialize_each p xs c).cycle ≡ c.cycle
initialize-cycle p [] c = refl
initialize-cycle p (x ∷ xs) c = same_if x.dont_initialize c _ _ (initialize-cycle (suc p) xs c) (initialize-cycle (suc p) xs _)

-- before the first run all are unbegun
pub first-unbegun : (d : Design) → UnbegunFrom 0 d.processes (first_processes d)
first-unbegun d k less = ⊎_elim
    (λ x. record { instance = first_instance d x.0; at = slice_get-map (first_instance d) d.processes (0 + k) ∙ ap (option_map (first_instance d)) (ap (slice_get d.processes) (sum k) ∙ x.2); lives = refl; kept = refl; suspended = refl; nowhere = omega arith })
    (λ past. let l = past.0 in absurd (omega (arith, less, l)))
    (slice_get_cases d.processes k).1
  where
    sum : (k : ℕ) → 0 + k ≡ k
    sum k = omega arith
