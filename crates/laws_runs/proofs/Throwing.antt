-- What an exception makes of the configuration.
use Rattle.std.proofs.Common.{◌≡◌, ◌||◌, not, ℕ, Bool, true, false, cond, [], ◌∷◌, slice_get, Some, None, refl, sym, ap, ◌∙◌, eq-eqb}
use Rattle.std.specs.Prelude.{Result, Ok, Err}
use Rattle.sim_model.specs.ModelTree.declared.items.ProcessKind.{ProcessKind}
use Rattle.sim_model.specs.ModelTree.declared.items.ProcessKind.TheVariants as process
use Rattle.sim_model.specs.FlatDesign.declared.faults.RunFault.{RunFault}
use Rattle.sim_model.specs.FlatDesign.declared.faults.RunFault.TheVariants as fault
use Rattle.sim_model.specs.Residual.{has_goal}
use Rattle.sim_model.specs.Unwinding.{catches, raise, left_by_raise}
use Rattle.sim_model.specs.Configuration.{Config, Instance, arena, change, instance_at, with_residual}
use Rattle.sim_model.specs.Waits.{holds, freed}
use Rattle.sim_model.specs.Clean.{guards_of}
use Rattle.sim_model.specs.Calls.{with_left, thrown}
use Rattle.sim_model.specs.Control.{top_of, is_top, is_below_top, is_thread, pushed, injected, throws_at, unless_ended, throw_call}
use Rattle.sim_model.specs.declared.plain.Goal.{Goal}
use Rattle.sim_model.specs.declared.plain.Goal.TheVariants as goal_of
use Rattle.laws_runs.proofs.GuardLemmas.{guards-raise}
use Rattle.laws_runs.proofs.Changes.{change-here}
use Rattle.laws_runs.proofs.GoalParts.{Parts}
use Rattle.laws_runs.proofs.KeptMoves.{left-parts}
use Rattle.laws_runs.specs.Once.{guards_below, IsOnTop}
use Rattle.laws_runs.specs.Tops.{topped_by}
use Rattle.laws_runs.specs.Throws.{UnwindsInTry}
use Rattle.laws_runs.proofs.Raised.{raise-below, raise-goal}

is_itself : (q : ℕ) → holds (q ∷ []) q ≡ true
is_itself q = ap (λ b. b || false) (eq-eqb q q refl)

pub is-top : (c : Config) (q : ℕ) → IsOnTop q c → is_top c q ≡ true
is-top c q top = ap (λ s. holds (top_of s) q) top.1 ∙ is_itself q

module _ (c : Config) (q : ℕ) (i : Instance) (e : ℕ) (at : instance_at c q ≡ Some i) (caught : catches i.residual e ≡ true) (none : has_goal i.residual ≡ false) where
  abbrev raised_in : Goal → Config
  raised_in k = with_residual c q (raise (arena c) i.residual e k)

  there : (k : Goal) → instance_at (raised_in k) q ≡ Some (record i { residual = raise (arena c) i.residual e k })
  there k = change-here c.processes.instances q (λ j. record j { residual = raise (arena c) i.residual e k }) i at

  -- entries of calls that are left change nothing of it
  left_in_place : (d : Config) (k : Goal) (j : Instance) → instance_at d q ≡ Some j → j.residual ≡ raise (arena c) i.residual e k → d.trace.marks ≡ c.trace.marks → IsOnTop q d → d.processes.stack ≡ topped_by q c → UnwindsInTry c (with_left d (left_by_raise i.residual e)) q i e
  left_in_place d k j is same marks top stack =
      let alike = left-parts (left_by_raise i.residual e) d in
      record {
        instance = j;
        is = ap (λ (x : Parts). slice_get x.instances q) alike ∙ is;
        has_one = ap has_goal same ∙ raise-goal (arena c) e k i.residual caught;
        inside = ap guards_below same ∙ raise-below (arena c) e k i.residual caught none;
        all = ap guards_of same ∙ guards-raise (arena c) e k i.residual;
        marks = ap (λ (x : Parts). x.marks) alike ∙ marks;
        top = (top.0, ap (λ (x : Parts). x.stack) alike ∙ top.1);
        stack = ap (λ (x : Parts). x.stack) alike ∙ stack;
      }

  pub own-throw : IsOnTop q c → (d : Config) × (thrown c q i.residual e ≡ Ok d) × UnwindsInTry c d q i e
  own-throw top = (
    with_left (raised_in goal_of.Thrown) (left_by_raise i.residual e),
    ap (λ b. cond {A = Result Config RunFault} b (Ok (with_left (raised_in goal_of.Thrown) (left_by_raise i.residual e))) (Err (fault.Uncaught e))) caught,
    left_in_place (raised_in goal_of.Thrown) goal_of.Thrown (record i { residual = raise (arena c) i.residual e goal_of.Thrown }) (there goal_of.Thrown) refl refl top (ap (λ b. cond b c.processes.stack (q ∷ c.processes.stack)) (sym (is-top c q top))),
  )

  abbrev pushed_in : Config
  pushed_in = pushed (with_residual c q (raise (arena c) i.residual e goal_of.Injected)) q

  abbrev thrown_in : Config
  thrown_in = with_left pushed_in (left_by_raise i.residual e)

  runs : (kind : ProcessKind) (started : Bool) → kind ≡ process.Thread → started ≡ true → (not (is_thread kind) || not started) ≡ false
  runs process.Thread true k s = refl
  runs process.Thread false k s = cc
  runs process.Method started k s = cc

  injected_is : i.kind ≡ process.Thread → i.started ≡ true → injected c q i e ≡ Ok thrown_in
  injected_is kind started =
      ap (λ b. cond {A = Result Config RunFault} b (Ok c) (cond (catches i.residual e) (Ok thrown_in) (Err (fault.Uncaught e)))) (runs i.kind i.started kind started)
      ∙ ap (λ b. cond {A = Result Config RunFault} b (Ok thrown_in) (Err (fault.Uncaught e))) caught

  pub other-throw : i.ended ≡ false → is_below_top c q ≡ false → is_top c q ≡ false → i.kind ≡ process.Thread → i.started ≡ true → (d : Config) × (throw_call c q e ≡ Ok d) × UnwindsInTry c d q i e
  other-throw lives below off kind started = (
    thrown_in,
    ap (λ o. unless_ended c o (λ j. throws_at c q j e)) at
        ∙ ap (λ b. cond {A = Result Config RunFault} b (Ok c) (throws_at c q i e)) lives
        ∙ ap (λ b. cond {A = Result Config RunFault} b (Err (fault.ControlOnActive q)) (cond (is_top c q) (cond (has_goal i.residual) (Ok c) (thrown c q i.residual e)) (injected c q i e))) below
        ∙ ap (λ b. cond {A = Result Config RunFault} b (cond (has_goal i.residual) (Ok c) (thrown c q i.residual e)) (injected c q i e)) off
        ∙ injected_is kind started,
    left_in_place pushed_in goal_of.Injected (record (freed (record i { residual = raise (arena c) i.residual e goal_of.Injected })) { kept = false; trigger = None })
        (change-here (change c.processes.instances q (λ j. record j { residual = raise (arena c) i.residual e goal_of.Injected })) q (λ j. record (freed j) { kept = false; trigger = None }) (record i { residual = raise (arena c) i.residual e goal_of.Injected })
        (there goal_of.Injected))
        refl refl (c.processes.stack, refl) (ap (λ b. cond b c.processes.stack (q ∷ c.processes.stack)) (sym off)),
  )
