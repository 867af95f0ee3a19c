-- Where a reset has unwound all, the body begins anew.
use Rattle.std.proofs.Common.{◌≡◌, ℕ, true, false, cond, List, slice_get, Some, refl, ap, ◌∙◌, subst, ⊎_elim}
use Rattle.std.specs.Prelude.{Ok}
use Rattle.std.proofs.lemmas.Bool.{cases_eq}
use Rattle.laws_runs.specs.EventCore.declared.event.Ev.TheVariants as ev
use Rattle.laws_runs.specs.FlatDesign.Code.{arena_of}
use Rattle.laws_runs.specs.FlatDesign.declared.design.Design.{Design}
use Rattle.laws_runs.specs.SimModel.Residual.{Residual, reaches, settle, next_of, skip, begun}
use Rattle.laws_runs.specs.SimModel.Configuration.{Config, Instance, arena, change, change_instance, instance_at}
use Rattle.laws_runs.specs.SimModel.Waits.{fire}
use Rattle.laws_runs.specs.SimModel.Control.{begins, stays_kept}
use Rattle.laws_runs.specs.SimModel.Statements.{settled_in, do_next, step_by, statement_step}
use Rattle.laws_runs.specs.SimModel.declared.plain.Goal.TheVariants as goal_of
use Rattle.laws_runs.proofs.Changes.{change-here, change-other}
use Rattle.laws_runs.proofs.WakeMoves.{WakesKeep, fire-keeps}
use Rattle.laws_clocked.specs.Resets.{BeginsAnew}

-- ---- an event takes nobody away, and moves nobody on the stack

module _ (p : ℕ) (design : Design) (stack : List ℕ) where
  pub record There (x : Config) : Type 0 where
    pub same : x.design ≡ design
    pub active : x.processes.stack ≡ stack
    pub instance : Instance
    pub at : instance_at x p ≡ Some instance

  changed : (is : List Instance) (q : ℕ) (f : Instance → Instance) (j : Instance) → slice_get is p ≡ Some j → (k : Instance) × (slice_get (change is q f) p ≡ Some k)
  changed is q f j at = ⊎_elim
      (λ e. (f j, subst (λ n. slice_get (change is n f) p ≡ Some (f j)) e (change-here is p f j at)))
      (λ apart. (j, change-other is q p f apart ∙ at))
      (cases_eq p q)

  there-wakes : WakesKeep There
  there-wakes = record {
    joins = λ c q i may is h. let z = changed c.processes.instances q _ h.instance h.at in record { same = h.same; active = h.active; instance = z.0; at = z.1 };
    keeps = λ c q i may is h. let z = changed c.processes.instances q _ h.instance h.at in record { same = h.same; active = h.active; instance = z.0; at = z.1 };
    strikes = λ c q es i all at is h. let z = changed c.processes.instances q _ h.instance h.at in record { same = h.same; active = h.active; instance = z.0; at = z.1 };
  }

-- ---- the step at the goal

module _ (c : Config) (p : ℕ) (i : Instance) (at : instance_at c p ≡ Some i) (next : next_of (settle (arena c) i.residual) ≡ reaches goal_of.Restart) where
  abbrev pub r : Residual
  r = settle (arena c) i.residual

  abbrev pub settled : Config
  settled = settled_in c p i.residual

  abbrev pub own : Instance
  own = record i { residual = r }

  abbrev pub bare : Config
  bare = change_instance settled p (λ j. record j { residual = skip; started = false })

  abbrev pub fired : Config
  fired = fire bare (ev.Restarted p)

  settled_at : instance_at settled p ≡ Some own
  settled_at = change-here c.processes.instances p (λ j. record j { residual = r }) i at

  bare_at : instance_at bare p ≡ Some (record own { residual = skip; started = false })
  bare_at = change-here settled.processes.instances p (λ j. record j { residual = skip; started = false }) own settled_at

  pub there : There p c.design c.processes.stack fired
  there = fire-keeps (There p c.design c.processes.stack) (there-wakes p c.design c.processes.stack) bare (ev.Restarted p)
      (record { same = refl; active = refl; instance = record own { residual = skip; started = false }; at = bare_at })

  pub step-is : statement_step c p ≡ Ok (cond i.suspended (stays_kept fired p) (begins fired p own))
  step-is = ap (step_by c p) at ∙ ap (do_next settled p own r) next

  pub begins-anew : i.suspended ≡ false → BeginsAnew c p i
  begins-anew on = record {
    then = begins fired p own;
    steps = step-is ∙ ap (λ b. Ok (cond b (stays_kept fired p) (begins fired p own))) on;
    instance = record there.instance { residual = begun (arena fired) i.code i.arguments; started = true };
    is = change-here fired.processes.instances p _ there.instance there.at;
    anew = ap (λ (d : Design). begun (arena_of d.code) i.code i.arguments) there.same;
    started = refl;
    stack = there.active;
  }
