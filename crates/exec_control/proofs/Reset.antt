-- An instance whose reset event has fired, and one that goes on behind a goal.
use Rattle.std.proofs.Common.{◌≡◌, ℕ, Bool, true, false, List, [], ◌∷◌, Some, option_map, refl, sym, ap, ◌∙◌, subst}
use Rattle.std.specs.Prelude.{if◌then◌else◌}
use Rattle.exec_data.specs.EventCore.declared.event.Ev.{Ev}
use Rattle.exec_data.specs.EventCore.declared.event.Ev.TheVariants as ev
use Rattle.exec_data.specs.SimModel.Residual.{skip, put, settle, begun}
use Rattle.exec_data.specs.SimModel.Configuration.{Config, Instance, Wait, waits_for_nothing, waits_statically, waits_for_any, waits_for_all, change, change_instance, instance_at, arena}
use Rattle.exec_data.specs.SimModel.Waits.{freed, is_among, struck, is_active, fire}
use Rattle.exec_data.specs.SimModel.Statements.{settled_in}
use Rattle.exec_data.specs.SimModel.Storing.{passes}
use Rattle.exec_data.specs.SimModel.Control.{begins, stays_kept, restarts, goes_on}
use Rattle.exec_data.specs.KernelProcesses.Woken.{is_deaf, roused, after_wake, after_last, after_named, after_event}
use Rattle.exec_data.proofs.KernelProcesses.Wakes.{change-here, fire_rouses}
use Rattle.exec_data.specs.KernelState.Kernel.{StandsFor}
use Rattle.exec_data.specs.KernelState.declared.kernel.Kernel.{Kernel}

-- ---- what no event changes

either : {A B : Type 0} (h : A → B) (b : Bool) (x y : A) (z : B) → h x ≡ z → h y ≡ z → h (if b then x else y) ≡ z
either h true x y z is other = is
either h false x y z is other = other

module _ {A : Type 0} (h : Instance → A) (kept_same : (i : Instance) → h (record (freed i) { kept = true }) ≡ h i) (freed_same : (i : Instance) → h (freed i) ≡ h i)
    (waits_same : (i : Instance) (es : List Ev) → h (record i { wait = waits_for_all es }) ≡ h i) where
  wake_same : (a : Bool) (i : Instance) → h (after_wake a i) ≡ h i
  wake_same a i = either h (is_deaf a i) i (roused i) (h i) refl (either h i.suspended (record (freed i) { kept = true }) (freed i) (h i) (kept_same i) (freed_same i))

  last_same : (a : Bool) (i : Instance) (es : List Ev) → h (after_last a i es) ≡ h i
  last_same a i [] = wake_same a i
  last_same a i (e ∷ es) = waits_same i (e ∷ es)

  named_same : (e : Ev) (a : Bool) (i : Instance) (w : Wait) → h (after_named e a i w) ≡ h i
  named_same e a i waits_for_nothing = refl
  named_same e a i waits_statically = either h (is_among e i.static) (after_wake a i) i (h i) (wake_same a i) refl
  named_same e a i (waits_for_any es) = either h (is_among e es) (after_wake a i) i (h i) (wake_same a i) refl
  named_same e a i (waits_for_all es) = either h (is_among e es) (after_last a i (struck e es)) i (h i) (last_same a i (struck e es)) refl

  event_same : (e : Ev) (a : Bool) (i : Instance) → h (after_event e a i) ≡ h i
  event_same e a i = either h i.disabled i (after_named e a i i.wait) (h i) refl (named_same e a i i.wait)

-- ---- a reset

module _ (c : Config) (p : ℕ) (i : Instance) (there : instance_at c p ≡ Some i) where
  abbrev pub taken_back : Config
  taken_back = change_instance (settled_in c p i.residual) p (λ j. record j { residual = skip; started = false })

  -- the configuration and the instance once its reset event has fired
  abbrev pub told : Config
  told = fire taken_back (ev.Restarted p)

  abbrev pub after : Instance
  after = after_event (ev.Restarted p) (is_active taken_back p) (record i { residual = skip; started = false })

  pub there_after : instance_at told p ≡ Some after
  there_after = (fire_rouses taken_back (ev.Restarted p)).instances p
      ∙ ap (option_map (after_event (ev.Restarted p) (is_active taken_back p)))
      (change-here (change c.processes.instances p (λ j. record j { residual = settle (arena c) i.residual })) p (λ j. record j { residual = skip; started = false })
      ∙ ap (option_map (λ (j : Instance). record j { residual = skip; started = false })) (change-here c.processes.instances p (λ j. record j { residual = settle (arena c) i.residual })
      ∙ ap (option_map (λ (j : Instance). record j { residual = settle (arena c) i.residual })) there))

  pub held_after : after.suspended ≡ i.suspended
  held_after = event_same (λ j. j.suspended) (λ j. refl) (λ j. refl) (λ j es. refl) (ev.Restarted p) (is_active taken_back p) (record i { residual = skip; started = false })

  code_after : after.code ≡ i.code
  code_after = event_same (λ j. j.code) (λ j. refl) (λ j. refl) (λ j es. refl) (ev.Restarted p) (is_active taken_back p) (record i { residual = skip; started = false })

  arguments_after : after.arguments ≡ i.arguments
  arguments_after = event_same (λ j. j.arguments) (λ j. refl) (λ j. refl) (λ j es. refl) (ev.Restarted p) (is_active taken_back p) (record i { residual = skip; started = false })

  module _ (l : Kernel) where
    abbrev settled : Instance
    settled = record i { residual = settle (arena c) i.residual }

    pub restarts_kept : after.suspended ≡ true → StandsFor l (stays_kept told p) → StandsFor l (restarts (settled_in c p i.residual) p settled)
    restarts_kept held h = subst (λ b. StandsFor l (if b then stays_kept told p else begins told p settled)) (sym (sym held_after ∙ held)) h

    pub restarts_anew : after.suspended ≡ false → StandsFor l (begins told p after) → StandsFor l (restarts (settled_in c p i.residual) p settled)
    restarts_anew free h = subst (λ b. StandsFor l (if b then stays_kept told p else begins told p settled)) (sym (sym held_after ∙ free))
        (subst (λ n. StandsFor l (change_instance told p (λ j. record j { residual = begun (arena told) n i.arguments; started = true }))) code_after
        (subst (λ vs. StandsFor l (change_instance told p (λ j. record j { residual = begun (arena told) after.code vs; started = true }))) arguments_after h))

-- ---- behind the goal of an exception that another threw

module _ (c : Config) (p : ℕ) (i : Instance) (there : instance_at c p ≡ Some i) where
  abbrev past : Config
  past = passes (settled_in c p i.residual) p (settle (arena c) i.residual)

  abbrev pub passed : Instance
  passed = record i { residual = put (settle (arena c) i.residual) skip }

  pub there_passed : instance_at past p ≡ Some passed
  there_passed = change-here (change c.processes.instances p (λ j. record j { residual = settle (arena c) i.residual })) p (λ j. record j { residual = put (settle (arena c) i.residual) skip })
      ∙ ap (option_map (λ (j : Instance). record j { residual = put (settle (arena c) i.residual) skip })) (change-here c.processes.instances p (λ j. record j { residual = settle (arena c) i.residual })
      ∙ ap (option_map (λ (j : Instance). record j { residual = settle (arena c) i.residual })) there)

  module _ (l : Kernel) where
    pub stays_behind : i.suspended ≡ true → StandsFor l (stays_kept past p) → StandsFor l (goes_on (settled_in c p i.residual) p (record i { residual = settle (arena c) i.residual }) (settle (arena c) i.residual))
    stays_behind held h = subst (λ b. StandsFor l (if b then stays_kept past p else past)) (sym held) h

    pub goes_behind : i.suspended ≡ false → StandsFor l past → StandsFor l (goes_on (settled_in c p i.residual) p (record i { residual = settle (arena c) i.residual }) (settle (arena c) i.residual))
    goes_behind free h = subst (λ b. StandsFor l (if b then stays_kept past p else past)) (sym free) h
