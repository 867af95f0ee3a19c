-- An instance that ends, and a method that returns.
use Rattle.std.proofs.Common.{◌≡◌, ◌≤◌, ◌+◌, ◌^◌, ℕ, true, false, drop, Option, Some, None, option_map, refl, sym, ap, ◌∙◌, subst, true≢false, ⊎_elim}
use Rattle.std.specs.Prelude.{is_some, Result, Ok, Err, OnOk}
use Rattle.std.proofs.lemmas.Bool.{cases_eq}
use Rattle.std.specs.FinMap as map
use Rattle.exec_data.specs.InstanceTable.declared.instances.Instance.{Instance as Entry}
use Rattle.exec_data.specs.ModelTree.declared.items.ProcessKind.{ProcessKind}
use Rattle.exec_data.specs.ModelTree.declared.items.ProcessKind.TheVariants as process
use Rattle.exec_data.specs.SimModel.Residual.{skip, settle}
use Rattle.exec_data.specs.SimModel.Configuration as model
use Rattle.exec_data.specs.SimModel.Configuration.{Config, Instance, change, change_instance, with_residual, arena}
use Rattle.exec_data.specs.SimModel.Waits.{leaves_stack}
use Rattle.exec_data.specs.SimModel.Statements.{settled_in}
use Rattle.exec_data.specs.SimModel.Control.{is_thread, next_wait, ended_instance, ends, idles, done_by}
use Rattle.exec_data.specs.KernelProcesses.InstanceViews.{seen, as_instance}
use Rattle.exec_data.specs.KernelProcesses.InstanceViews.{body_at as kept_at}
use Rattle.exec_data.specs.KernelProcesses.Sound as schedules
use Rattle.exec_data.specs.KernelProcesses.declared.parts.Process.{Process}
use Rattle.exec_data.specs.KernelProcesses.declared.parts.Schedule.{Schedule}
use Rattle.exec_data.specs.KernelProcesses.Moved.{Ends}
use Rattle.exec_data.specs.KernelProcesses.declared.parts.Trigger.{Trigger}
use Rattle.exec_data.specs.KernelState.Kernel.{Shows, StandsFor, IsSound, whole_design, trigger_of}
use Rattle.exec_data.specs.KernelState.Moves.{Moves, MovesAt, Steps, Lives}
use Rattle.exec_data.specs.KernelState.declared.kernel.Kept.{Kept}
use Rattle.exec_data.specs.KernelState.declared.kernel.Kernel.{Kernel}
use Rattle.exec_data.proofs.KernelState.ProcessFrames.{ended_stands}
use Rattle.exec_data.proofs.KernelState.Frames.{change-twice, processes_move, trace_moves, lives_by_kept}
use Rattle.exec_control.specs.Resting.{next_kept, rests_next, rests_again}
use Rattle.exec_control.proofs.OneInstance.{shows_at, change_same}

-- ---- an instance ends

shown_as : (s : Schedule Kept) (p : ℕ) (o : Option (Entry (Process Kept))) → is_some (option_map (λ (x : Entry (Process Kept)). as_instance x (seen s p).wait) o) ≡ is_some o
shown_as s p None = refl
shown_as s p (Some x) = refl

module _ (k : Kernel) (p : ℕ) (s : Schedule Kept) (e : Ends p k.schedule s) where
  nothing_kept : (kept : Kept) → kept_at s p ≡ Some kept → ⊥
  nothing_kept kept found = true≢false (sym (lives_by_kept s p kept found) ∙ sym (shown_as s p (map.get s.table.live p)) ∙ ap is_some e.here)

  pub ended_sound : IsSound k → schedules.IsSound s → IsSound (record k { schedule = s })
  ended_sound sound fine = record {
    schedule = fine;
    bodies = λ q kept found. ⊎_elim
        (λ same. absurd (nothing_kept kept (ap (kept_at s) (sym same) ∙ found)))
        (λ apart. sound.bodies q kept (sym (e.bodies q apart) ∙ found))
        (cases_eq q p);
    nobody_due = ap (λ v. v.items) e.due ∙ sound.nobody_due;
    serials = subst (λ n. n ≤ 2 ^ 16 + k.made) (sym e.next) sound.serials;
    payloads = sound.payloads;
  }

  pub ended_steps : Steps k (record k { schedule = s }) p (λ c q i r. leaves_stack (change_instance c q ended_instance))
  ended_steps c i h there =
      subst (λ is. StandsFor (record k { schedule = s }) (record c { processes = record c.processes { instances = is; stack = drop 1 c.processes.stack }; trace = (settled_in c p i.residual).trace }))
      (sym (change-twice c.processes.instances p (λ j. record j { residual = settle (arena c) i.residual }) ended_instance))
      (trace_moves (record k { schedule = s }) (record c { processes = record c.processes { instances = change c.processes.instances p ended_instance; stack = drop 1 c.processes.stack } })
      (processes_move k c h s (record c.processes { instances = change c.processes.instances p ended_instance; stack = drop 1 c.processes.stack })
      (ended_stands (Shows (whole_design k) k.program.now) k.schedule s c.processes h.processes p ended_instance e (λ i. (refl, (refl, refl, refl)))))
      (settled_in c p i.residual).trace)

-- ---- a method returns

abbrev next_of_trigger : Option model.Trigger → Instance → Instance
next_of_trigger t j = record j { started = false; wait = (next_wait t).wait; deadline = (next_wait t).deadline }

abbrev untriggered : Instance → Instance
untriggered j = record j { trigger = None }

abbrev idle_as : Option model.Trigger → Instance → Instance
idle_as t j = record j { residual = skip; started = false; wait = (next_wait t).wait; deadline = (next_wait t).deadline; trigger = None }

module _ (l : Kernel) (c : Config) (p : ℕ) (i : Instance) (t : Option model.Trigger) where
  all_at_once : change (change (change c.processes.instances p untriggered) p (next_of_trigger t)) p (λ j. record j { residual = skip }) ≡ change c.processes.instances p (idle_as t)
  all_at_once = change-twice (change c.processes.instances p untriggered) p (next_of_trigger t) (λ j. record j { residual = skip })
      ∙ change-twice c.processes.instances p untriggered (λ j. record (next_of_trigger t j) { residual = skip })

  pub idled : i.trigger ≡ t → StandsFor l (with_residual (leaves_stack (change_instance (change_instance c p untriggered) p (next_of_trigger t))) p skip)
      → StandsFor l (idles (settled_in c p i.residual) p (record i { residual = settle (arena c) i.residual }))
  idled is h = subst (λ u. StandsFor l (leaves_stack (change_instance (settled_in c p i.residual) p (idle_as u)))) (sym is)
      (subst (λ is. StandsFor l (record c { processes = record c.processes { instances = is; stack = drop 1 c.processes.stack }; trace = (settled_in c p i.residual).trace }))
      (all_at_once ∙ sym (change-twice c.processes.instances p (λ j. record j { residual = settle (arena c) i.residual }) (idle_as t)))
      (trace_moves l (with_residual (leaves_stack (change_instance (change_instance c p untriggered) p (next_of_trigger t))) p skip) h (settled_in c p i.residual).trace))

pub none_kept : (o : Option Trigger) → is_some o ≡ false → o ≡ None
none_kept None is = refl
none_kept (Some t) is = absurd (true≢false is)

-- by its static sensitivity, where no next trigger is kept of it
module _ (k l : Kernel) (p : ℕ) (unset : is_some (next_kept (map.get k.schedule.table.live p)) ≡ false) (moves : Moves k l (λ c. leaves_stack (change_instance c p (rests_next None)))) where
  pub rests_statically : Lives k p → MovesAt k l p (λ c i. rests_again c p i)
  rests_statically lives c i h there = by (map.get k.schedule.table.live p) refl lives
    where
      by : (o : Option (Entry (Process Kept))) → map.get k.schedule.table.live p ≡ o → is_some o ≡ true → StandsFor l (rests_again c p i)
      by None at is = absurd (true≢false (sym is))
      by (Some x) at is =
          let t : i.trigger ≡ None = (shows_at k p x at c i h there).trigger ∙ ap (option_map trigger_of) (sym (ap next_kept at) ∙ none_kept (next_kept (map.get k.schedule.table.live p)) unset) in
          subst (λ u. StandsFor l (leaves_stack (change_instance (change_instance c p untriggered) p (next_of_trigger u)))) (sym t)
          (subst (λ is. StandsFor l (leaves_stack (record c { processes = record c.processes { instances = change is p (next_of_trigger None) } })))
          (sym (change_same c.processes.instances p untriggered i there (ap (λ u. record i { trigger = u }) (sym t)))) (moves c h))

-- ---- by the kind of the instance

pub thread_ends : (c : Config) (p : ℕ) (i : Instance) (kind : ProcessKind) → is_thread kind ≡ true → done_by c p i kind ≡ ends c p
thread_ends c p i process.Thread is = refl
thread_ends c p i process.Method is = absurd (true≢false (sym is))

pub method_idles : (c : Config) (p : ℕ) (i : Instance) (kind : ProcessKind) → is_thread kind ≡ false → done_by c p i kind ≡ idles c p i
method_idles c p i process.Thread is = absurd (true≢false is)
method_idles c p i process.Method is = refl

-- what follows of an answer that is not refused
pub ok_then : {A B : Type 0} (P Q : Type 0) (r : Result A B) → (P → Q) → OnOk r P → OnOk r Q
ok_then P Q (Ok a) f holds = f holds
ok_then P Q (Err e) f holds = holds
