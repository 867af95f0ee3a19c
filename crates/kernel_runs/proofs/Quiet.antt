-- The phases keep the design and the script's rest, and tell nothing.
use Rattle.std.proofs.Common.{◌==◌, ◌++◌, ℕ, suc, Bool, List, [], ◌∷◌, Option, Some, None, refl, sym, ap, subst}
use Rattle.std.specs.Prelude.{map, unwrap_or}
use Rattle.kernel_phases.specs.EventCore.declared.event.Ev.{Ev}
use Rattle.kernel_phases.specs.EventCore.declared.notifications.Pending.{Pending}
use Rattle.flat_design.specs.declared.design.ProcessPart.{ProcessPart}
use Rattle.kernel_phases.proofs.KernelChannels.Telling.{phase_told}
use Rattle.kernel_phases.specs.SimModel.Configuration.{Config, Deadline, instance_at, change_instance, with_runnable, with_phase}
use Rattle.kernel_phases.specs.SimModel.Waits.{freed, fire, fire_all, wake, wake_all}
use Rattle.kernel_phases.specs.SimModel.Phases.{with_snapshot, update_phase, session_stopped, without_pending, without_deadline, due_events, due_instances, fire_due, is_delta, is_zero_timeout, delta_step, initialize_each, initialization, unchanged, now_becomes, is_at, is_due_at, is_past, run_over, phase_at, fired_at, timed_at, timed_step, update_step, earliest}
use Rattle.kernel_phases.specs.SimModel.Steps.{went}
use Rattle.kernel_phases.specs.SimModel.declared.plain.Phase.TheVariants as phase
use Rattle.kernel_phases.specs.KernelState.Kernel.{StandsFor}
use Rattle.kernel_phases.specs.KernelState.declared.kernel.Kernel.{Kernel}
use Rattle.kernel_steps.specs.FrameConditions.{Quiet}
use Rattle.kernel_steps.proofs.Silent.{either, fire_quiet, wake_quiet}
use Rattle.kernel_runs.specs.Made.{GoesTo}
use Rattle.kernel_runs.specs.declared.answers.Telling.TheVariants as telling

pub quiet_goes : (new : Kernel) (c d : Config) → Quiet c d → StandsFor new d → GoesTo new telling.Nothing c (went d)
quiet_goes new c d quiet stands = (stands, ap (λ x. x.script) quiet, ap (λ x. x.told) quiet)

module _ (c : Config) where
  fire_all_quiet : (es : List Ev) (d : Config) → Quiet c d → Quiet c (fire_all es d)
  fire_all_quiet [] d k = k
  fire_all_quiet (e ∷ es) d k = fire_all_quiet es (fire d e) (fire_quiet c d e k)

  wake_all_quiet : (ps : List ℕ) (d : Config) → Quiet c d → Quiet c (wake_all ps d)
  wake_all_quiet [] d k = k
  wake_all_quiet (p ∷ ps) d k = wake_all_quiet ps (wake d p) (wake_quiet c d p (instance_at d p) k)

  due_quiet : (test : Pending → Bool) (time : Deadline → Bool) (d : Config) → Quiet c d → Quiet c (fire_due test time d)
  due_quiet test time d k =
      let taken = record d { events = map (without_pending test) d.events; processes = record d.processes { instances = map (without_deadline time) d.processes.instances } } in
      wake_all_quiet (due_instances time 0 d.processes.instances) (fire_all (due_events test 0 d.events) taken) (fire_all_quiet (due_events test 0 d.events) taken k)

  initialize_quiet : (p : ℕ) (xs : List ProcessPart) (d : Config) → Quiet c d → Quiet c (initialize_each p xs d)
  initialize_quiet p [] d k = k
  initialize_quiet p (x ∷ xs) d k =
      let e = with_runnable (change_instance d p freed) (d.processes.runnable ++ p ∷ []) in
      either c (initialize_each (suc p) xs d) (initialize_each (suc p) xs e) x.dont_initialize (initialize_quiet (suc p) xs d k) (initialize_quiet (suc p) xs e k)

  updated_quiet : Quiet c (update_phase c)
  updated_quiet = subst (Quiet c) (sym (phase_told c)) refl

  now_quiet : (d : Config) (t : ℕ) → Quiet c d → Quiet c (now_becomes d t)
  now_quiet d t k = either c d (let e = with_snapshot d in record e { cycle = record e.cycle { now = t }; channels = unchanged e.channels }) (t == d.cycle.now) k k

  over_quiet : Quiet c (run_over c)
  over_quiet = now_quiet c (unwrap_or c.cycle.end c.cycle.now) refl

  fired_quiet : (t : ℕ) → Quiet c (fired_at c t)
  fired_quiet t = due_quiet (is_at t) (is_due_at t) (now_becomes c t) (now_quiet c t refl)

  timed_at_quiet : (t : Option ℕ) → Quiet c (timed_at c t)
  timed_at_quiet None = over_quiet
  timed_at_quiet (Some t) =
      either c (run_over c) (with_phase (fired_at c t) (phase_at t c.cycle.end (fired_at c t).processes.runnable)) (is_past t c.cycle.end) over_quiet (fired_quiet t)

  pub initialization_quiet : Quiet c (initialization c)
  initialization_quiet =
      let begun = initialize_each 0 c.design.processes (update_phase c) in
      due_quiet is_delta is_zero_timeout begun (initialize_quiet 0 c.design.processes (update_phase c) updated_quiet)

  pub delta_quiet : Quiet c (delta_step c)
  delta_quiet = due_quiet is_delta is_zero_timeout c refl

  pub timed_quiet : Quiet c (timed_step c)
  timed_quiet = timed_at_quiet (earliest c)

  pub update_quiet : Quiet c (update_step c)
  update_quiet = either c (session_stopped (update_phase c)) (with_phase (update_phase c) phase.Notify) c.cycle.stop_asked updated_quiet updated_quiet
