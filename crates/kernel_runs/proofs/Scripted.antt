-- Commands of a script.
use Rattle.std.proofs.Common.{◌≡◌, ℕ, ◌+◌, false, [], ◌∷◌, ◌++◌, Option, Some, None, Result, Ok, Err, sym, ap, ◌∙◌, refl, append-nil}
use Rattle.std.specs.Prelude.{slice_get}
use Rattle.kernel_phases.specs.SimTime.declared.moments.Time.{Time}
use Rattle.kernel_phases.specs.LogicValues.declared.kinds.Value.{Value}
use Rattle.flat_design.specs.declared.design.Visible.{Visible}
use Rattle.flat_design.specs.declared.design.VisibleId.{VisibleId}
use Rattle.flat_design.specs.declared.design.VisibleId.TheVariants as visible_id
use Rattle.flat_design.specs.declared.faults.RunFault.{RunFault}
use Rattle.kernel_phases.specs.SimModel.Values.{on_ok, time_within}
use Rattle.kernel_phases.specs.SimModel.Configuration.{Config, Told, line, path_of, with_told}
use Rattle.kernel_phases.specs.SimModel.Phases.{visible_value}
use Rattle.kernel_phases.specs.SimModel.Steps.{went, as_outcome, step, next_command, begin_run, run_begun, show_line, shows, sets, sets_visible}
use Rattle.kernel_phases.specs.SimModel.declared.plain.Phase.TheVariants as phase
use Rattle.kernel_phases.specs.KernelState.Kernel.{StandsFor}
use Rattle.kernel_phases.specs.KernelState.Moves.{Follows}
use Rattle.kernel_phases.specs.KernelState.declared.kernel.Kernel.{Kernel}
use Rattle.kernel_phases.proofs.KernelState.Frames.{trace_moves}
use Rattle.kernel_runs.specs.Made.{GoesTo, IsFault, told_by_show}
use Rattle.kernel_runs.specs.declared.answers.Telling.TheVariants as telling

-- a run begins, or it would end too late
module _ (new : Kernel) (c : Config) where
  until_goes : (x : Result ℕ RunFault) → Follows new (Ok tt) c (on_ok x (λ end. Ok (run_begun c (Some end)))) → GoesTo new telling.Nothing c (as_outcome (on_ok x (λ end. Ok (run_begun c (Some end)))))
  until_goes (Ok end) stands = (stands, refl, refl)
  until_goes (Err f) stands = stands

  pub run_goes : (t : Option Time) → Follows new (Ok tt) c (begin_run c t) → GoesTo new telling.Nothing c (as_outcome (begin_run c t))
  run_goes None stands = (stands, refl, refl)
  run_goes (Some t) stands = until_goes (time_within (c.cycle.now + t.0)) stands

  until_faults : (f : RunFault) (x : Result ℕ RunFault) → Follows new (Err f) c (on_ok x (λ end. Ok (run_begun c (Some end)))) → IsFault new f c (as_outcome (on_ok x (λ end. Ok (run_begun c (Some end)))))
  until_faults f (Ok end) follows = follows
  until_faults f (Err g) follows = follows

  pub run_faults : (f : RunFault) (t : Option Time) → Follows new (Err f) c (begin_run c t) → IsFault new f c (as_outcome (begin_run c t))
  run_faults f None follows = follows
  run_faults f (Some t) follows = until_faults f (time_within (c.cycle.now + t.0)) follows

  -- a value is set
  visible_goes : (v : Value) (x : VisibleId) → StandsFor new (sets c v x) → GoesTo new telling.Nothing c (went (sets c v x))
  visible_goes v (visible_id.Signal n) stands = (stands, refl, refl)
  visible_goes v (visible_id.Resolved n) stands = (stands, refl, refl)

  pub set_goes : (v : Value) (o : Option Visible) → StandsFor new (sets_visible c v o) → GoesTo new telling.Nothing c (went (sets_visible c v o))
  set_goes v None stands = (stands, refl, refl)
  set_goes v (Some x) stands = visible_goes v x.id stands

  -- an object is shown
  same_value : (t : Told) (x : VisibleId) → visible_value c x ≡ visible_value (with_told c t) x
  same_value t (visible_id.Signal n) = refl
  same_value t (visible_id.Resolved n) = refl

  shown : (i : ℕ) (o : Option Visible) → slice_get c.design.visible i ≡ o → StandsFor new c → GoesTo new (telling.Show i) c (went (shows c o))
  shown i None none stands = (stands, refl, sym (append-nil c.trace.told) ∙ ap (λ o. c.trace.told ++ told_by_show c o) (sym none))
  shown i (Some v) some stands =
      let t = line (show_line c.cycle.now (path_of c.design v.object) (visible_value c v.id)) in (
        trace_moves new c stands (record c.trace { told = c.trace.told ++ t ∷ [] }),
        refl,
        ap (λ x. c.trace.told ++ line (show_line c.cycle.now (path_of c.design v.object) x) ∷ []) (same_value t v.id) ∙ ap (λ o. c.trace.told ++ told_by_show (with_told c t) o) (sym some),
      )

  pub show_goes : (i : ℕ) → StandsFor new c → GoesTo new (telling.Show i) c (went (shows c (slice_get c.design.visible i)))
  show_goes i stands = shown i (slice_get c.design.visible i) refl stands

-- between commands the step is the next command
pub idle_step : (k : Kernel) (c : Config) → StandsFor k c → k.cycle.stopped ≡ false → k.cycle.phase ≡ phase.Idle → step c ≡ next_command c c.script
idle_step k c h going idle =
    let not_stopped : c.cycle.stopped ≡ false = ap (λ x. x.stopped) h.cycle ∙ going in
    let is_idle : c.cycle.phase ≡ phase.Idle = ap (λ x. x.phase) h.cycle ∙ idle in
    rw (not_stopped, is_idle) refl
