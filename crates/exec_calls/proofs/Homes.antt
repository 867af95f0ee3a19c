-- Where what is left of an instance stands.
use Rattle.std.proofs.Common.{◌≡◌, ℕ, Bool, true, false, Some, option_map, sym, ap, ◌∙◌, subst, true≢false}
use Rattle.std.specs.Prelude.{is_some, unwrap_or}
use Rattle.std.specs.FinMap as map
use Rattle.exec_data.specs.InstanceTable.declared.instances.Instance.{Instance as Entry}
use Rattle.exec_data.proofs.KernelBodies.Strips.{strip-within}
use Rattle.exec_data.specs.SimModel.Residual.{within}
use Rattle.exec_data.specs.SimModel.Configuration.{Config, Instance, instance_at}
use Rattle.exec_data.specs.SimModel.Reading.{here, home_of_via}
use Rattle.exec_data.specs.ProcessBodies.Bodies as bodies
use Rattle.exec_data.specs.KernelProcesses.InstanceViews.{seen, shown_at, as_instance}
use Rattle.exec_data.specs.KernelProcesses.InstanceViews.{body_at as kept_at}
use Rattle.exec_data.specs.KernelProcesses.declared.parts.Process.{Process}
use Rattle.exec_data.specs.KernelState.Processes.{beside, TellsBy, Tells}
use Rattle.exec_data.specs.KernelState.Kernel.{Shows, StandsFor, whole_design}
use Rattle.exec_data.specs.KernelState.declared.kernel.Kept.{Kept}
use Rattle.exec_data.specs.KernelState.declared.kernel.Kernel.{Kernel}
use Rattle.exec_data.proofs.KernelState.Frames.{left_before}
use Rattle.exec_calls.proofs.OneBody.{was}

module _ (k : Kernel) (p : ℕ) (x : Entry (Process Kept)) (at : map.get k.schedule.table.live p ≡ Some x) where
  shown : shown_at k.schedule p ≡ Some (as_instance x (seen k.schedule p).wait)
  shown = ap (option_map (λ (z : Entry (Process Kept)). as_instance z (seen k.schedule p).wait)) at

  shows_by : (i : Instance) (e : Bool) → TellsBy (Shows (whole_design k) k.program.now) e (shown_at k.schedule p) (kept_at k.schedule p) i → Shows (whole_design k) k.program.now x.body.body (beside i)
  shows_by i true gone = absurd (true≢false (sym (ap is_some shown) ∙ ap is_some gone.0))
  shows_by i false lives = subst (λ v. Shows (whole_design k) k.program.now v (beside i)) (ap (λ o. unwrap_or o x.body.body) (sym lives.kept.1.0 ∙ was k p x at)) lives.kept.1.1

  module _ (c : Config) (i : Instance) (h : StandsFor k c) (there : instance_at c p ≡ Some i) where
    shows_at : Shows (whole_design k) k.program.now x.body.body (beside i)
    shows_at = shows_by i i.ended (subst (Tells (Shows (whole_design k) k.program.now) (shown_at k.schedule p) (kept_at k.schedule p)) there (h.processes.each p))

    pub home_there : (here c p i i.residual).home ≡ home_of_via k.design x.body.body.home (within (bodies.left_in k.program.now x.body.body.body))
    home_there = ap (λ d. home_of_via d i.home (within i.residual)) h.design
        ∙ ap (λ n. home_of_via (whole_design k) n (within i.residual)) shows_at.home
        ∙ ap (home_of_via (whole_design k) x.body.body.home) (sym (strip-within i.residual) ∙ ap within (left_before k p x at c i h there))
