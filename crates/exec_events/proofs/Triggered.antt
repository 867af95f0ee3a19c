-- A statement is past, and the next trigger of its instance is set.
use Rattle.std.proofs.Common.{◌≡◌, ℕ, Some, option_map, refl, sym, ap, ◌∙◌, subst}
use Rattle.std.specs.Prelude.{slice_get, unwrap_or}
use Rattle.std.specs.FinMap as map
use Rattle.kernel_view.specs.InstanceTable.declared.instances.Instance.{Instance as Entry}
use Rattle.kernel_view.specs.NumberedSlots.Numbered.{with_value}
use Rattle.kernel_view.specs.SimModel.Residual.{Residual, settle}
use Rattle.kernel_view.specs.SimModel.Configuration.{Config, Instance, change, change_instance, with_residual, arena}
use Rattle.kernel_view.specs.SimModel.Statements.{settled_in}
use Rattle.kernel_view.specs.KernelBodies.Strip.{strip}
use Rattle.kernel_view.specs.ProcessBodies.Bodies as bodies
use Rattle.kernel_view.specs.ProcessBodies.Bodies.{left_in}
use Rattle.kernel_view.specs.ProcessBodies.declared.body.Body.{Body}
use Rattle.kernel_view.specs.KernelProcesses.InstanceViews.{body_at as kept_at}
use Rattle.kernel_view.specs.KernelProcesses.declared.parts.Process.{Process}
use Rattle.kernel_view.specs.KernelProcesses.declared.parts.Schedule.{Schedule}
use Rattle.kernel_view.specs.KernelProcesses.declared.parts.Trigger.{Trigger}
use Rattle.kernel_view.specs.KernelProcesses.Moved.{PutsBody}
use Rattle.kernel_view.proofs.KernelProcesses.OtherBody.{puts_body, puts_sound}
use Rattle.kernel_view.specs.KernelState.Processes.{beside}
use Rattle.kernel_view.specs.KernelState.Kernel.{Shows, StandsFor, IsSound, whole_design, path_in, trigger_of}
use Rattle.kernel_view.specs.KernelState.declared.kernel.Kept.{Kept}
use Rattle.kernel_view.specs.KernelState.declared.kernel.Kernel.{Kernel}
use Rattle.kernel_view.proofs.KernelState.ProcessFrames.{put_stands}
use Rattle.kernel_view.proofs.KernelState.Frames.{change-twice, processes_move, trace_moves, kept_sound}

module _ (k : Kernel) (p : ℕ) (x : Entry (Process Kept)) (b : Body) (t : Trigger) (at : map.get k.schedule.table.live p ≡ Some x) (keeps : bodies.Keeps x.body.body.body b) where
  abbrev waiting : Kept
  waiting = record x.body.body { body = b; trigger = Some t }

  abbrev pub triggered : Schedule Kept
  triggered = record k.schedule { table = with_value k.schedule.table p (record x { body = record x.body { body = waiting } }) }

  puts : PutsBody p waiting k.schedule triggered
  puts = puts_body k.schedule p x waiting at

  was : kept_at k.schedule p ≡ Some x.body.body
  was = ap (option_map (λ (z : Entry (Process Kept)). z.body.body)) at

  pub triggered_sound : IsSound k → bodies.IsSound k.program.now b → IsSound (record k { schedule = triggered })
  triggered_sound sound fine = kept_sound k p waiting triggered puts sound (puts_sound k.schedule p x waiting at sound.schedule) fine

  -- the residual and the next trigger of the instance are others
  both_move : (c : Config) → StandsFor k c → (n : Residual) → strip n ≡ left_in k.program.now b → StandsFor (record k { schedule = triggered }) (change_instance c p (λ i. record i { residual = n; trigger = Some (trigger_of t) }))
  both_move c h n is = processes_move k c h triggered (record c.processes { instances = change c.processes.instances p (λ i. record i { residual = n; trigger = Some (trigger_of t) }) })
      (put_stands (Shows (whole_design k) k.program.now) k.schedule triggered c.processes h.processes p waiting (λ i. record i { residual = n; trigger = Some (trigger_of t) }) puts (λ i. refl) (λ i. refl) (λ i none. none) shows)
    where
      shows : (a : Kept) (i : Instance) → kept_at k.schedule p ≡ Some a → slice_get c.processes.instances p ≡ Some i → Shows (whole_design k) k.program.now a (beside i)
          → Shows (whole_design k) k.program.now waiting (beside (record i { residual = n; trigger = Some (trigger_of t) }))
      shows a i found there old =
          let o = subst (λ v. Shows (whole_design k) k.program.now v (beside i)) (ap (λ o. unwrap_or o x.body.body) (sym found ∙ was)) old in
          record {
            home = o.home;
            path = subst (λ f. i.path ≡ path_in (whole_design k) x.body.body.home f x.body.body.path) (sym keeps.code) o.path;
            code = o.code ∙ sym keeps.code;
            arguments = o.arguments ∙ sym keeps.arguments;
            residual = is;
            trigger = refl;
          }

  pub triggers : (c : Config) (i : Instance) → StandsFor k c → (n : Residual) → strip n ≡ left_in k.program.now b
      → StandsFor (record k { schedule = triggered }) (change_instance (with_residual (settled_in c p i.residual) p n) p (λ j. record j { trigger = Some (trigger_of t) }))
  triggers c i h n is =
      subst (λ is. StandsFor (record k { schedule = triggered }) (record c { processes = record c.processes { instances = is }; trace = (settled_in c p i.residual).trace }))
      (sym (ap (λ is. change is p (λ (j : Instance). record j { trigger = Some (trigger_of t) })) (change-twice c.processes.instances p (λ j. record j { residual = settle (arena c) i.residual }) (λ j. record j { residual = n }))
      ∙ change-twice c.processes.instances p (λ j. record j { residual = n }) (λ j. record j { trigger = Some (trigger_of t) })))
      (trace_moves (record k { schedule = triggered }) (change_instance c p (λ j. record j { residual = n; trigger = Some (trigger_of t) })) (both_move c h n is) (settled_in c p i.residual).trace)
