-- An exception that is thrown at another instance, behind the statement that throws it.
use Rattle.std.proofs.Common.{◌≡◌, ◌≢◌, ◌&&◌, ℕ, Bool, true, false, Option, Some, None, refl, sym, ap, ◌∙◌, true≢false}
use Rattle.std.specs.Prelude.{if◌then◌else◌, Result, Ok, Err}
use Rattle.std.specs.FinMap as map
use Rattle.flat_design.specs.declared.faults.RunFault.{RunFault}
use Rattle.flat_design.specs.declared.faults.RunFault.TheVariants as fault
use Rattle.exec_data.specs.SimModel.Configuration.{Config, Instance, instance_at}
use Rattle.exec_data.specs.SimModel.Control.{is_thread, throws_at, throw_call, unless_ended, injected}
use Rattle.exec_data.specs.KernelProcesses.InstanceViews.{is_on, shown_at}
use Rattle.exec_data.specs.KernelProcesses.InstanceViews.{body_at as kept_at}
use Rattle.exec_data.specs.KernelProcesses.Moved.{IsTop}
use Rattle.exec_data.specs.KernelState.Processes.{TellsBy, Tells}
use Rattle.exec_data.specs.KernelState.Kernel.{Shows, StandsFor, IsSound, whole_design}
use Rattle.exec_data.specs.KernelState.Moves.{Follows}
use Rattle.exec_data.specs.KernelState.declared.kernel.Kernel.{Kernel}
use Rattle.exec_data.specs.KernelState.declared.ways.Way.{Way}
use Rattle.exec_data.proofs.KernelState.Frames.{lives_by_kept}
use Rattle.exec_data.proofs.KernelState.Ending.{follows_as}
use Rattle.exec_data.proofs.KernelState.Stacks.{off_stack_is, below_top_is, not_below}
use Rattle.exec_control.specs.Thrown.{past, injects}
use Rattle.exec_control.proofs.Passing.{others_passed, is_refused, to_other, nothing_thrown, is_injected}

module _ (k : Kernel) (q : ℕ) (none : map.contains_key k.schedule.table.live q ≡ false) (d : Config) (f : Instance → Result Config RunFault) where
  over_by : (i : Instance) (b : Bool) → i.ended ≡ b → TellsBy (Shows (whole_design k) k.program.now) b (shown_at k.schedule q) (kept_at k.schedule q) i → (if i.ended then Ok d else f i) ≡ Ok d
  over_by i true is tells = ap (λ b. if b then Ok d else f i) is
  over_by i false is tells = absurd (true≢false (sym (lives_by_kept k.schedule q tells.kept.0 tells.kept.1.0) ∙ none))

  over_at : (o : Option Instance) → Tells (Shows (whole_design k) k.program.now) (shown_at k.schedule q) (kept_at k.schedule q) o → unless_ended d o f ≡ Ok d
  over_at None tells = refl
  over_at (Some i) tells = over_by i i.ended refl tells

module _ (w : Way) (k : Kernel) (c : Config) (p q : ℕ) (apart : q ≢ p) (i : Instance) (e : ℕ) (h : StandsFor k c) (there : instance_at c p ≡ Some i) where
  -- one that has ended
  pub over_past : map.contains_key k.schedule.table.live q ≡ false → (l : Kernel) → StandsFor l (past w c p i) → Follows l (Ok tt) c (throw_call (past w c p i) q e)
  over_past none l stands = follows_as l c (Ok tt) (throw_call (past w c p i) q e) (Ok (past w c p i))
      (ap (λ o. unless_ended (past w c p i) o (λ j. throws_at (past w c p i) q j e)) (others_passed w c p i there q apart)
      ∙ over_at k q none (past w c p i) (λ j. throws_at (past w c p i) q j e) (instance_at c q) (h.processes.each q)) stands

  module _ (sound : IsSound k) (j : Instance) (other : instance_at c q ≡ Some j) (alive : j.ended ≡ false) where
    at_past : instance_at (past w c p i) q ≡ Some j
    at_past = others_passed w c p i there q apart ∙ other

    -- one that is active below the top
    pub below_past : IsTop p k.schedule.stack.items → is_on k.schedule.stack.items q ≡ true → throw_call (past w c p i) q e ≡ Err (fault.ControlOnActive q)
    below_past top on = is_refused (past w c p i) q j e at_past alive (sym (below_top_is k c h p q top (λ same. apart (sym same))) ∙ on)

    module _ (rests : is_on k.schedule.stack.items q ≡ false) where
      goes : throw_call (past w c p i) q e ≡ injected (past w c p i) q j e
      goes = to_other (past w c p i) q j e at_past alive (not_below k c h q sound.schedule.once (λ on. absurd (true≢false (sym on ∙ rests)))) (off_stack_is k c h q rests)

      -- one at which nothing can be thrown
      pub no_thread_past : (is_thread j.kind && j.started) ≡ false → (l : Kernel) → StandsFor l (past w c p i) → Follows l (Ok tt) c (throw_call (past w c p i) q e)
      no_thread_past neither l stands = follows_as l c (Ok tt) (throw_call (past w c p i) q e) (Ok (past w c p i)) (goes ∙ nothing_thrown (past w c p i) q j e at_past alive neither) stands

      -- and a thread that has begun
      pub thrown_past : (is_thread j.kind && j.started) ≡ true → (l : Kernel) (a : Result Unit RunFault) → Follows l a c (injects (past w c p i) q j e) → Follows l a c (throw_call (past w c p i) q e)
      thrown_past both l a follows = follows_as l c a (throw_call (past w c p i) q e) (injects (past w c p i) q j e) (goes ∙ is_injected (past w c p i) q j e at_past alive both) follows
