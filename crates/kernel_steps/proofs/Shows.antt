-- What comes next in a body, and the step that this makes.
use Rattle.std.proofs.Common.{◌≡◌, ℕ, Some, option_map, refl, sym, ap, ◌∙◌, subst}
use Rattle.std.specs.Prelude.{unwrap_or}
use Rattle.std.specs.FinMap as map
use Rattle.exec_channels.specs.InstanceTable.declared.instances.Instance.{Instance as Entry}
use Rattle.flat_design.specs.Code.{arena_of, statement_at}
use Rattle.exec_channels.specs.KernelBodies.Layers.{shown}
use Rattle.exec_channels.specs.KernelBodies.declared.layers.Next.TheVariants as next
use Rattle.exec_channels.proofs.KernelBodies.Strips.{strip-next}
use Rattle.exec_channels.specs.ProcessBodies.Bodies as bodies
use Rattle.exec_channels.specs.KernelProcesses.declared.parts.Process.{Process}
use Rattle.exec_channels.specs.KernelProcesses.InstanceViews.{body_at as kept_at}
use Rattle.exec_channels.specs.SimModel.Residual as residual
use Rattle.exec_channels.specs.SimModel.Residual.{Frame, Next, next_of, settle, taken_off}
use Rattle.exec_channels.specs.SimModel.Configuration.{Config, Instance, instance_at, with_residual, arena}
use Rattle.exec_channels.specs.SimModel.Statements.{settled_in, on_statement, owed_by, do_next, step_by, statement_step}
use Rattle.exec_channels.specs.KernelState.Moves.{KeptAt, HasStatement}
use Rattle.exec_channels.specs.KernelState.Ways.{HasOwed}
use Rattle.exec_channels.specs.KernelState.declared.kernel.Kept.{Kept}
use Rattle.exec_channels.specs.KernelState.declared.kernel.Kernel.{Kernel}
use Rattle.exec_channels.proofs.KernelState.Frames.{settled_before}
use Rattle.exec_control.specs.ExecData.Entered.{Shows}
use Rattle.kernel_steps.specs.Owing.{Owes}
use Rattle.kernel_steps.specs.Shown.{ComesNext}
use Rattle.kernel_steps.specs.StepAnswers.{TellsAll, MakesAll, MakesStep}
use Rattle.kernel_steps.specs.declared.answers.StepAnswer.{StepAnswer}

pub has_statement : (k : Kernel) (p s : ℕ) → Shows k p s → HasStatement k p
has_statement k p s shows kept at = subst bodies.IsStatement (sym (ap shown (shows kept at))) tt

pub has_owed : (k : Kernel) (p s q : ℕ) → Owes k p s q → HasOwed k p
has_owed k p s q owes kept at = subst bodies.IsOwed (sym (ap shown (owes kept at))) tt

-- the end of a call is shown by one that ends
pub leave_is : (n : Next) → next.Leave ≡ shown n → (x : Frame) × (n ≡ residual.leaves x)
leave_is (residual.statement s) is = absurd (let no : ⊥ = cc in no)
leave_is (residual.owes s q) is = absurd (let no : ⊥ = cc in no)
leave_is (residual.leaves x) is = (x, refl)
leave_is residual.done is = absurd (let no : ⊥ = cc in no)
leave_is (residual.reaches g) is = absurd (let no : ⊥ = cc in no)
leave_is residual.nothing is = absurd (let no : ⊥ = cc in no)

module _ (k : Kernel) (p : ℕ) (x : Entry (Process Kept)) (at : map.get k.schedule.table.live p ≡ Some x) where
  pub was : kept_at k.schedule p ≡ Some x.body.body
  was = ap (option_map (λ (z : Entry (Process Kept)). z.body.body)) at

  pub kept_is : (P : Kept → Type 0) → P x.body.body → KeptAt k p P
  kept_is P holds kept is = subst P (ap (λ o. unwrap_or o kept) (sym was ∙ is)) holds

  pub comes_next : (n : Next) → next_of (bodies.settled_in k.program.now x.body.body.body) ≡ n → ComesNext k p n
  comes_next n is c i h there = sym (strip-next (settle (arena c) i.residual)) ∙ ap next_of (settled_before k p x at c i h there) ∙ is

  pub leave_next : next.Leave ≡ bodies.next_in k.program.now x.body.body.body → (f : Frame) × ComesNext k p (residual.leaves f)
  leave_next is = let t = leave_is (next_of (bodies.settled_in k.program.now x.body.body.body)) is in (t.0, comes_next (residual.leaves t.0) t.1)

step_is : (c : Config) (i : Instance) (p : ℕ) (n : Next) → instance_at c p ≡ Some i → next_of (settle (arena c) i.residual) ≡ n
    → do_next (settled_in c p i.residual) p (record i { residual = settle (arena c) i.residual }) (settle (arena c) i.residual) n ≡ statement_step c p
step_is c i p n there is = sym (ap (step_by c p) there ∙ ap (do_next (settled_in c p i.residual) p (record i { residual = settle (arena c) i.residual }) (settle (arena c) i.residual)) is)

module _ (k new : Kernel) (a : StepAnswer) (p : ℕ) where
  pub next_made : (n : Next) → ComesNext k p n → MakesAll k new a p (λ c q i r. do_next c q i r n) → MakesStep k new a p
  next_made n comes makes c i h there = subst (TellsAll new a c i) (step_is c i p n there (comes c i h there)) (makes c i h there)

  pub statement_made : (s : ℕ) → ComesNext k p (residual.statement s) → MakesAll k new a p (λ c q i r. on_statement c q i r s (statement_at (arena_of k.program.now.code) s)) → MakesStep k new a p
  statement_made s comes makes = next_made (residual.statement s) comes (λ c i h there.
      subst (λ d. TellsAll new a c i (on_statement (settled_in c p i.residual) p (record i { residual = settle (arena c) i.residual }) (settle (arena c) i.residual) s (statement_at (arena_of d.code) s))) (sym h.design) (makes c i h there))

  pub owed_made : (s q : ℕ) → ComesNext k p (residual.owes s q) → MakesAll k new a p (λ c t i r. owed_by (with_residual c t (taken_off r)) q (statement_at (arena_of k.program.now.code) s)) → MakesStep k new a p
  owed_made s q comes makes = next_made (residual.owes s q) comes (λ c i h there.
      subst (λ d. TellsAll new a c i (owed_by (with_residual (settled_in c p i.residual) p (taken_off (settle (arena c) i.residual))) q (statement_at (arena_of d.code) s))) (sym h.design) (makes c i h there))
