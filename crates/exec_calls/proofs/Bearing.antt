-- What a new instance leaves as it was.
use Rattle.std.proofs.Common.{◌≡◌, ℕ, sym, ◌∙◌, subst}
use Rattle.exec_data.specs.KernelProcesses.InstanceViews.{body_at as kept_at}
use Rattle.exec_data.specs.KernelProcesses.Moved.{IsTop}
use Rattle.exec_data.specs.ProcessBodies.Bodies as bodies
use Rattle.exec_data.specs.KernelState.Moves.{HasStatement, IsOnTop}
use Rattle.exec_data.specs.KernelState.declared.kernel.Kernel.{Kernel}

module _ (old new : Kernel) (p : ℕ) where
  pub statement_still : new.program.now ≡ old.program.now → kept_at new.schedule p ≡ kept_at old.schedule p → HasStatement old p → HasStatement new p
  statement_still program body shows kept at = subst (λ q. bodies.IsStatement (bodies.next_in q kept.body)) (sym program) (shows kept (sym body ∙ at))

  pub top_still : new.schedule.stack.items ≡ old.schedule.stack.items → IsOnTop old p → IsOnTop new p
  top_still stack top = subst (IsTop p) (sym stack) top
