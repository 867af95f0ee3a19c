-- What a move of one instance leaves alone.
use Rattle.std.specs.Prelude.{◌≡◌, ◌≢◌, ℕ}
use Rattle.exec_data.specs.KernelProcesses.InstanceViews.{body_at as kept_at}
use Rattle.exec_data.specs.KernelState.declared.kernel.Kernel.{Kernel}

-- what is kept of all others stays, and so does the code
pub record KeepsOthers (p : ℕ) (old new : Kernel) : Type 0 where
  pub bodies : (q : ℕ) → q ≢ p → kept_at new.schedule q ≡ kept_at old.schedule q
  pub program : new.program.now ≡ old.program.now
