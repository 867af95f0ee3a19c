-- The statement that comes next.
use Rattle.std.specs.Prelude.{◌≡◌, ℕ}
use Rattle.kernel_view.specs.SimModel.Residual as residual
use Rattle.kernel_view.specs.SimModel.Residual.{next_of}
use Rattle.kernel_view.specs.ProcessBodies.Bodies.{settled_in}
use Rattle.kernel_view.specs.KernelState.Moves.{KeptAt}
use Rattle.kernel_view.specs.KernelState.declared.kernel.Kernel.{Kernel}

-- statement s comes next in the body of instance p
abbrev pub Shows : Kernel → ℕ → ℕ → Type 0
Shows k p s = KeptAt k p (λ kept. next_of (settled_in k.program.now kept.body) ≡ residual.statement s)
