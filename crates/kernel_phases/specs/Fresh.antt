-- A kernel whose processes have not begun.
use Rattle.std.specs.Prelude.{◌≡◌, ◌<◌, ℕ, false, [], length}
use Rattle.std.specs.FinMap as map
use Rattle.kernel_state.specs.KernelProcesses.Moved.{is_suspended}
use Rattle.kernel_state.specs.Moves.{Lives}
use Rattle.kernel_state.specs.declared.kernel.Kernel.{Kernel}

-- each process of the design has its instance, which is not suspended, and none is active
pub record IsFresh (k : Kernel) : Type 0 where
  pub lives : (p : ℕ) → p < length k.design.processes → Lives k p
  pub goes : (p : ℕ) → p < length k.design.processes → is_suspended (map.get k.schedule.table.live p) ≡ false
  pub nobody : k.schedule.stack.items ≡ []
