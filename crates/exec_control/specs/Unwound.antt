-- Whether an instance is being unwound.
use Rattle.std.specs.Prelude.{◌≡◌, ℕ, false, Option, Some}
use Rattle.flat_design.specs.Code as code
use Rattle.flat_design.specs.Code.{Statement, arena_of, statement_at}
use Rattle.exec_data.specs.SimModel.Residual as residual
use Rattle.exec_data.specs.SimModel.Residual.{next_of, has_goal}
use Rattle.exec_data.specs.SimModel.declared.plain.Goal.{Goal}
use Rattle.exec_data.specs.ProcessBodies.Bodies.{left_in, settled_in}
use Rattle.exec_data.specs.KernelState.Moves.{KeptAt}
use Rattle.exec_data.specs.KernelState.declared.kernel.Kernel.{Kernel}
use Rattle.exec_data.specs.Entered.{Shows}

-- instance p is not being unwound
abbrev pub HasNoGoal : Kernel → ℕ → Type 0
HasNoGoal k p = KeptAt k p (λ kept. has_goal (left_in k.program.now kept.body) ≡ false)

-- what comes next in its body is this goal
abbrev pub Reaches : Kernel → ℕ → Goal → Type 0
Reaches k p goal = KeptAt k p (λ kept. next_of (settled_in k.program.now kept.body) ≡ residual.reaches goal)

-- a throw stands only where instance p is not being unwound
abbrev pub ThrowsFree : Kernel → ℕ → Statement → Type 0
ThrowsFree k p x = (e : ℕ) → x ≡ code.throw e → HasNoGoal k p

abbrev pub ThrowsFreeIf : Kernel → ℕ → Option Statement → Type 0
ThrowsFreeIf k p o = (x : Statement) → o ≡ Some x → ThrowsFree k p x

-- where a throw comes next in its body, it is not
abbrev pub ThrowsFreeNext : Kernel → ℕ → Type 0
ThrowsFreeNext k p = (s : ℕ) → Shows k p s → ThrowsFreeIf k p (statement_at (arena_of k.program.now.code) s)
