-- An exception for another instance.
use Rattle.std.specs.Prelude.{◌≡◌, ℕ, false, Result, Ok, Err, if◌then◌else◌}
use Rattle.flat_design.specs.declared.faults.RunFault.{RunFault}
use Rattle.flat_design.specs.declared.faults.RunFault.TheVariants as fault
use Rattle.exec_data.specs.SimModel.Residual.{settle}
use Rattle.exec_data.specs.SimModel.Unwinding.{catches, raise, left_by_raise}
use Rattle.exec_data.specs.SimModel.Configuration.{Config, Instance, with_residual, arena}
use Rattle.exec_data.specs.SimModel.Calls.{with_left}
use Rattle.exec_data.specs.SimModel.Control.{pushed}
use Rattle.exec_data.specs.SimModel.Statements.{settled_in}
use Rattle.exec_data.specs.SimModel.declared.plain.Goal.TheVariants as goal_of
use Rattle.exec_data.specs.KernelProcesses.InstanceViews.{is_on}
use Rattle.exec_data.specs.KernelState.Ways.{moved_on}
use Rattle.exec_data.specs.KernelState.declared.kernel.Kernel.{Kernel}
use Rattle.exec_data.specs.KernelState.declared.ways.Way.{Way}
use Rattle.exec_control.specs.Unwound.{HasNoGoal}

-- instance p, which is i, is past its call this way
abbrev pub past : Way → Config → ℕ → Instance → Config
past w c p i = moved_on w (settled_in c p i.residual) p (settle (arena c) i.residual)

-- an exception in a thread that has begun and is not active
abbrev pub injects : Config → ℕ → Instance → ℕ → Result Config RunFault
injects c q j e =
    if catches j.residual e then Ok (with_left (pushed (with_residual c q (raise (arena c) j.residual e goal_of.Injected)) q) (left_by_raise j.residual e))
    else Err (fault.Uncaught e)

-- who is not active is not being unwound
abbrev pub OthersHaveNoGoal : Kernel → Type 0
OthersHaveNoGoal k = (q : ℕ) → is_on k.schedule.stack.items q ≡ false → HasNoGoal k q
