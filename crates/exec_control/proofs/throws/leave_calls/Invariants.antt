use Rattle.std.proofs.Common.{◌-◌, length, take}
use Rattle.exec_data.specs.SimModel.Unwinding.{left_by_raise}
use Rattle.exec_data.specs.ProcessBodies.Bodies.{left_in}
use Rattle.exec_data.specs.KernelTransactions.Board.{Moves, StaysWithin, SameQuantum, left}
use Rattle.exec_control.proofs.throws.leave_calls.Given as goal

-- the first of the calls are left
abbrev pub invariant-loop-via : goal.invariant-loop-via
invariant-loop-via l = record {
  moves : Moves l.initial.transactions l.transactions (λ x. left x (take l.number (left_by_raise (left_in l.program l.body) l.e)));
  within : StaysWithin l.initial.transactions l.transactions;
  quantum : SameQuantum l.initial.transactions l.transactions;
}

abbrev pub decreases-loop-via : goal.decreases-loop-via
decreases-loop-via l = length (left_by_raise (left_in l.program l.body) l.e) - l.number
