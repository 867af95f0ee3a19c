use Rattle.std.proofs.Common.{[], ◌-◌, length, take}
use Rattle.kernel_processes.specs.FlatDesign.Code.{Arena}
use Rattle.kernel_processes.specs.SimModel.Unwinding.{left_by_unw}
use Rattle.process_bodies.specs.Bodies.{left_of}
use Rattle.kernel_transactions.specs.Board.{Moves, StaysWithin, SameQuantum, left}
use Rattle.kernel_state.proofs.control.leave_calls.Given as goal

-- the first of the calls are left
abbrev pub invariant-loop-via : goal.invariant-loop-via
invariant-loop-via l = record {
  moves : (a : Arena) → Moves l.initial.transactions l.transactions (λ x. left x (take l.number (left_by_unw (left_of a l.body))));
  within : StaysWithin l.initial.transactions l.transactions;
  quantum : SameQuantum l.initial.transactions l.transactions;
}

abbrev pub decreases-loop-via : goal.decreases-loop-via
decreases-loop-via l = length (left_by_unw (left_of (record { bodies = []; blocks = []; statements = [] }) l.body)) - l.number
