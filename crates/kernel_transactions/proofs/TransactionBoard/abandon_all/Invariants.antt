use Rattle.std.proofs.Common.{take}
use Rattle.kernel_transactions.specs.Board.{Moves, StaysWithin, SameQuantum, left}
use Rattle.kernel_transactions.proofs.TransactionBoard.abandon_all.Given as goal

abbrev pub invariant-loop-via : goal.invariant-loop-via
invariant-loop-via l = record {
  moves : Moves l.fn.self l.self (λ x. left x (take l.via-index l.calls));
  within : StaysWithin l.fn.self l.self;
  quantum : SameQuantum l.fn.self l.self;
}
