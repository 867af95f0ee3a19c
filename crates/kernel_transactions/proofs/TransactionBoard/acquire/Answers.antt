use Rattle.std.proofs.Common.{◌+◌, sym, subst}
use Rattle.kernel_transactions.specs.Board.{AreWithin}
use Rattle.kernel_transactions.proofs.Pools.{acquired}
use Rattle.kernel_transactions.proofs.Counts.{acquired_within}
use Rattle.kernel_transactions.proofs.Frames.{pool_moves}
use Rattle.kernel_transactions.proofs.TransactionBoard.acquire.Goals as goal

pub returns-in-Ok-clause-moves : goal.returns-in-Ok-clause-moves
returns-in-Ok-clause-moves c = λ x stands. pool_moves _ _ _ _ x _ c.acquire.ensures.counted (acquired _ _ stands.payloads c.args.t) stands

pub returns-in-Ok-clause-raised : goal.returns-in-Ok-clause-raised
returns-in-Ok-clause-raised c = λ n within. subst (AreWithin (n + 1)) (sym c.acquire.ensures.counted) (acquired_within n _ within c.args.t)

pub returns-in-Err-clause-moves : goal.returns-in-Err-clause-moves
returns-in-Err-clause-moves c = λ x stands. pool_moves _ _ _ _ x _ c.acquire.ensures.counted (acquired _ _ stands.payloads c.args.t) stands
