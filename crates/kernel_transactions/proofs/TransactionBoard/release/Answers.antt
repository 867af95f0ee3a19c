use Rattle.std.proofs.Common.{sym, subst}
use Rattle.kernel_transactions.specs.Board.{AreWithin}
use Rattle.kernel_transactions.proofs.Pools.{released}
use Rattle.kernel_transactions.proofs.Counts.{released_within}
use Rattle.kernel_transactions.proofs.Frames.{pool_moves}
use Rattle.kernel_transactions.proofs.TransactionBoard.release.Goals as goal

pub returns-in-Ok-clause-moves : goal.returns-in-Ok-clause-moves
returns-in-Ok-clause-moves c = λ x stands. pool_moves _ _ _ _ x _ c.release.ensures.counted (released _ _ stands.payloads c.args.t) stands

pub returns-in-Ok-clause-within : goal.returns-in-Ok-clause-within
returns-in-Ok-clause-within c = λ n within. subst (AreWithin n) (sym c.release.ensures.counted) (released_within n _ within c.args.t)

pub returns-in-Err-clause-moves : goal.returns-in-Err-clause-moves
returns-in-Err-clause-moves c = λ x stands. pool_moves _ _ _ _ x _ c.release.ensures.counted (released _ _ stands.payloads c.args.t) stands
