use Rattle.sim_model.specs.PayloadPool.Transfer.{carried}
use Rattle.kernel_transactions.proofs.Counts.{written_within}
use Rattle.kernel_transactions.proofs.Frames.{write_moves}
use Rattle.kernel_transactions.proofs.TransactionBoard.carry.Goals as goal

pub returns-in-Ok-clause-moves : goal.returns-in-Ok-clause-moves
returns-in-Ok-clause-moves c = λ x q stands live.
    write_moves c.args.self.now.pool c.args.self.now.hops x stands c.args.t c.in-Ok.payload.now c.carry-status.new.p c.in-Ok.ensures.value (λ r. carried r c.args.memory.now) c.carry-status.ensures.payload q live

pub returns-in-Ok-clause-within : goal.returns-in-Ok-clause-within
returns-in-Ok-clause-within c = λ n within. written_within n c.args.self.now.pool within c.args.t c.carry-status.new.p
