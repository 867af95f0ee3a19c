use Rattle.sim_model.specs.Storing.{with_field}
use Rattle.kernel_transactions.proofs.Counts.{written_within}
use Rattle.kernel_transactions.proofs.Frames.{write_moves}
use Rattle.kernel_transactions.proofs.TransactionBoard.set_field.Goals as goal

pub returns-in-Ok-clause-moves : goal.returns-in-Ok-clause-moves
returns-in-Ok-clause-moves c = λ v is x q stands live.
    write_moves c.args.self.now.pool c.args.self.now.hops x stands c.args.t c.in-Ok.payload.now c.write_field.new.payload c.in-Ok.ensures.value (with_field c.args.field v) (c.write_field.ensures v is) q live

pub returns-in-Ok-clause-within : goal.returns-in-Ok-clause-within
returns-in-Ok-clause-within c = λ n within. written_within n c.args.self.now.pool within c.args.t c.write_field.new.payload
