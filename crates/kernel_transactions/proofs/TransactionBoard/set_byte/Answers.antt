use Rattle.std.proofs.Common.{ap, ◌∙◌}
use Rattle.std.proofs.lemmas.Result.{on_ok_weaker, on_err_weaker}
use Rattle.sim_model.specs.PayloadPool.Payloads as pool
use Rattle.sim_model.specs.Storing.{with_byte}
use Rattle.kernel_transactions.specs.declared.TransactionBoard.{TransactionBoard}
use Rattle.kernel_transactions.proofs.Pools.{rewritten_same}
use Rattle.kernel_transactions.proofs.Counts.{written_within}
use Rattle.kernel_transactions.proofs.Frames.{write_moves}
use Rattle.kernel_transactions.proofs.TransactionBoard.set_byte.Goals as goal

pub returns-in-Ok-clause-moves : goal.returns-in-Ok-clause-moves
returns-in-Ok-clause-moves c = on_ok_weaker c.write_byte.result (λ written x q stands live.
    write_moves c.args.self.now.pool c.args.self.now.hops x stands c.args.t c.in-Ok.payload.now c.write_byte.new.payload c.in-Ok.ensures.value (with_byte c.args.part c.args.i c.args.byte) written q live)
    c.write_byte.ensures.written

pub returns-in-Ok-clause-within : goal.returns-in-Ok-clause-within
returns-in-Ok-clause-within c = λ n within. written_within n c.args.self.now.pool within c.args.t c.write_byte.new.payload

pub returns-in-Ok-clause-refused : goal.returns-in-Ok-clause-refused
returns-in-Ok-clause-refused c =
    let old : TransactionBoard = c.args.self.now in
    on_err_weaker c.write_byte.result (λ same. ap (λ p. record old { pool = p })
    (ap (pool.with_payload old.pool c.args.t) same ∙ rewritten_same old.pool c.args.t c.in-Ok.payload.now c.in-Ok.ensures.value))
    c.write_byte.ensures.err
