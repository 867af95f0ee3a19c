use Rattle.std.proofs.Common.{◌≡◌, [], ap, ◌∙◌, subst}
use Rattle.exec_calls.specs.PayloadPool.Transfer.{carried, memory_after}
use Rattle.exec_calls.specs.KernelTransactions.Board.{Writes}
use Rattle.exec_transactions.specs.Carried.{bytes_of, with_bytes}
use Rattle.exec_transactions.proofs.Transfers.{on_err, put_twice, put_back}
use Rattle.exec_transactions.proofs.carrying.carry_to.Goals as goal

pub returns-clause-moves : goal.returns-clause-moves
returns-clause-moves c = subst (λ bs. Writes c.args.board.now c.carry_bytes-answer.new.board c.args.t (λ q. carried q bs)) c.take-bytes.ensures.taken c.carry_bytes-answer.ensures.moves

pub returns-clause-memory : goal.returns-clause-memory
returns-clause-memory c = λ x q h at.
    let old = c.args.memories.now.items in
    let m = c.args.m in
    c.put.ensures
    ∙ ap (with_bytes c.take-bytes.new.memories.items m) (c.from_vec.ensures ∙ c.carry_bytes-answer.ensures.memory x q h at ∙ ap (memory_after q) c.take-bytes.ensures.taken)
    ∙ ap (λ ms. with_bytes ms m (memory_after q (bytes_of old m))) c.take-bytes.ensures.left
    ∙ put_twice old m [] (memory_after q (bytes_of old m))

pub returns-clause-left : goal.returns-clause-left
returns-clause-left c = on_err (c.carry_bytes-answer.new.bytes.items ≡ c.take-bytes.result.items) (c.put.new.memories.items ≡ c.args.memories.now.items) c.carry_bytes-answer.result c.carry_bytes-answer.ensures.left (λ same.
    let old = c.args.memories.now.items in
    let m = c.args.m in
    c.put.ensures
    ∙ ap (with_bytes c.take-bytes.new.memories.items m) (c.from_vec.ensures ∙ same ∙ c.take-bytes.ensures.taken)
    ∙ ap (λ ms. with_bytes ms m (bytes_of old m)) c.take-bytes.ensures.left
    ∙ put_back old m [])
