use Rattle.std.proofs.Common.{take, length, ◌<◌, sym, ap, ◌∙◌, subst, arith}
use Rattle.std.proofs.lemmas.List.{take_more}
use Rattle.kernel_transactions.specs.Board.{AreKept, left}
use Rattle.kernel_transactions.proofs.Histories.{left-more}
use Rattle.kernel_transactions.proofs.TransactionBoard.abandon_all.Goals as goal

pub loop-via-preserved : goal.loop-via-preserved
loop-via-preserved c =
    let within : c.loop-via.via-index < length c.args.calls.now = omega (arith, c.loop-via-test.true) in
    record {
      moves = λ x stands. subst (AreKept c.abandon.new.self.pool c.abandon.new.self.hops)
          (sym (left-more x (take c.loop-via.via-index c.args.calls.now) _) ∙ ap (left x) (sym (take_more c.args.calls.now c.loop-via.via-index _ within)))
          (c.abandon.ensures.moves (left x (take c.loop-via.via-index c.args.calls.now)) (c.loop-via.invariant.moves x stands));
      within = λ n was. c.abandon.ensures.within n (c.loop-via.invariant.within n was);
      quantum = c.abandon.ensures.quantum ∙ c.loop-via.invariant.quantum;
    }
