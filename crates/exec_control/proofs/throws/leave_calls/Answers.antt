use Rattle.std.proofs.Common.{take, sym, ap, ◌∙◌, subst, arith}
use Rattle.exec_data.specs.SimModel.Unwinding.{left_by_raise}
use Rattle.exec_data.specs.ProcessBodies.Bodies.{left_in}
use Rattle.exec_data.specs.KernelTransactions.Board.{StandsForTransactions, left}
use Rattle.exec_data.proofs.KernelTransactions.Histories.{left-more}
use Rattle.exec_data.proofs.KernelState.Leaving.{here_below, one_more_taken, all_taken}
use Rattle.exec_control.proofs.throws.leave_calls.Goals as goal

pub loop-via-preserved : goal.loop-via-preserved
loop-via-preserved c = record {
  moves = λ x stands.
      let vs = left_by_raise (left_in c.args.program.now c.args.body.now) c.args.e in
      subst (StandsForTransactions c.abandon.new.self)
      (sym (left-more x (take c.loop-via.number vs) c.in-Some.via) ∙ ap (left x) (sym (one_more_taken vs c.loop-via.number c.in-Some.via (sym c.in-Some.ensures.value))))
      (c.abandon.ensures.moves (left x (take c.loop-via.number vs)) (c.loop-via.invariant.moves x stands));
  within = λ n was. c.abandon.ensures.within n (c.loop-via.invariant.within n was);
  quantum = c.abandon.ensures.quantum ∙ c.loop-via.invariant.quantum;
}

pub loop-via-smaller : goal.loop-via-smaller
loop-via-smaller c =
    let below = here_below (left_by_raise (left_in c.args.program.now c.args.body.now) c.args.e) c.loop-via.number c.in-Some.via (sym c.in-Some.ensures.value) in
    omega (arith, below)

pub returns-clause-moves : goal.returns-clause-moves
returns-clause-moves c = λ x stands. subst (λ vs. StandsForTransactions c.loop-via.transactions (left x vs))
    (all_taken (left_by_raise (left_in c.args.program.now c.args.body.now) c.args.e) c.loop-via.number (sym c.in_default.ensures.value)) (c.loop-via.invariant.moves x stands)
