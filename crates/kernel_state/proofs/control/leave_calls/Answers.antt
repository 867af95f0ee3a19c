use Rattle.std.proofs.Common.{[], ◌<◌, ◌-◌, length, take, refl, sym, ap, ◌∙◌, subst, arith}
use Rattle.kernel_processes.specs.FlatDesign.Code.{Arena}
use Rattle.kernel_processes.specs.SimModel.Unwinding.{left_by_unw}
use Rattle.process_bodies.specs.Bodies.{left_of}
use Rattle.kernel_transactions.specs.Board.{StandsForTransactions, left}
use Rattle.kernel_transactions.proofs.Histories.{left-more}
use Rattle.kernel_state.proofs.Leaving.{here_below, one_more_taken, all_taken}
use Rattle.kernel_state.proofs.control.leave_calls.Goals as goal

pub loop-via-preserved : goal.loop-via-preserved
loop-via-preserved c = record {
  moves = λ a x stands.
      let vs = left_by_unw (left_of a c.args.body.now) in
      subst (StandsForTransactions c.abandon.new.self)
      (sym (left-more x (take c.loop-via.number vs) c.in-Some.via) ∙ ap (left x) (sym (one_more_taken vs c.loop-via.number c.in-Some.via (sym (c.in-Some.ensures.value a)))))
      (c.abandon.ensures.moves (left x (take c.loop-via.number vs)) (c.loop-via.invariant.moves a x stands));
  within = λ n was. c.abandon.ensures.within n (c.loop-via.invariant.within n was);
  quantum = c.abandon.ensures.quantum ∙ c.loop-via.invariant.quantum;
}

pub loop-via-smaller : goal.loop-via-smaller
loop-via-smaller c =
    let a : Arena = record { bodies = []; blocks = []; statements = [] } in
    let below = here_below (left_by_unw (left_of a c.args.body.now)) c.loop-via.number c.in-Some.via (sym (c.in-Some.ensures.value a)) in
    omega (arith, below)

pub returns-clause-moves : goal.returns-clause-moves
returns-clause-moves c = λ a x stands. subst (λ vs. StandsForTransactions c.loop-via.transactions (left x vs))
    (all_taken (left_by_unw (left_of a c.args.body.now)) c.loop-via.number (sym (c.in_default.ensures.value a))) (c.loop-via.invariant.moves a x stands)
