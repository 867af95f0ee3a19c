use Rattle.std.proofs.Common.{Ok, sym, subst}
use Rattle.exec_calls.specs.LogicValues.declared.kinds.Value.TheVariants as value
use Rattle.std.specs.Prelude.{unwrap_or}
use Rattle.exec_calls.specs.SimModel.Residual.{settle}
use Rattle.exec_calls.specs.SimModel.Configuration.{arena}
use Rattle.exec_calls.specs.SimModel.Storing.{passes}
use Rattle.exec_calls.specs.SimModel.Statements.{settled_in, via_ends}
use Rattle.exec_calls.specs.KernelState.Moves.{Follows}
use Rattle.exec_calls.proofs.Handing.{called_by}
use Rattle.exec_transactions.specs.Ending.{IsNbTransport}
use Rattle.exec_transactions.proofs.Ended.{nb_handed, nb_ends}
use Rattle.exec_transactions.proofs.returning.end_nonblocking.Goals as goal

pub returns-in-Some-clause-does : goal.returns-in-Some-clause-does
returns-in-Some-clause-does c = λ d i h there x is.
    let first = settled_in d c.args.p i.residual in
    let left = settle (arena d) i.residual in
    let e = c.args.ending in
    let to = c.args.to in
    nb_ends c.return_nonblocking.new.k c.return_nonblocking.result d first c.args.p (record i { residual = left }) left x e (c.requires.ends d i x h there is) to.target to.phase to.delay (called_by c.args.k.now c.args.p c.requires.lives (IsNbTransport to.target to.phase to.delay) c.requires.called x d i h there is)
    (subst (λ o. Follows c.return_nonblocking.new.k c.return_nonblocking.result d (via_ends (passes first c.args.p left) o (nb_handed first c.args.p (record i { residual = left }) left to.target to.phase to.delay e.answer (unwrap_or e.first (value.Int 32 0)) (unwrap_or e.second (value.Moment 0))))) (sym c.in-Some.is)
    (subst (λ v. Follows c.return_nonblocking.new.k c.return_nonblocking.result d (nb_handed first c.args.p (record i { residual = left }) left to.target to.phase to.delay e.answer v (unwrap_or e.second (value.Moment 0)) c.in-Some.via)) c.unwrap_or-phase.ensures
    (subst (λ v. Follows c.return_nonblocking.new.k c.return_nonblocking.result d (nb_handed first c.args.p (record i { residual = left }) left to.target to.phase to.delay e.answer c.unwrap_or-phase.result v c.in-Some.via)) c.unwrap_or-delay.ensures (c.return_nonblocking.ensures.does d i h there))))

pub returns-in-None-clause-does : goal.returns-in-None-clause-does
returns-in-None-clause-does c = λ d i h there x is.
    let first = settled_in d c.args.p i.residual in
    let left = settle (arena d) i.residual in
    let e = c.args.ending in
    let to = c.args.to in
    nb_ends c.leave.new.k (Ok tt) d first c.args.p (record i { residual = left }) left x e (c.requires.ends d i x h there is) to.target to.phase to.delay (called_by c.args.k.now c.args.p c.requires.lives (IsNbTransport to.target to.phase to.delay) c.requires.called x d i h there is)
    (subst (λ o. Follows c.leave.new.k (Ok tt) d (via_ends (passes first c.args.p left) o (nb_handed first c.args.p (record i { residual = left }) left to.target to.phase to.delay e.answer (unwrap_or e.first (value.Int 32 0)) (unwrap_or e.second (value.Moment 0))))) (sym c.in-None.is)
    (c.leave.ensures.steps d i h there))
