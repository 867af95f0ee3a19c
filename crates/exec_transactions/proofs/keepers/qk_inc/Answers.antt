use Rattle.std.proofs.Common.{Ok, ap, ◌∙◌, subst}
use Rattle.flat_design.specs.Code.{term_of}
use Rattle.exec_calls.specs.QuantumKeeper.Keepers.{after_inc}
use Rattle.exec_calls.specs.SimModel.Values.{moment}
use Rattle.exec_calls.specs.SimModel.Residual.{settle}
use Rattle.exec_calls.specs.SimModel.Configuration.{arena}
use Rattle.exec_calls.specs.SimModel.Statements.{settled_in}
use Rattle.exec_calls.specs.SimModel.Reading.{here, val, denotes, keeper_number, keeper_at}
use Rattle.exec_calls.specs.SimModel.Storing.{passes}
use Rattle.exec_calls.specs.SimModel.Transport.{kept, on_keeper}
use Rattle.exec_calls.specs.KernelState.Moves.{Follows}
use Rattle.exec_calls.proofs.ExecData.Following.{evaluated}
use Rattle.exec_transactions.proofs.keepers.qk_inc.Goals as goal

pub returns-clause-does : goal.returns-clause-does
returns-clause-does c =
    evaluated c.args.k.now c.args.p c.eval_at.result (λ h. val h (term_of c.args.time.now)) c.eval_at.ensures
    (λ d q i r v. on_keeper (passes d q r) (keeper_at d (keeper_number (denotes (here d q i r) c.args.n))) (λ x. kept (passes d q r) (keeper_number (denotes (here d q i r) c.args.n)) (after_inc x (moment v))))
    c.inc_named.new.k c.inc_named.result c.in_ok-value.value c.in_ok-value.was
    (λ d i h there.
    let first = settled_in d c.args.p i.residual in
    let past = passes first c.args.p (settle (arena d) i.residual) in
    subst (λ o. Follows c.inc_named.new.k c.inc_named.result d (on_keeper past (keeper_at first o) (λ x. kept past o (after_inc x (moment c.in_ok-value.value)))))
    (c.keeper_number-keeper.ensures ∙ ap keeper_number (c.denoted_at.ensures d i h there))
    (subst (λ t. Follows c.inc_named.new.k c.inc_named.result d (on_keeper past (keeper_at first c.keeper_number-keeper.result) (λ x. kept past c.keeper_number-keeper.result (after_inc x t))))
    c.moment.ensures (c.inc_named.ensures.does d i h there)))
