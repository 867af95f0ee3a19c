use Rattle.std.proofs.Common.{Ok, subst}
use Rattle.flat_design.specs.Code.{term_of}
use Rattle.exec_calls.specs.SimModel.Values.{moment}
use Rattle.exec_calls.specs.SimModel.Residual.{settle}
use Rattle.exec_calls.specs.SimModel.Configuration.{arena}
use Rattle.exec_calls.specs.SimModel.Statements.{settled_in}
use Rattle.exec_calls.specs.SimModel.Reading.{val}
use Rattle.exec_calls.specs.SimModel.Storing.{passes}
use Rattle.exec_calls.specs.SimModel.Transport.{with_global}
use Rattle.exec_calls.specs.KernelState.Kernel.{StandsFor}
use Rattle.exec_calls.proofs.ExecData.Following.{evaluated}
use Rattle.exec_transactions.proofs.keepers.qk_global.Goals as goal

pub returns-clause-does : goal.returns-clause-does
returns-clause-does c =
    evaluated c.args.k.now c.args.p c.eval_at.result (λ h. val h (term_of c.args.time.now)) c.eval_at.ensures (λ d q i r v. Ok (with_global (passes d q r) (moment v)))
    c.set_global.new.k (Ok tt) c.in_ok-value.value c.in_ok-value.was
    (λ d i h there.
    let past = passes (settled_in d c.args.p i.residual) c.args.p (settle (arena d) i.residual) in
    subst (λ t. StandsFor c.set_global.new.k (with_global past t)) c.moment.ensures (c.set_global.ensures.moves past (c.pass.ensures.steps d i h there)))
