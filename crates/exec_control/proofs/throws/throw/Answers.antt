use Rattle.std.proofs.Common.{Ok, Err, refl, sym, ◌∙◌}
use Rattle.flat_design.specs.declared.faults.RunFault.TheVariants as fault
use Rattle.exec_data.specs.SimModel.Residual.{settle}
use Rattle.exec_data.specs.SimModel.Unwinding.{raise, left_by_raise}
use Rattle.exec_data.specs.SimModel.Configuration.{arena, with_residual}
use Rattle.exec_data.specs.SimModel.Calls.{with_left, thrown}
use Rattle.exec_data.specs.SimModel.Statements.{settled_in}
use Rattle.exec_data.specs.SimModel.declared.plain.Goal.TheVariants as goal_of
use Rattle.exec_data.proofs.KernelState.Ending.{follows_as}
use Rattle.exec_control.proofs.Throwing.{settled_there, is_thrown, is_uncaught}
use Rattle.exec_control.proofs.throws.throw.Goals as goal

pub returns-then-not-catches-clause-does : goal.returns-then-not-catches-clause-does
returns-then-not-catches-clause-does c d i h there =
    follows_as c.args.k.now d (Err (fault.Uncaught c.args.e)) (thrown (settled_in d c.args.p i.residual) c.args.p (settle (arena d) i.residual) c.args.e) (Err (fault.Uncaught c.args.e))
    (is_uncaught d c.args.p i c.args.e (sym (c.catches.ensures d i h there) ∙ c.if-not-catches.true)) (refl, h)

pub returns-clause-does : goal.returns-clause-does
returns-clause-does c d i h there =
    let r = settle (arena d) i.residual in
    let settled = with_residual (settled_in d c.args.p i.residual) c.args.p r in
    follows_as c.raise_at.new.k d (Ok tt) (thrown (settled_in d c.args.p i.residual) c.args.p r c.args.e) (Ok (with_left (with_residual settled c.args.p (raise (arena d) r c.args.e goal_of.Thrown)) (left_by_raise r c.args.e)))
    (is_thrown d c.args.p i c.args.e (sym (c.catches.ensures d i h there) ∙ c.if-not-catches.false))
    (c.raise_at.ensures.moves settled (record i { residual = r }) (c.settle.ensures.steps d i h there) (settled_there d c.args.p i c.args.e there))
