use Rattle.std.proofs.Common.{Ok, Err, refl, sym, ◌∙◌, subst}
use Rattle.kernel_view.specs.SimModel.Residual.{settle}
use Rattle.kernel_view.specs.SimModel.Configuration.{line, with_told, arena}
use Rattle.kernel_view.specs.SimModel.Values.{on_ok}
use Rattle.kernel_view.specs.SimModel.Storing.{passes, print_line}
use Rattle.kernel_view.specs.SimModel.Statements.{settled_in}
use Rattle.kernel_view.proofs.KernelState.Frames.{trace_moves}
use Rattle.exec_data.specs.PrintAnswers.{FollowsPrint}
use Rattle.exec_data.proofs.prints.print.Goals as goal

pub returns-in-Ok-clause-prints : goal.returns-in-Ok-clause-prints
returns-in-Ok-clause-prints c = λ text e gives d i h there.
    let after = passes (settled_in d c.args.p i.residual) c.args.p (settle (arena d) i.residual) in
    subst (λ o. FollowsPrint c.pass.new.k (Ok c.in-Ok.x) d i text (on_ok o (λ v. Ok (with_told after (line (print_line d.cycle.now i.path text v))))))
    (sym c.in-Ok.is ∙ gives d i h there)
    (trace_moves c.pass.new.k after (c.pass.ensures.steps d i h there) (with_told after (line (print_line d.cycle.now i.path text c.in-Ok.x))).trace, refl)

pub returns-in-Err-clause-prints : goal.returns-in-Err-clause-prints
returns-in-Err-clause-prints c = λ text e gives d i h there.
    subst (λ o. FollowsPrint c.args.k.now (Err c.in-Err.fault) d i text (on_ok o (λ v. Ok (with_told (passes (settled_in d c.args.p i.residual) c.args.p (settle (arena d) i.residual)) (line (print_line d.cycle.now i.path text v))))))
    (sym c.in-Err.is ∙ gives d i h there) (refl, h)
