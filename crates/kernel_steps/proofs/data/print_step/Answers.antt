use Rattle.std.proofs.Common.{Some, option_map, sym, subst}
use Rattle.flat_design.specs.Code as code
use Rattle.flat_design.specs.Code.{term_of, arena_of, statement_at}
use Rattle.exec_channels.specs.SimModel.Residual.{settle}
use Rattle.exec_channels.specs.SimModel.Configuration.{arena}
use Rattle.exec_channels.specs.SimModel.Statements.{settled_in}
use Rattle.exec_channels.specs.SimModel.Storing.{do_print}
use Rattle.exec_channels.specs.KernelView.Standings.{next_here}
use Rattle.exec_control.specs.ExecData.PrintAnswers.{FollowsPrint}
use Rattle.kernel_steps.proofs.Silent.{print_keeps}
use Rattle.kernel_steps.proofs.Prints.{lives_still, print_stays, printed_tells, fault_tells}
use Rattle.kernel_steps.proofs.data.print_step.Goals as goal
use Rattle.std.proofs.Common.{◌≡◌}

pub returns-in-Ok-clause-carries : goal.returns-in-Ok-clause-carries
returns-in-Ok-clause-carries c d i h there =
    let text = c.args.text.now in
    let e = option_map term_of c.args.e.now in
    let step = do_print (settled_in d c.args.p i.residual) c.args.p i (settle (arena d) i.residual) (next_here d c.args.p i) text e in
    printed_tells c.print.new.k d i c.args.p c.args.s c.in-Ok.shown text e (lives_still c.args.k.now d c.args.p i h there c.top_lives.ensures) (subst (λ y. statement_at (arena_of y.code) c.args.s ≡ Some (code.print text e)) (sym h.design) c.requires.there) step
    (print_keeps (settled_in d c.args.p i.residual) c.args.p i (settle (arena d) i.residual) (next_here d c.args.p i) text e)
    (print_stays d c.args.p i i (next_here d c.args.p i) text e there)
    (subst (λ a. FollowsPrint c.print.new.k a d i text step) c.in-Ok.is (c.print.ensures.prints text e c.eval_if_at-value.ensures d i h there))

pub returns-in-Err-clause-carries : goal.returns-in-Err-clause-carries
returns-in-Err-clause-carries c d i h there =
    let text = c.args.text.now in
    let e = option_map term_of c.args.e.now in
    let step = do_print (settled_in d c.args.p i.residual) c.args.p i (settle (arena d) i.residual) (next_here d c.args.p i) text e in
    fault_tells c.print.new.k d i c.in-Err.fault text step
    (subst (λ a. FollowsPrint c.print.new.k a d i text step) c.in-Err.is (c.print.ensures.prints text e c.eval_if_at-value.ensures d i h there))
