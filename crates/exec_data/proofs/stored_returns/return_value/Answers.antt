use Rattle.std.proofs.Common.{Ok, sym, ap, ◌∙◌, subst}
use Rattle.kernel_view.specs.SimModel.Values.{on_ok}
use Rattle.kernel_view.specs.SimModel.Residual.{settle, innermost}
use Rattle.kernel_view.specs.SimModel.Unwinding.{returned, return_marks}
use Rattle.kernel_view.specs.SimModel.Configuration.{arena, with_residual, with_marks}
use Rattle.kernel_view.specs.SimModel.Calls.{cut_answer, answer_type}
use Rattle.kernel_view.specs.SimModel.Statements.{settled_in}
use Rattle.kernel_view.specs.KernelState.Kernel.{StandsFor}
use Rattle.kernel_view.specs.KernelState.Moves.{Follows}
use Rattle.exec_data.proofs.stored_returns.return_value.Goals as goal

pub returns-clause-does : goal.returns-clause-does
returns-clause-does c d i h there =
    let left = settle (arena d) i.residual in
    let first = settled_in d c.args.p i.residual in
    subst (λ o. Follows c.answer.new.k (Ok tt) d (on_ok o (λ v. Ok (with_marks (with_residual first c.args.p (returned (cut_answer (answer_type (arena d) (innermost left)) v) left)) (return_marks c.args.p left)))))
    (sym c.in_ok-value.was ∙ c.eval_if_at.ensures d i h there)
    (subst (λ v. StandsFor c.answer.new.k (with_marks (with_residual first c.args.p (returned v left)) (return_marks c.args.p left)))
    (c.cut_answer-kept.ensures ∙ ap (λ t. cut_answer t c.in_ok-value.value) (c.answer_type.ensures d i h there))
    (c.answer.ensures.steps d i h there))
