use Rattle.std.proofs.Common.{◌&&◌, not, sym, ap, ◌∙◌}
use Rattle.exec_data.specs.SimModel.Residual.{has_goal}
use Rattle.exec_control.proofs.shown.is_held_by_none.Goals as goal

pub returns-then-in_nb : goal.returns-then-in_nb
returns-then-in_nb c = λ d i h there. sym (ap (λ b. not b && not (has_goal i.residual)) (sym (c.in_nb.ensures d i h there) ∙ c.if-in_nb.true))

pub returns : goal.returns
returns c = λ d i h there. ap not (c.has_goal.ensures.shown d i h there) ∙ sym (ap (λ b. not b && not (has_goal i.residual)) (sym (c.in_nb.ensures d i h there) ∙ c.if-in_nb.false))
