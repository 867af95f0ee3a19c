use Rattle.std.proofs.Common.{◌&&◌, not, sym, ap, ◌∙◌, true≢false}
use Rattle.exec_data.specs.SimModel.Residual.{in_nb, has_goal}
use Rattle.exec_data.specs.SimModel.Control.{is_thread}
use Rattle.exec_control.proofs.shown.yields.Goals as goal

pub returns-then-not-is_top-clause-shown : goal.returns-then-not-is_top-clause-shown
returns-then-not-is_top-clause-shown c = λ d i h there. sym (ap (λ b. b && (is_thread i.kind && (not (in_nb i.residual) && not (has_goal i.residual)))) (sym (c.is_top.ensures.shown d h) ∙ c.if-not-is_top.true))

pub returns-then-not-is_top-clause-top : goal.returns-then-not-is_top-clause-top
returns-then-not-is_top-clause-top c = λ is. absurd (true≢false (sym is))

pub returns-then-not-is_thread-clause-shown : goal.returns-then-not-is_thread-clause-shown
returns-then-not-is_thread-clause-shown c = λ d i h there. sym (ap (λ b. b && (is_thread i.kind && (not (in_nb i.residual) && not (has_goal i.residual)))) (sym (c.is_top.ensures.shown d h) ∙ c.if-not-is_top.false)
    ∙ ap (λ b. b && (not (in_nb i.residual) && not (has_goal i.residual))) (sym (c.is_thread.ensures d i h there) ∙ c.if-not-is_thread.true))

pub returns-then-not-is_thread-clause-top : goal.returns-then-not-is_thread-clause-top
returns-then-not-is_thread-clause-top c = λ is. absurd (true≢false (sym is))

pub returns-clause-shown : goal.returns-clause-shown
returns-clause-shown c = λ d i h there. c.is_held_by_none.ensures d i h there ∙ sym (ap (λ b. b && (is_thread i.kind && (not (in_nb i.residual) && not (has_goal i.residual)))) (sym (c.is_top.ensures.shown d h) ∙ c.if-not-is_top.false)
    ∙ ap (λ b. b && (not (in_nb i.residual) && not (has_goal i.residual))) (sym (c.is_thread.ensures d i h there) ∙ c.if-not-is_thread.false))

pub returns-clause-top : goal.returns-clause-top
returns-clause-top c = λ is. c.is_top.ensures.top c.if-not-is_top.false
