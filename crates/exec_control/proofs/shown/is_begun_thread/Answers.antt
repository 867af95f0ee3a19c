use Rattle.std.proofs.Common.{◌&&◌, sym, ap, ◌∙◌}
use Rattle.exec_control.proofs.shown.is_begun_thread.Goals as goal

pub returns-then-not-is_thread : goal.returns-then-not-is_thread
returns-then-not-is_thread c = λ d i h there. sym (ap (λ b. b && i.started) (sym (c.is_thread.ensures d i h there) ∙ c.if-not-is_thread.true))

pub returns : goal.returns
returns c = λ d i h there. c.is_begun.ensures d i h there ∙ sym (ap (λ b. b && i.started) (sym (c.is_thread.ensures d i h there) ∙ c.if-not-is_thread.false))
