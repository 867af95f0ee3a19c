use Rattle.std.proofs.Common.{◌≡◌, ◌&&◌, true, false, sym, ap, ◌∙◌}
use Rattle.kernel_processes.specs.SimModel.Residual.{has_goal}
use Rattle.kernel_processes.specs.InstanceViews.{is_on}
use Rattle.kernel_state.proofs.Stacks.{on_top_is, off_stack_is}
use Rattle.kernel_state.proofs.control.is_in_unwinding.Goals as goal

pub returns-then-not-is_active : goal.returns-then-not-is_active
returns-then-not-is_active c = λ d i h there. sym (ap (λ b. b && has_goal i.residual) (off_stack_is c.args.k.now d h c.args.q (ap (λ s. is_on s c.args.q) (sym c.as_slice.ensures.value) ∙ sym c.is_active.ensures ∙ c.if-not-is_active.true)))

pub returns : goal.returns
returns c = λ d i h there. c.has_goal.ensures d i h there ∙ sym (ap (λ b. b && has_goal i.residual) (on_top_is c.args.k.now d h c.args.q (c.requires.place (ap (λ s. is_on s c.args.q) (sym c.as_slice.ensures.value) ∙ sym c.is_active.ensures ∙ c.if-not-is_active.false))))
