use Rattle.std.proofs.Common.{◌≡◌, true, false, sym, ap, ◌∙◌, subst}
use Rattle.std.specs.FinMap as map
use Rattle.kernel_processes.specs.SimModel.Residual.{goal as before}
use Rattle.kernel_processes.specs.SimModel.Unwinding.{unw, left_by_unw}
use Rattle.kernel_processes.specs.SimModel.Configuration.{with_residual}
use Rattle.kernel_processes.specs.SimModel.Calls.{with_left}
use Rattle.kernel_processes.specs.InstanceViews.{is_on}
use Rattle.kernel_state.specs.Kernel.{StandsFor}
use Rattle.kernel_state.proofs.Stacks.{on_top_is, off_stack_is}
use Rattle.kernel_state.proofs.Ending.{unwound_on_top, unwound_and_pushed, still_there}
use Rattle.kernel_state.proofs.control.unwind.Goals as goal

pub unwind_body-requires-clause-lives : goal.unwind_body-requires-clause-lives
unwind_body-requires-clause-lives c = ap (λ s. map.contains_key s.table.live c.args.q) c.leave.ensures.schedule ∙ c.requires.lives

pub push-requires-clause-rests : goal.push-requires-clause-rests
push-requires-clause-rests c = ap (λ s. is_on s c.args.q) (sym c.as_slice.ensures.value) ∙ sym c.is_active.ensures ∙ c.if-is_active.false

pub returns-then-is_active-clause-moves : goal.returns-then-is_active-clause-moves
returns-then-is_active-clause-moves c = λ d i h there.
    subst (StandsFor c.unwind_body.new.k)
    (unwound_on_top c.left_calls_end.ensures.calls d c.args.q i c.args.end (on_top_is c.args.k.now d h c.args.q (c.requires.place (ap (λ v. is_on v.items c.args.q) (sym (c.unwind_body.ensures.stack ∙ ap (λ s. s.stack) c.leave.ensures.schedule)) ∙ ap (λ s. is_on s c.args.q) (sym c.as_slice.ensures.value) ∙ sym c.is_active.ensures ∙ c.if-is_active.true))))
    (c.unwind_body.ensures.moves (with_left d (left_by_unw i.residual)) i (c.leave.ensures.moves d i h there) (still_there c.left_calls_end.ensures.calls d c.args.q i c.args.end there))

pub returns-clause-moves : goal.returns-clause-moves
returns-clause-moves c = λ d i h there.
    subst (StandsFor c.push.new.k)
    (unwound_and_pushed c.left_calls_end.ensures.calls d c.args.q i c.args.end (off_stack_is c.args.k.now d h c.args.q (ap (λ v. is_on v.items c.args.q) (sym (c.unwind_body.ensures.stack ∙ ap (λ s. s.stack) c.leave.ensures.schedule)) ∙ ap (λ s. is_on s c.args.q) (sym c.as_slice.ensures.value) ∙ sym c.is_active.ensures ∙ c.if-is_active.false)))
    (c.push.ensures.moves (with_residual (with_left d (left_by_unw i.residual)) c.args.q (before (unw i.residual) c.args.end))
    (c.unwind_body.ensures.moves (with_left d (left_by_unw i.residual)) i (c.leave.ensures.moves d i h there) (still_there c.left_calls_end.ensures.calls d c.args.q i c.args.end there)))
