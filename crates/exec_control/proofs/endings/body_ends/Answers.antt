use Rattle.std.proofs.Common.{sym, ap, ◌∙◌, subst, true≢false}
use Rattle.exec_data.specs.SimModel.Residual.{settle}
use Rattle.exec_data.specs.SimModel.Configuration.{arena}
use Rattle.exec_data.specs.SimModel.Control.{is_thread, idles, done_by}
use Rattle.exec_data.specs.SimModel.Statements.{settled_in}
use Rattle.exec_data.specs.KernelState.Kernel.{StandsFor}
use Rattle.exec_data.specs.KernelState.Moves.{Steps}
use Rattle.exec_control.specs.Resting.{ends_thread}
use Rattle.exec_control.proofs.Ended.{thread_ends, method_idles, ok_then}
use Rattle.exec_control.proofs.endings.body_ends.Goals as goal

pub idle_statically-requires-clause-unset : goal.idle_statically-requires-clause-unset
idle_statically-requires-clause-unset c = c.ending_at.ensures.unset c.in-Static.n c.in-Static.is

pub idle_statically-requires-clause-counted : goal.idle_statically-requires-clause-counted
idle_statically-requires-clause-counted c = c.ending_at.ensures.counted c.in-Static.n c.in-Static.is

pub returns-in-Thread-clause-steps : goal.returns-in-Thread-clause-steps
returns-in-Thread-clause-steps c d i h there =
    subst (StandsFor c.end.new.k) (sym (thread_ends (settled_in d c.args.p i.residual) c.args.p (record i { residual = settle (arena d) i.residual }) i.kind (sym (c.ending_at.ensures.thread d i h there) ∙ ap ends_thread c.in-Thread.is))) (c.end.ensures.steps d i h there)

pub returns-in-Static-clause-steps : goal.returns-in-Static-clause-steps
returns-in-Static-clause-steps c = ok_then (Steps c.args.k.now c.idle_statically.new.k c.args.p (λ d q i r. idles d q i)) (Steps c.args.k.now c.idle_statically.new.k c.args.p (λ d q i r. done_by d q i i.kind)) c.idle_statically.result
    (λ steps d i h there.
    subst (StandsFor c.idle_statically.new.k) (sym (method_idles (settled_in d c.args.p i.residual) c.args.p (record i { residual = settle (arena d) i.residual }) i.kind (sym (c.ending_at.ensures.thread d i h there) ∙ ap ends_thread c.in-Static.is))) (steps d i h there))
    c.idle_statically.ensures.steps

pub returns-in-Other-clause-steps : goal.returns-in-Other-clause-steps
returns-in-Other-clause-steps c = ok_then (Steps c.args.k.now c.idle.new.k c.args.p (λ d q i r. idles d q i)) (Steps c.args.k.now c.idle.new.k c.args.p (λ d q i r. done_by d q i i.kind)) c.idle.result
    (λ steps d i h there. subst (StandsFor c.idle.new.k) (sym (method_idles (settled_in d c.args.p i.residual) c.args.p (record i { residual = settle (arena d) i.residual }) i.kind (sym (c.ending_at.ensures.thread d i h there) ∙ ap ends_thread c.in-Other.is))) (steps d i h there))
    c.idle.ensures.steps

pub returns-in-Static-clause-thread : goal.returns-in-Static-clause-thread
returns-in-Static-clause-thread c = λ d i h there is. absurd (true≢false (sym (ap is_thread is) ∙ sym (c.ending_at.ensures.thread d i h there) ∙ ap ends_thread c.in-Static.is))

pub returns-in-Other-clause-thread : goal.returns-in-Other-clause-thread
returns-in-Other-clause-thread c = λ d i h there is. absurd (true≢false (sym (ap is_thread is) ∙ sym (c.ending_at.ensures.thread d i h there) ∙ ap ends_thread c.in-Other.is))
