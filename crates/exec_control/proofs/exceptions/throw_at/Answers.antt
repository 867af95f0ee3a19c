use Rattle.std.proofs.Common.{refl, sym, ap, ◌∙◌, subst}
use Rattle.std.specs.Prelude.{Err}
use Rattle.flat_design.specs.declared.faults.RunFault.TheVariants as fault
use Rattle.exec_data.specs.KernelProcesses.InstanceViews.{is_on}
use Rattle.exec_data.specs.SimModel.Control.{throw_call}
use Rattle.exec_data.specs.KernelState.Ways.{moved_on}
use Rattle.exec_data.specs.KernelState.Moves.{Does}
use Rattle.exec_data.proofs.KernelState.Ending.{alive_in, follows_as}
use Rattle.exec_control.specs.Thrown.{past}
use Rattle.exec_control.proofs.Others.{below_past}
use Rattle.exec_control.proofs.exceptions.throw_at.Goals as goal

pub throw_at_other-requires-clause-apart : goal.throw_at_other-requires-clause-apart
throw_at_other-requires-clause-apart c = c.if-q-p.false

pub throw_at_other-requires-clause-rests : goal.throw_at_other-requires-clause-rests
throw_at_other-requires-clause-rests c = ap (λ s. is_on s c.args.q) (sym c.as_slice.ensures.value) ∙ sym c.is_active.ensures ∙ c.if-is_active.false

pub throw_at_other-requires-clause-free : goal.throw_at_other-requires-clause-free
throw_at_other-requires-clause-free c = c.requires.free c.args.q (ap (λ s. is_on s c.args.q) (sym c.as_slice.ensures.value) ∙ sym c.is_active.ensures ∙ c.if-is_active.false)

pub returns-then-q-p-clause-does : goal.returns-then-q-p-clause-does
returns-then-q-p-clause-does c = subst (λ q. Does c.args.k.now c.throw_at_itself.new.k c.throw_at_itself.result c.args.p (λ d s i r. throw_call (moved_on c.args.way d s r) q c.args.e)) (sym c.if-q-p.true) c.throw_at_itself.ensures.does

pub returns-then-is_active-clause-does : goal.returns-then-is_active-clause-does
returns-then-is_active-clause-does c d i h there =
    let on = ap (λ s. is_on s c.args.q) (sym c.as_slice.ensures.value) ∙ sym c.is_active.ensures ∙ c.if-is_active.true in
    let alive = alive_in c.args.k.now d h c.args.q (c.requires.sound.schedule.active c.args.q on) in
    follows_as c.args.k.now d (Err (fault.ControlOnActive c.args.q)) (throw_call (past c.args.way d c.args.p i) c.args.q c.args.e) (Err (fault.ControlOnActive c.args.q))
    (below_past c.args.way c.args.k.now d c.args.p c.args.q c.if-q-p.false i c.args.e h there c.requires.sound alive.0 alive.1.0 alive.1.1 c.requires.top on) (refl, h)
