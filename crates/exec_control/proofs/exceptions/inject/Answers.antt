use Rattle.std.proofs.Common.{refl, sym, ap, ◌∙◌}
use Rattle.std.specs.Prelude.{Ok, Err}
use Rattle.flat_design.specs.declared.faults.RunFault.TheVariants as fault
use Rattle.exec_data.specs.KernelProcesses.InstanceViews.{is_on}
use Rattle.exec_data.proofs.KernelState.Ending.{follows_as}
use Rattle.exec_control.specs.Thrown.{past, injects}
use Rattle.exec_control.proofs.Injected.{others_live, others_state, raised, there_still, is_injected, is_uncaught, nothing_raised}
use Rattle.exec_control.proofs.exceptions.inject.Goals as goal

pub move_on-requires-clause-lives : goal.move_on-requires-clause-lives
move_on-requires-clause-lives c = others_live c.args.q c.args.k.now c.raise_at.new.k c.raise_at.ensures.others c.args.p (λ same. c.requires.apart (sym same)) c.requires.lives

pub move_on-requires-clause-may : goal.move_on-requires-clause-may
move_on-requires-clause-may c = others_state c.args.q c.args.k.now c.raise_at.new.k c.raise_at.ensures.others c.args.p (λ same. c.requires.apart (sym same)) c.args.way c.requires.may

pub push-requires-clause-lives : goal.push-requires-clause-lives
push-requires-clause-lives c = others_live c.args.p c.raise_at.new.k c.move_on.new.k c.move_on.ensures.others c.args.q c.requires.apart c.raise_at.ensures.lives

pub push-requires-clause-rests : goal.push-requires-clause-rests
push-requires-clause-rests c = ap (λ s. is_on s.items c.args.q) (c.move_on.ensures.stack ∙ c.raise_at.ensures.stack) ∙ c.requires.rests

pub returns-then-not-raise_at-clause-follows : goal.returns-then-not-raise_at-clause-follows
returns-then-not-raise_at-clause-follows c = λ d i j h there other.
    let none = sym (c.raise_at.ensures.caught d j h other) ∙ c.if-not-raise_at.true in
    follows_as c.raise_at.new.k d (Err (fault.Uncaught c.args.e)) (injects (past c.args.way d c.args.p i) c.args.q j c.args.e) (Err (fault.Uncaught c.args.e))
    (is_uncaught c.args.way c.left_calls_end.ensures.calls d c.args.p c.args.q c.requires.apart i j c.args.e none)
    (refl, nothing_raised c.args.way c.left_calls_end.ensures.calls d c.args.p c.args.q c.requires.apart i j c.args.e c.raise_at.new.k other none (c.raise_at.ensures.moves d j h other))

pub returns-clause-follows : goal.returns-clause-follows
returns-clause-follows c = λ d i j h there other.
    let caught = sym (c.raise_at.ensures.caught d j h other) ∙ c.if-not-raise_at.false in
    let thrown = raised c.args.way c.left_calls_end.ensures.calls d c.args.p c.args.q c.requires.apart i j c.args.e in
    follows_as c.push.new.k d (Ok tt) (injects (past c.args.way d c.args.p i) c.args.q j c.args.e) _
    (is_injected c.args.way c.left_calls_end.ensures.calls d c.args.p c.args.q c.requires.apart i j c.args.e caught)
    (c.push.ensures.moves (past c.args.way thrown c.args.p i) (c.move_on.ensures.steps thrown i (c.raise_at.ensures.moves d j h other) (there_still c.args.way c.left_calls_end.ensures.calls d c.args.p c.args.q c.requires.apart i j c.args.e there)))
