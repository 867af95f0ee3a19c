use Rattle.std.proofs.Common.{◌≡◌, false, sym, ap, ◌∙◌}
use Rattle.std.specs.Option.{option_copied_mut}
use Rattle.flat_design.specs.Code.{arena_of}
use Rattle.exec_data.specs.SimModel.Residual.{settle, taken_off, has_goal}
use Rattle.exec_data.specs.SimModel.Configuration.{arena}
use Rattle.exec_data.proofs.KernelState.OneLess.{strip-taken}
use Rattle.exec_data.specs.ProcessBodies.Bodies as bodies
use Rattle.exec_data.specs.ProcessBodies.Bodies.{left_in}
use Rattle.exec_data.proofs.KernelState.Frames.{one_body_sound, old_body_sound, steps_to, settled_before, there_still}
use Rattle.exec_control.proofs.OneInstance.{was, kept_now, others_kept}
use Rattle.exec_control.proofs.Throwing.{settle_goal}
use Rattle.exec_control.proofs.Passing.{taken_goal}
use Rattle.exec_control.proofs.exceptions.take_off.Goals as goal

pub owed-requires : goal.owed-requires
owed-requires c = record { sound = old_body_sound c.args.k.now c.args.p c.in-Some.x.now (sym c.get_mut.ensures.value ∙ ap option_copied_mut c.in-Some.is) c.requires.sound }

pub returns-in-Some-clause-steps : goal.returns-in-Some-clause-steps
returns-in-Some-clause-steps c d i h there =
    let at = sym c.get_mut.ensures.value ∙ ap option_copied_mut c.in-Some.is in
    steps_to c.args.k.now c.args.p c.in-Some.x.now c.owed.new.self at c.owed.ensures.kept d i h there (taken_off (settle (arena d) i.residual))
    (strip-taken (settle (arena d) i.residual) ∙ ap taken_off (settled_before c.args.k.now c.args.p c.in-Some.x.now at d i h there) ∙ sym (c.owed.ensures.left (c.requires.owes c.in-Some.x.now.body.body (was c.args.k.now c.args.p c.in-Some.x.now at))))

pub returns-in-Some-clause-lives : goal.returns-in-Some-clause-lives
returns-in-Some-clause-lives c = there_still c.args.k.now c.args.p c.in-Some.x.now c.owed.new.self (sym c.get_mut.ensures.value ∙ ap option_copied_mut c.in-Some.is) c.owed.ensures.kept

pub returns-in-Some-clause-free : goal.returns-in-Some-clause-free
returns-in-Some-clause-free c = λ free.
    let at = sym c.get_mut.ensures.value ∙ ap option_copied_mut c.in-Some.is in
    kept_now c.args.k.now c.args.p c.in-Some.x.now c.owed.new.self at c.owed.ensures.kept (λ kept. has_goal (left_in c.args.k.now.program.now kept.body) ≡ false)
    (ap has_goal (c.owed.ensures.left (c.requires.owes c.in-Some.x.now.body.body (was c.args.k.now c.args.p c.in-Some.x.now at))) ∙ taken_goal (bodies.settled_in c.args.k.now.program.now c.in-Some.x.now.body.body.body)
    ∙ settle_goal (arena_of c.args.k.now.program.now.code) (left_in c.args.k.now.program.now c.in-Some.x.now.body.body.body) ∙ free c.in-Some.x.now.body.body (was c.args.k.now c.args.p c.in-Some.x.now at))

pub returns-in-Some-clause-others : goal.returns-in-Some-clause-others
returns-in-Some-clause-others c = others_kept c.args.k.now c.args.p c.in-Some.x.now c.owed.new.self (sym c.get_mut.ensures.value ∙ ap option_copied_mut c.in-Some.is) c.owed.ensures.kept

pub returns-in-Some-clause-sound : goal.returns-in-Some-clause-sound
returns-in-Some-clause-sound c = one_body_sound c.args.k.now c.args.p c.in-Some.x.now c.owed.new.self (sym c.get_mut.ensures.value ∙ ap option_copied_mut c.in-Some.is) c.owed.ensures.kept c.requires.sound c.owed.ensures.sound
