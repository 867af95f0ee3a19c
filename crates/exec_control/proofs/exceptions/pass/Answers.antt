use Rattle.std.proofs.Common.{◌≡◌, false, sym, ap, ◌∙◌}
use Rattle.std.specs.Option.{option_copied_mut}
use Rattle.flat_design.specs.Code.{arena_of}
use Rattle.exec_data.specs.SimModel.Residual.{settle, put, skip, has_goal}
use Rattle.exec_data.specs.SimModel.Configuration.{arena}
use Rattle.exec_data.proofs.KernelBodies.Strips.{strip-put}
use Rattle.exec_data.specs.ProcessBodies.Bodies as bodies
use Rattle.exec_data.specs.ProcessBodies.Bodies.{left_in}
use Rattle.exec_data.proofs.KernelState.Frames.{one_body_sound, old_body_sound, steps_to, settled_before, there_still}
use Rattle.exec_control.proofs.OneInstance.{was, kept_now, others_kept}
use Rattle.exec_control.proofs.Throwing.{settle_goal}
use Rattle.exec_control.proofs.Passing.{put_goal}
use Rattle.exec_control.proofs.exceptions.pass.Goals as goal

pub past-requires-clause-sound : goal.past-requires-clause-sound
past-requires-clause-sound c = old_body_sound c.args.k.now c.args.p c.in-Some.x.now (sym c.get_mut.ensures.value ∙ ap option_copied_mut c.in-Some.is) c.requires.sound

pub past-requires-clause-statement : goal.past-requires-clause-statement
past-requires-clause-statement c = c.requires.statement c.in-Some.x.now.body.body (was c.args.k.now c.args.p c.in-Some.x.now (sym c.get_mut.ensures.value ∙ ap option_copied_mut c.in-Some.is))

pub returns-in-Some-clause-steps : goal.returns-in-Some-clause-steps
returns-in-Some-clause-steps c d i h there =
    let at = sym c.get_mut.ensures.value ∙ ap option_copied_mut c.in-Some.is in
    steps_to c.args.k.now c.args.p c.in-Some.x.now c.past.new.self at c.past.ensures.kept d i h there (put (settle (arena d) i.residual) skip)
    (strip-put (settle (arena d) i.residual) skip ∙ ap (λ r. put r skip) (settled_before c.args.k.now c.args.p c.in-Some.x.now at d i h there) ∙ sym c.past.ensures.left)

pub returns-in-Some-clause-lives : goal.returns-in-Some-clause-lives
returns-in-Some-clause-lives c = there_still c.args.k.now c.args.p c.in-Some.x.now c.past.new.self (sym c.get_mut.ensures.value ∙ ap option_copied_mut c.in-Some.is) c.past.ensures.kept

pub returns-in-Some-clause-free : goal.returns-in-Some-clause-free
returns-in-Some-clause-free c = λ free.
    let at = sym c.get_mut.ensures.value ∙ ap option_copied_mut c.in-Some.is in
    kept_now c.args.k.now c.args.p c.in-Some.x.now c.past.new.self at c.past.ensures.kept (λ kept. has_goal (left_in c.args.k.now.program.now kept.body) ≡ false)
    (ap has_goal c.past.ensures.left ∙ put_goal (bodies.settled_in c.args.k.now.program.now c.in-Some.x.now.body.body.body) (c.requires.statement c.in-Some.x.now.body.body (was c.args.k.now c.args.p c.in-Some.x.now at))
    ∙ settle_goal (arena_of c.args.k.now.program.now.code) (left_in c.args.k.now.program.now c.in-Some.x.now.body.body.body) ∙ free c.in-Some.x.now.body.body (was c.args.k.now c.args.p c.in-Some.x.now at))

pub returns-in-Some-clause-others : goal.returns-in-Some-clause-others
returns-in-Some-clause-others c = others_kept c.args.k.now c.args.p c.in-Some.x.now c.past.new.self (sym c.get_mut.ensures.value ∙ ap option_copied_mut c.in-Some.is) c.past.ensures.kept

pub returns-in-Some-clause-sound : goal.returns-in-Some-clause-sound
returns-in-Some-clause-sound c = one_body_sound c.args.k.now c.args.p c.in-Some.x.now c.past.new.self (sym c.get_mut.ensures.value ∙ ap option_copied_mut c.in-Some.is) c.past.ensures.kept c.requires.sound c.past.ensures.sound
