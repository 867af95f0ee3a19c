use Rattle.std.proofs.Common.{◌≡◌, sym, ap, ◌∙◌}
use Rattle.std.specs.Option.{option_copied_mut}
use Rattle.exec_data.specs.KernelBodies.Layers.{call_of}
use Rattle.exec_data.proofs.KernelBodies.Strips.{strip-put}
use Rattle.exec_data.specs.SimModel.Residual as residual
use Rattle.exec_data.specs.SimModel.Residual.{settle, next_of, put, skip}
use Rattle.exec_data.specs.SimModel.Configuration.{arena}
use Rattle.exec_data.specs.ProcessBodies.Bodies.{settled_in}
use Rattle.exec_data.proofs.KernelState.Frames.{one_body_sound, old_body_sound, there_still, steps_to, settled_before}
use Rattle.exec_calls.proofs.OneBody.{was, kept_is, comes_next, body_changes}
use Rattle.exec_calls.proofs.leaving.leave_call.Goals as goal

pub leave-requires-clause-sound : goal.leave-requires-clause-sound
leave-requires-clause-sound c = old_body_sound c.args.k.now c.args.p c.in-Some.x.now (sym c.get_mut.ensures.value ∙ ap option_copied_mut c.in-Some.is) c.requires.sound

pub leave-requires-clause-leaves : goal.leave-requires-clause-leaves
leave-requires-clause-leaves c = c.requires.leaves c.in-Some.x.now.body.body (was c.args.k.now c.args.p c.in-Some.x.now (sym c.get_mut.ensures.value ∙ ap option_copied_mut c.in-Some.is))

pub returns-clause-ends : goal.returns-clause-ends
returns-clause-ends c =
    kept_is c.args.k.now c.args.p c.in-Some.x.now (sym c.get_mut.ensures.value ∙ ap option_copied_mut c.in-Some.is) (λ kept. next_of (settled_in c.args.k.now.program.now kept.body) ≡ residual.leaves (call_of c.leave.result)) c.leave.ensures.frame

pub returns-clause-frame : goal.returns-clause-frame
returns-clause-frame c =
    comes_next c.args.k.now c.args.p c.in-Some.x.now (sym c.get_mut.ensures.value ∙ ap option_copied_mut c.in-Some.is) (residual.leaves (call_of c.leave.result)) c.leave.ensures.frame

pub returns-clause-steps : goal.returns-clause-steps
returns-clause-steps c d i h there =
    let at = sym c.get_mut.ensures.value ∙ ap option_copied_mut c.in-Some.is in
    steps_to c.args.k.now c.args.p c.in-Some.x.now c.leave.new.self at c.leave.ensures.kept d i h there (put (settle (arena d) i.residual) skip)
    (strip-put (settle (arena d) i.residual) skip ∙ ap (λ r. put r skip) (settled_before c.args.k.now c.args.p c.in-Some.x.now at d i h there) ∙ sym c.leave.ensures.left)

pub returns-clause-others : goal.returns-clause-others
returns-clause-others c = body_changes c.args.k.now c.args.p c.in-Some.x.now c.leave.new.self (sym c.get_mut.ensures.value ∙ ap option_copied_mut c.in-Some.is) c.leave.ensures.kept

pub returns-clause-lives : goal.returns-clause-lives
returns-clause-lives c = there_still c.args.k.now c.args.p c.in-Some.x.now c.leave.new.self (sym c.get_mut.ensures.value ∙ ap option_copied_mut c.in-Some.is) c.leave.ensures.kept

pub returns-clause-sound : goal.returns-clause-sound
returns-clause-sound c =
    one_body_sound c.args.k.now c.args.p c.in-Some.x.now c.leave.new.self (sym c.get_mut.ensures.value ∙ ap option_copied_mut c.in-Some.is) c.leave.ensures.kept c.requires.sound c.leave.ensures.sound
