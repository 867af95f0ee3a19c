use Rattle.std.proofs.Common.{sym, ap, ◌∙◌}
use Rattle.std.specs.Option.{option_copied_mut}
use Rattle.exec_data.specs.KernelBodies.Layers.{shown}
use Rattle.exec_data.proofs.KernelBodies.Strips.{strip-put}
use Rattle.std.proofs.Common.{subst}
use Rattle.exec_data.specs.SimModel.Residual.{settle, put, skip}
use Rattle.exec_data.specs.SimModel.Configuration.{arena}
use Rattle.exec_data.specs.ProcessBodies.Bodies as bodies
use Rattle.exec_data.proofs.KernelState.Frames.{one_body_sound, old_body_sound, steps_to, settled_before}
use Rattle.exec_control.proofs.OneInstance.{was}
use Rattle.exec_control.proofs.goals.pass_goal.Goals as goal

pub go_on-requires-clause-sound : goal.go_on-requires-clause-sound
go_on-requires-clause-sound c = old_body_sound c.args.k.now c.args.p c.in-Some.x.now (sym c.get_mut.ensures.value ∙ ap option_copied_mut c.in-Some.is) c.requires.sound

pub go_on-requires-clause-reaches : goal.go_on-requires-clause-reaches
go_on-requires-clause-reaches c = subst bodies.IsGoal (sym (ap shown (c.requires.reaches c.in-Some.x.now.body.body (was c.args.k.now c.args.p c.in-Some.x.now (sym c.get_mut.ensures.value ∙ ap option_copied_mut c.in-Some.is))))) tt

pub returns-in-Some-clause-steps : goal.returns-in-Some-clause-steps
returns-in-Some-clause-steps c d i h there =
    let at = sym c.get_mut.ensures.value ∙ ap option_copied_mut c.in-Some.is in
    steps_to c.args.k.now c.args.p c.in-Some.x.now c.go_on.new.self at c.go_on.ensures.kept d i h there (put (settle (arena d) i.residual) skip)
    (strip-put (settle (arena d) i.residual) skip ∙ ap (λ r. put r skip) (settled_before c.args.k.now c.args.p c.in-Some.x.now at d i h there) ∙ sym c.go_on.ensures.left)

pub returns-in-Some-clause-sound : goal.returns-in-Some-clause-sound
returns-in-Some-clause-sound c = one_body_sound c.args.k.now c.args.p c.in-Some.x.now c.go_on.new.self (sym c.get_mut.ensures.value ∙ ap option_copied_mut c.in-Some.is) c.go_on.ensures.kept c.requires.sound c.go_on.ensures.sound
