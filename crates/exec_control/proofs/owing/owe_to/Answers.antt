use Rattle.std.proofs.Common.{reverse, sym, ap, ◌∙◌}
use Rattle.std.specs.Option.{option_copied_mut}
use Rattle.exec_data.specs.SimModel.Residual.{settle, put, batch}
use Rattle.exec_data.specs.SimModel.Configuration.{arena}
use Rattle.exec_data.proofs.KernelBodies.Strips.{strip-put}
use Rattle.exec_data.proofs.KernelState.Frames.{one_body_sound, old_body_sound, steps_to, settled_before}
use Rattle.exec_control.proofs.OneInstance.{was}
use Rattle.exec_control.proofs.Owes.{has_statement}
use Rattle.exec_control.proofs.owing.owe_to.Goals as goal

pub owe-requires-clause-sound : goal.owe-requires-clause-sound
owe-requires-clause-sound c = old_body_sound c.args.k.now c.args.p c.in-Some.x.now (sym c.get_mut.ensures.value ∙ ap option_copied_mut c.in-Some.is) c.requires.sound

pub owe-requires-clause-statement : goal.owe-requires-clause-statement
owe-requires-clause-statement c =
    has_statement c.args.k.now c.args.p c.args.s c.requires.next c.in-Some.x.now.body.body (was c.args.k.now c.args.p c.in-Some.x.now (sym c.get_mut.ensures.value ∙ ap option_copied_mut c.in-Some.is))

pub returns-in-Some-clause-steps : goal.returns-in-Some-clause-steps
returns-in-Some-clause-steps c d i h there =
    let at = sym c.get_mut.ensures.value ∙ ap option_copied_mut c.in-Some.is in
    let owed = batch c.args.s (reverse c.args.list.items) in
    steps_to c.args.k.now c.args.p c.in-Some.x.now c.owe.new.self at c.owe.ensures.kept d i h there (put (settle (arena d) i.residual) owed)
    (strip-put (settle (arena d) i.residual) owed ∙ ap (λ r. put r owed) (settled_before c.args.k.now c.args.p c.in-Some.x.now at d i h there)
    ∙ sym (c.owe.ensures.left c.args.s (c.requires.next c.in-Some.x.now.body.body (was c.args.k.now c.args.p c.in-Some.x.now at))))

pub returns-in-Some-clause-sound : goal.returns-in-Some-clause-sound
returns-in-Some-clause-sound c = one_body_sound c.args.k.now c.args.p c.in-Some.x.now c.owe.new.self (sym c.get_mut.ensures.value ∙ ap option_copied_mut c.in-Some.is) c.owe.ensures.kept c.requires.sound c.owe.ensures.sound
