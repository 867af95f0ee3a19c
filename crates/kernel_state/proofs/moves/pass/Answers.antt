use Rattle.std.proofs.Common.{sym, ap, ◌∙◌}
use Rattle.std.specs.Option.{option_copied_mut}
use Rattle.kernel_processes.specs.SimModel.Residual.{settle, put, skip}
use Rattle.kernel_processes.specs.SimModel.Configuration.{arena}
use Rattle.process_bodies.proofs.KernelBodies.Strips.{strip-put}
use Rattle.kernel_state.proofs.Frames.{one_body_sound, old_body_sound, steps_to, settled_before}
use Rattle.kernel_state.proofs.moves.pass.Goals as goal

pub past-requires-clause-sound : goal.past-requires-clause-sound
past-requires-clause-sound c = old_body_sound c.args.k.now c.args.p c.in-Some.x.now (sym c.get_mut.ensures.value ∙ ap option_copied_mut c.in-Some.is) c.requires.sound

pub returns-in-Some-clause-steps : goal.returns-in-Some-clause-steps
returns-in-Some-clause-steps c d i h there =
    steps_to c.args.k.now c.args.p c.in-Some.x.now c.past.new.self (sym c.get_mut.ensures.value ∙ ap option_copied_mut c.in-Some.is) c.past.ensures.kept d i h there (put (settle (arena d) i.residual) skip)
    (strip-put (settle (arena d) i.residual) skip ∙ ap (λ r. put r skip) (settled_before c.args.k.now c.args.p c.in-Some.x.now (sym c.get_mut.ensures.value ∙ ap option_copied_mut c.in-Some.is) d i h there) ∙ sym c.past.ensures.left)

pub returns-in-Some-clause-sound : goal.returns-in-Some-clause-sound
returns-in-Some-clause-sound c = one_body_sound c.args.k.now c.args.p c.in-Some.x.now c.past.new.self (sym c.get_mut.ensures.value ∙ ap option_copied_mut c.in-Some.is) c.past.ensures.kept c.requires.sound c.past.ensures.sound
