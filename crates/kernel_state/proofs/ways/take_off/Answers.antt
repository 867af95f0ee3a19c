use Rattle.std.proofs.Common.{sym, ap, ◌∙◌}
use Rattle.std.specs.Option.{option_copied_mut}
use Rattle.kernel_processes.specs.SimModel.Residual.{settle, taken_off}
use Rattle.kernel_processes.specs.SimModel.Configuration.{arena}
use Rattle.kernel_state.proofs.Frames.{one_body_sound, old_body_sound, steps_to, settled_before, was}
use Rattle.kernel_state.proofs.OneLess.{strip-taken}
use Rattle.kernel_state.proofs.ways.take_off.Goals as goal

pub owed-requires : goal.owed-requires
owed-requires c = record { sound = old_body_sound c.args.k.now c.args.p c.in-Some.x.now (sym c.get_mut.ensures.value ∙ ap option_copied_mut c.in-Some.is) c.requires.sound }

pub returns-in-Some-clause-steps : goal.returns-in-Some-clause-steps
returns-in-Some-clause-steps c d i h there =
    steps_to c.args.k.now c.args.p c.in-Some.x.now c.owed.new.self (sym c.get_mut.ensures.value ∙ ap option_copied_mut c.in-Some.is) c.owed.ensures.kept d i h there (taken_off (settle (arena d) i.residual))
    (strip-taken (settle (arena d) i.residual) ∙ ap taken_off (settled_before c.args.k.now c.args.p c.in-Some.x.now (sym c.get_mut.ensures.value ∙ ap option_copied_mut c.in-Some.is) d i h there) ∙ sym (c.owed.ensures.left (c.requires.owes c.in-Some.x.now.body.body (was c.args.k.now c.args.p c.in-Some.x.now (sym c.get_mut.ensures.value ∙ ap option_copied_mut c.in-Some.is)))))

pub returns-in-Some-clause-sound : goal.returns-in-Some-clause-sound
returns-in-Some-clause-sound c = one_body_sound c.args.k.now c.args.p c.in-Some.x.now c.owed.new.self (sym c.get_mut.ensures.value ∙ ap option_copied_mut c.in-Some.is) c.owed.ensures.kept c.requires.sound c.owed.ensures.sound
