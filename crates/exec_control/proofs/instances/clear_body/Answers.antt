use Rattle.std.proofs.Common.{sym, ap, ◌∙◌}
use Rattle.std.specs.Option.{option_copied_mut}
use Rattle.flat_design.specs.Code.{arena_of}
use Rattle.exec_data.proofs.KernelState.Frames.{one_body_sound, old_body_sound, there_still}
use Rattle.exec_control.proofs.OneInstance.{body_cleared}
use Rattle.exec_control.proofs.instances.clear_body.Goals as goal

pub returns-in-Some-clause-moves : goal.returns-in-Some-clause-moves
returns-in-Some-clause-moves c = body_cleared c.args.k.now c.args.p c.in-Some.x.now c.idle.new.self (sym c.get_mut.ensures.value ∙ ap option_copied_mut c.in-Some.is) c.idle.ensures.kept (c.idle.ensures.left (arena_of c.args.k.now.program.now.code))

pub returns-in-Some-clause-lives : goal.returns-in-Some-clause-lives
returns-in-Some-clause-lives c = there_still c.args.k.now c.args.p c.in-Some.x.now c.idle.new.self (sym c.get_mut.ensures.value ∙ ap option_copied_mut c.in-Some.is) c.idle.ensures.kept

pub returns-in-Some-clause-sound : goal.returns-in-Some-clause-sound
returns-in-Some-clause-sound c =
    let at = sym c.get_mut.ensures.value ∙ ap option_copied_mut c.in-Some.is in
    one_body_sound c.args.k.now c.args.p c.in-Some.x.now c.idle.new.self at c.idle.ensures.kept c.requires.sound (c.idle.ensures.sound c.args.k.now.program.now (old_body_sound c.args.k.now c.args.p c.in-Some.x.now at c.requires.sound))
