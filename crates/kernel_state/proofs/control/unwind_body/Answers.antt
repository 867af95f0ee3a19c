use Rattle.std.proofs.Common.{sym, ap, ◌∙◌}
use Rattle.std.specs.Option.{option_copied_mut}
use Rattle.kernel_state.proofs.Frames.{one_body_sound, old_body_sound, there_still, unwound_moves}
use Rattle.kernel_state.proofs.control.unwind_body.Goals as goal

pub unwind-requires : goal.unwind-requires
unwind-requires c = (c.args.k.now.program.now, old_body_sound c.args.k.now c.args.q c.in-Some.x.now (sym c.get_mut.ensures.value ∙ ap option_copied_mut c.in-Some.is) c.requires.sound)

pub returns-in-Some-clause-moves : goal.returns-in-Some-clause-moves
returns-in-Some-clause-moves c = unwound_moves c.args.k.now c.args.q c.in-Some.x.now c.unwind.new.self (sym c.get_mut.ensures.value ∙ ap option_copied_mut c.in-Some.is) c.unwind.ensures.kept c.args.end c.unwind.ensures.left

pub returns-in-Some-clause-lives : goal.returns-in-Some-clause-lives
returns-in-Some-clause-lives c = there_still c.args.k.now c.args.q c.in-Some.x.now c.unwind.new.self (sym c.get_mut.ensures.value ∙ ap option_copied_mut c.in-Some.is) c.unwind.ensures.kept

pub returns-in-Some-clause-sound : goal.returns-in-Some-clause-sound
returns-in-Some-clause-sound c =
    let at = sym c.get_mut.ensures.value ∙ ap option_copied_mut c.in-Some.is in
    one_body_sound c.args.k.now c.args.q c.in-Some.x.now c.unwind.new.self at c.unwind.ensures.kept c.requires.sound (c.unwind.ensures.sound c.args.k.now.program.now (old_body_sound c.args.k.now c.args.q c.in-Some.x.now at c.requires.sound))
