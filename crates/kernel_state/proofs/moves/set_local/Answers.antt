use Rattle.std.proofs.Common.{sym, ap, ◌∙◌}
use Rattle.std.specs.Option.{option_copied_mut}
use Rattle.kernel_state.proofs.Frames.{one_body_sound, old_body_sound, local_moves, there_still}
use Rattle.kernel_state.proofs.moves.set_local.Goals as goal

pub returns-clause-moves : goal.returns-clause-moves
returns-clause-moves c = local_moves c.args.k.now c.args.p c.in-Some.x.now c.set_local.new.self (sym c.get_mut.ensures.value ∙ ap option_copied_mut c.in-Some.is) c.set_local.ensures.kept c.args.n c.args.v c.set_local.ensures.left

pub returns-clause-lives : goal.returns-clause-lives
returns-clause-lives c = there_still c.args.k.now c.args.p c.in-Some.x.now c.set_local.new.self (sym c.get_mut.ensures.value ∙ ap option_copied_mut c.in-Some.is) c.set_local.ensures.kept

pub returns-clause-sound : goal.returns-clause-sound
returns-clause-sound c =
    let at = sym c.get_mut.ensures.value ∙ ap option_copied_mut c.in-Some.is in
    one_body_sound c.args.k.now c.args.p c.in-Some.x.now c.set_local.new.self at c.set_local.ensures.kept c.requires.sound (c.set_local.ensures.sound c.args.k.now.program.now (old_body_sound c.args.k.now c.args.p c.in-Some.x.now at c.requires.sound))
