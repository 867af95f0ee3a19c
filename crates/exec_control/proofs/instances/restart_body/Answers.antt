use Rattle.std.proofs.Common.{sym, ap, ◌∙◌}
use Rattle.std.specs.Option.{option_copied_mut}
use Rattle.exec_data.proofs.KernelState.Frames.{one_body_sound, there_still, old_body_sound}
use Rattle.exec_control.proofs.OneInstance.{body_begun}
use Rattle.exec_control.proofs.instances.restart_body.Goals as goal

pub restart-requires : goal.restart-requires
restart-requires c = old_body_sound c.args.k.now c.args.p c.in-Some.x.now (sym c.get_mut.ensures.value ∙ ap option_copied_mut c.in-Some.is) c.requires.sound

pub returns-in-Some-clause-moves : goal.returns-in-Some-clause-moves
returns-in-Some-clause-moves c = body_begun c.args.k.now c.args.p c.in-Some.x.now c.restart.new.self (sym c.get_mut.ensures.value ∙ ap option_copied_mut c.in-Some.is) c.restart.ensures.kept c.restart.ensures.left

pub returns-in-Some-clause-lives : goal.returns-in-Some-clause-lives
returns-in-Some-clause-lives c = there_still c.args.k.now c.args.p c.in-Some.x.now c.restart.new.self (sym c.get_mut.ensures.value ∙ ap option_copied_mut c.in-Some.is) c.restart.ensures.kept

pub returns-in-Some-clause-sound : goal.returns-in-Some-clause-sound
returns-in-Some-clause-sound c = one_body_sound c.args.k.now c.args.p c.in-Some.x.now c.restart.new.self (sym c.get_mut.ensures.value ∙ ap option_copied_mut c.in-Some.is) c.restart.ensures.kept c.requires.sound c.restart.ensures.sound
