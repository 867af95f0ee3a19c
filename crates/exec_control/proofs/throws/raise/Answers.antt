use Rattle.std.proofs.Common.{sym, ap, ◌∙◌}
use Rattle.std.specs.Option.{option_copied_mut}
use Rattle.exec_data.specs.SimModel.Unwinding.{catches}
use Rattle.exec_data.proofs.KernelBodies.Strips.{strip-catches}
use Rattle.exec_data.proofs.KernelState.Frames.{one_body_sound, old_body_sound, left_before, there_still}
use Rattle.exec_control.proofs.OneInstance.{was, others_kept}
use Rattle.exec_control.proofs.Throwing.{raised_moves}
use Rattle.exec_control.proofs.throws.raise.Goals as goal

pub raise-requires-clause-sound : goal.raise-requires-clause-sound
raise-requires-clause-sound c = old_body_sound c.args.k.now c.args.q c.in-Some.x.now (sym c.get_mut.ensures.value ∙ ap option_copied_mut c.in-Some.is) c.requires.sound

pub raise-requires-clause-free : goal.raise-requires-clause-free
raise-requires-clause-free c = c.requires.free c.in-Some.x.now.body.body (was c.args.k.now c.args.q c.in-Some.x.now (sym c.get_mut.ensures.value ∙ ap option_copied_mut c.in-Some.is))

pub returns-in-Some-clause-caught : goal.returns-in-Some-clause-caught
returns-in-Some-clause-caught c = λ d i h there. c.raise.ensures.caught ∙ sym (ap (λ r. catches r c.args.e) (left_before c.args.k.now c.args.q c.in-Some.x.now (sym c.get_mut.ensures.value ∙ ap option_copied_mut c.in-Some.is) d i h there)) ∙ strip-catches i.residual c.args.e

pub returns-in-Some-clause-moves : goal.returns-in-Some-clause-moves
returns-in-Some-clause-moves c = raised_moves c.args.k.now c.args.q c.in-Some.x.now c.raise.new.self (sym c.get_mut.ensures.value ∙ ap option_copied_mut c.in-Some.is) c.raise.ensures.kept c.args.e c.args.end c.raise.result c.raise.ensures.caught c.raise.ensures.left c.raise.ensures.refused

pub returns-in-Some-clause-lives : goal.returns-in-Some-clause-lives
returns-in-Some-clause-lives c = there_still c.args.k.now c.args.q c.in-Some.x.now c.raise.new.self (sym c.get_mut.ensures.value ∙ ap option_copied_mut c.in-Some.is) c.raise.ensures.kept

pub returns-in-Some-clause-sound : goal.returns-in-Some-clause-sound
returns-in-Some-clause-sound c = one_body_sound c.args.k.now c.args.q c.in-Some.x.now c.raise.new.self (sym c.get_mut.ensures.value ∙ ap option_copied_mut c.in-Some.is) c.raise.ensures.kept c.requires.sound c.raise.ensures.sound

pub returns-in-Some-clause-others : goal.returns-in-Some-clause-others
returns-in-Some-clause-others c = others_kept c.args.k.now c.args.q c.in-Some.x.now c.raise.new.self (sym c.get_mut.ensures.value ∙ ap option_copied_mut c.in-Some.is) c.raise.ensures.kept
