use Rattle.std.proofs.Common.{sym, ap, ◌∙◌, true≢false}
use Rattle.std.specs.Option.{option_copied_mut}
use Rattle.kernel_state.proofs.Frames.{old_body_sound}
use Rattle.kernel_phases.specs.Turns.{is_begun}
use Rattle.kernel_phases.proofs.TurnFrames.{begun_moves, begun_sound, same_moves, same_sound}
use Rattle.kernel_phases.proofs.turns.begin_first.Goals as goal

pub restart-requires : goal.restart-requires
restart-requires c = old_body_sound c.args.k.now c.args.p c.in-Some.x.now (sym c.get_mut.ensures.value ∙ ap option_copied_mut c.in-Some.is) c.requires.sound

pub returns-then-not-x-clause-first : goal.returns-then-not-x-clause-first
returns-then-not-x-clause-first c = λ off.
    begun_moves c.args.k.now c.args.p c.in-Some.x.now c.restart.new.self c.clear.new.place (sym c.get_mut.ensures.value ∙ ap option_copied_mut c.in-Some.is) c.restart.ensures.kept c.restart.ensures.left c.clear.ensures

pub returns-then-not-x-clause-stays : goal.returns-then-not-x-clause-stays
returns-then-not-x-clause-stays c = λ on.
    absurd (true≢false (sym on ∙ ap is_begun (sym c.get_mut.ensures.value ∙ ap option_copied_mut c.in-Some.is) ∙ c.if-not-x.true))

pub returns-then-not-x-clause-sound : goal.returns-then-not-x-clause-sound
returns-then-not-x-clause-sound c =
    begun_sound c.args.k.now c.args.p c.in-Some.x.now c.restart.new.self c.clear.new.place (sym c.get_mut.ensures.value ∙ ap option_copied_mut c.in-Some.is) c.restart.ensures.kept c.requires.sound c.restart.ensures.sound

pub returns-else-not-x-clause-first : goal.returns-else-not-x-clause-first
returns-else-not-x-clause-first c = λ off.
    absurd (true≢false (sym c.if-not-x.false ∙ ap is_begun (sym (sym c.get_mut.ensures.value ∙ ap option_copied_mut c.in-Some.is)) ∙ off))

pub returns-else-not-x-clause-stays : goal.returns-else-not-x-clause-stays
returns-else-not-x-clause-stays c = λ on. same_moves c.args.k.now c.args.p c.in-Some.x.now (sym c.get_mut.ensures.value ∙ ap option_copied_mut c.in-Some.is)

pub returns-else-not-x-clause-sound : goal.returns-else-not-x-clause-sound
returns-else-not-x-clause-sound c = same_sound c.args.k.now c.args.p c.in-Some.x.now (sym c.get_mut.ensures.value ∙ ap option_copied_mut c.in-Some.is) c.requires.sound
