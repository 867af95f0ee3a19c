use Rattle.std.proofs.Common.{option_map, sym, ap, ◌∙◌, subst}
use Rattle.std.specs.Option.{option_copied_mut}
use Rattle.exec_data.specs.SimModel.Configuration.{change_instance}
use Rattle.exec_data.specs.KernelState.Kernel.{StandsFor, trigger_of}
use Rattle.exec_control.specs.Resting.{CanRest, next_kept}
use Rattle.exec_control.proofs.OneInstance.{shows_at, with_trigger, trigger_moves, trigger_rests, trigger_there, trigger_sound}
use Rattle.exec_control.proofs.endings.take_trigger.Goals as goal

pub returns-in-Some-clause-shown : goal.returns-in-Some-clause-shown
returns-in-Some-clause-shown c = λ d i h there.
    (shows_at c.args.k.now c.args.p c.in-Some.x.now (sym c.get_mut.ensures.value ∙ ap option_copied_mut c.in-Some.is) d i h there).trigger ∙ ap (option_map trigger_of) (sym c.take_out.ensures.value)

pub returns-in-Some-clause-moves : goal.returns-in-Some-clause-moves
returns-in-Some-clause-moves c = λ d h.
    let at = sym c.get_mut.ensures.value ∙ ap option_copied_mut c.in-Some.is in
    subst (λ t. StandsFor (record c.args.k.now { schedule = with_trigger c.args.k.now c.args.p c.in-Some.x.now c.take_out.new.place at }) (change_instance d c.args.p (λ i. record i { trigger = option_map trigger_of t })))
    c.take_out.ensures.after (trigger_moves c.args.k.now c.args.p c.in-Some.x.now c.take_out.new.place at d h)

pub returns-in-Some-clause-lives : goal.returns-in-Some-clause-lives
returns-in-Some-clause-lives c = trigger_there c.args.k.now c.args.p c.in-Some.x.now c.take_out.new.place (sym c.get_mut.ensures.value ∙ ap option_copied_mut c.in-Some.is)

pub returns-in-Some-clause-sound : goal.returns-in-Some-clause-sound
returns-in-Some-clause-sound c = trigger_sound c.args.k.now c.args.p c.in-Some.x.now c.take_out.new.place (sym c.get_mut.ensures.value ∙ ap option_copied_mut c.in-Some.is) c.requires.sound

pub returns-in-Some-clause-room : goal.returns-in-Some-clause-room
returns-in-Some-clause-room c =
    let at = sym c.get_mut.ensures.value ∙ ap option_copied_mut c.in-Some.is in
    trigger_rests c.args.k.now c.args.p c.in-Some.x.now c.take_out.new.place at c.take_out.result (subst (CanRest c.args.k.now c.args.p) (ap next_kept at ∙ sym c.take_out.ensures.value) c.requires.room)
