use Rattle.std.proofs.Common.{sym, ap, ◌∙◌}
use Rattle.std.proofs.lemmas.Result.{on_ok_weaker, on_err_weaker}
use Rattle.std.specs.Option.{option_copied_mut}
use Rattle.exec_data.proofs.KernelState.Frames.{one_body_sound, old_body_sound, there_still}
use Rattle.exec_calls.proofs.OneBody.{was, body_changes, same_left, same_moves, depth_told, entered_steps}
use Rattle.exec_calls.proofs.entering.enter_call.Goals as goal

pub enter-requires-clause-sound : goal.enter-requires-clause-sound
enter-requires-clause-sound c = old_body_sound c.args.k.now c.args.p c.in-Some.x.now (sym c.get_mut.ensures.value ∙ ap option_copied_mut c.in-Some.is) c.requires.sound

pub enter-requires-clause-statement : goal.enter-requires-clause-statement
enter-requires-clause-statement c = c.requires.statement c.in-Some.x.now.body.body (was c.args.k.now c.args.p c.in-Some.x.now (sym c.get_mut.ensures.value ∙ ap option_copied_mut c.in-Some.is))

pub returns-clause-enters : goal.returns-clause-enters
returns-clause-enters c =
    on_ok_weaker c.enter.result (λ enters s shows.
    entered_steps c.args.k.now c.args.p c.in-Some.x.now c.enter.new.self (sym c.get_mut.ensures.value ∙ ap option_copied_mut c.in-Some.is) c.enter.ensures.kept s c.args.f c.args.arguments.items c.args.via
    (enters s (shows c.in-Some.x.now.body.body (was c.args.k.now c.args.p c.in-Some.x.now (sym c.get_mut.ensures.value ∙ ap option_copied_mut c.in-Some.is)))))
    c.enter.ensures.entered

pub returns-clause-stays : goal.returns-clause-stays
returns-clause-stays c =
    on_err_weaker c.enter.result (λ left.
    same_moves c.args.k.now c.args.p c.in-Some.x.now c.enter.new.self (sym c.get_mut.ensures.value ∙ ap option_copied_mut c.in-Some.is) c.enter.ensures.kept left) c.enter.ensures.refused

pub returns-clause-left : goal.returns-clause-left
returns-clause-left c =
    on_err_weaker c.enter.result (λ left.
    same_left c.args.k.now c.args.p c.in-Some.x.now c.enter.new.self (sym c.get_mut.ensures.value ∙ ap option_copied_mut c.in-Some.is) c.enter.ensures.kept left) c.enter.ensures.refused

pub returns-clause-depth : goal.returns-clause-depth
returns-clause-depth c =
    depth_told c.args.k.now c.args.p c.in-Some.x.now (sym c.get_mut.ensures.value ∙ ap option_copied_mut c.in-Some.is) c.enter.result c.enter.ensures.shallow c.enter.ensures.deep c.enter.ensures.only

pub returns-clause-succeeds : goal.returns-clause-succeeds
returns-clause-succeeds c = λ ready room.
    let there = was c.args.k.now c.args.p c.in-Some.x.now (sym c.get_mut.ensures.value ∙ ap option_copied_mut c.in-Some.is) in
    c.enter.ensures.succeeds (ready.room c.in-Some.x.now.body.body there) room (ready.shallow c.in-Some.x.now.body.body there)

pub returns-clause-others : goal.returns-clause-others
returns-clause-others c = body_changes c.args.k.now c.args.p c.in-Some.x.now c.enter.new.self (sym c.get_mut.ensures.value ∙ ap option_copied_mut c.in-Some.is) c.enter.ensures.kept

pub returns-clause-lives : goal.returns-clause-lives
returns-clause-lives c = there_still c.args.k.now c.args.p c.in-Some.x.now c.enter.new.self (sym c.get_mut.ensures.value ∙ ap option_copied_mut c.in-Some.is) c.enter.ensures.kept

pub returns-clause-sound : goal.returns-clause-sound
returns-clause-sound c =
    one_body_sound c.args.k.now c.args.p c.in-Some.x.now c.enter.new.self (sym c.get_mut.ensures.value ∙ ap option_copied_mut c.in-Some.is) c.enter.ensures.kept c.requires.sound c.enter.ensures.sound
