use Rattle.std.proofs.Common.{◌≡◌, sym, ap, ◌∙◌}
use Rattle.std.specs.Option.{option_copied_mut}
use Rattle.flat_design.specs.Code.{arena_of}
use Rattle.exec_data.specs.KernelBodies.Layers.{shown}
use Rattle.exec_data.specs.ProcessBodies.Bodies as bodies
use Rattle.exec_data.specs.SimModel.Residual as residual
use Rattle.exec_data.specs.SimModel.Residual.{next_of, open_frames}
use Rattle.exec_data.proofs.KernelState.Frames.{one_body_sound, old_body_sound, there_still}
use Rattle.exec_calls.proofs.OneBody.{was, body_changes, same_left, same_moves, still_next, depth_told, ready_if}
use Rattle.exec_calls.proofs.rooms.reserve_call.Goals as goal

pub reserve-requires : goal.reserve-requires
reserve-requires c = old_body_sound c.args.k.now c.args.p c.in-Some.x.now (sym c.get_mut.ensures.value ∙ ap option_copied_mut c.in-Some.is) c.requires.sound

pub returns-clause-stays : goal.returns-clause-stays
returns-clause-stays c =
    same_moves c.args.k.now c.args.p c.in-Some.x.now c.reserve.new.self (sym c.get_mut.ensures.value ∙ ap option_copied_mut c.in-Some.is) c.reserve.ensures.kept (c.reserve.ensures.left (arena_of c.args.k.now.program.now.code))

pub returns-clause-depth : goal.returns-clause-depth
returns-clause-depth c =
    depth_told c.args.k.now c.args.p c.in-Some.x.now (sym c.get_mut.ensures.value ∙ ap option_copied_mut c.in-Some.is) c.reserve.result c.reserve.ensures.shallow c.reserve.ensures.deep c.reserve.ensures.only

pub returns-clause-ready : goal.returns-clause-ready
returns-clause-ready c =
    ready_if c.args.k.now c.args.p c.in-Some.x.now c.reserve.new.self (sym c.get_mut.ensures.value ∙ ap option_copied_mut c.in-Some.is) c.reserve.ensures.kept (c.reserve.ensures.left (arena_of c.args.k.now.program.now.code))
    c.args.f c.reserve.result c.reserve.ensures.ready c.reserve.ensures.shallow

pub returns-clause-succeeds : goal.returns-clause-succeeds
returns-clause-succeeds c = λ ready.
    let there = was c.args.k.now c.args.p c.in-Some.x.now (sym c.get_mut.ensures.value ∙ ap option_copied_mut c.in-Some.is) in
    c.reserve.ensures.succeeds (ready.room c.in-Some.x.now.body.body there) (ready.shallow c.in-Some.x.now.body.body there)

pub returns-clause-left : goal.returns-clause-left
returns-clause-left c =
    same_left c.args.k.now c.args.p c.in-Some.x.now c.reserve.new.self (sym c.get_mut.ensures.value ∙ ap option_copied_mut c.in-Some.is) c.reserve.ensures.kept (c.reserve.ensures.left (arena_of c.args.k.now.program.now.code))

pub returns-clause-shows : goal.returns-clause-shows
returns-clause-shows c = λ s.
    still_next c.args.k.now c.args.p c.in-Some.x.now c.reserve.new.self (sym c.get_mut.ensures.value ∙ ap option_copied_mut c.in-Some.is) c.reserve.ensures.kept (c.reserve.ensures.left (arena_of c.args.k.now.program.now.code))
    (λ r. next_of r ≡ residual.statement s)

pub returns-clause-statement : goal.returns-clause-statement
returns-clause-statement c =
    still_next c.args.k.now c.args.p c.in-Some.x.now c.reserve.new.self (sym c.get_mut.ensures.value ∙ ap option_copied_mut c.in-Some.is) c.reserve.ensures.kept (c.reserve.ensures.left (arena_of c.args.k.now.program.now.code))
    (λ r. bodies.IsStatement (shown (next_of r)))

pub returns-clause-others : goal.returns-clause-others
returns-clause-others c = body_changes c.args.k.now c.args.p c.in-Some.x.now c.reserve.new.self (sym c.get_mut.ensures.value ∙ ap option_copied_mut c.in-Some.is) c.reserve.ensures.kept

pub returns-clause-lives : goal.returns-clause-lives
returns-clause-lives c = there_still c.args.k.now c.args.p c.in-Some.x.now c.reserve.new.self (sym c.get_mut.ensures.value ∙ ap option_copied_mut c.in-Some.is) c.reserve.ensures.kept

pub returns-clause-sound : goal.returns-clause-sound
returns-clause-sound c =
    one_body_sound c.args.k.now c.args.p c.in-Some.x.now c.reserve.new.self (sym c.get_mut.ensures.value ∙ ap option_copied_mut c.in-Some.is) c.reserve.ensures.kept c.requires.sound c.reserve.ensures.sound
