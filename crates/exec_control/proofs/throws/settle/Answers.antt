use Rattle.std.proofs.Common.{sym, ap, ◌∙◌}
use Rattle.std.specs.Option.{option_copied_mut}
use Rattle.flat_design.specs.Code.{arena_of}
use Rattle.exec_data.specs.SimModel.Residual.{settle, has_goal}
use Rattle.exec_data.specs.SimModel.Configuration.{arena}
use Rattle.std.specs.Prelude.{◌≡◌, false}
use Rattle.exec_data.specs.ProcessBodies.Bodies.{left_in}
use Rattle.exec_data.proofs.KernelState.Frames.{one_body_sound, old_body_sound, steps_to, settled_before, there_still}
use Rattle.exec_control.proofs.OneInstance.{was, kept_now}
use Rattle.exec_control.proofs.Throwing.{settle_goal}
use Rattle.exec_control.proofs.throws.settle.Goals as goal

pub settle-requires : goal.settle-requires
settle-requires c = old_body_sound c.args.k.now c.args.p c.in-Some.x.now (sym c.get_mut.ensures.value ∙ ap option_copied_mut c.in-Some.is) c.requires.sound

pub returns-in-Some-clause-steps : goal.returns-in-Some-clause-steps
returns-in-Some-clause-steps c d i h there =
    steps_to c.args.k.now c.args.p c.in-Some.x.now c.settle.new.self (sym c.get_mut.ensures.value ∙ ap option_copied_mut c.in-Some.is) c.settle.ensures.kept d i h there (settle (arena d) i.residual)
    (settled_before c.args.k.now c.args.p c.in-Some.x.now (sym c.get_mut.ensures.value ∙ ap option_copied_mut c.in-Some.is) d i h there ∙ sym c.settle.ensures.left)

pub returns-in-Some-clause-lives : goal.returns-in-Some-clause-lives
returns-in-Some-clause-lives c = there_still c.args.k.now c.args.p c.in-Some.x.now c.settle.new.self (sym c.get_mut.ensures.value ∙ ap option_copied_mut c.in-Some.is) c.settle.ensures.kept

pub returns-in-Some-clause-free : goal.returns-in-Some-clause-free
returns-in-Some-clause-free c =
    let at = sym c.get_mut.ensures.value ∙ ap option_copied_mut c.in-Some.is in
    kept_now c.args.k.now c.args.p c.in-Some.x.now c.settle.new.self at c.settle.ensures.kept (λ kept. has_goal (left_in c.args.k.now.program.now kept.body) ≡ false)
    (ap has_goal c.settle.ensures.left ∙ settle_goal (arena_of c.args.k.now.program.now.code) (left_in c.args.k.now.program.now c.in-Some.x.now.body.body.body) ∙ c.requires.free c.in-Some.x.now.body.body (was c.args.k.now c.args.p c.in-Some.x.now at))

pub returns-in-Some-clause-sound : goal.returns-in-Some-clause-sound
returns-in-Some-clause-sound c = one_body_sound c.args.k.now c.args.p c.in-Some.x.now c.settle.new.self (sym c.get_mut.ensures.value ∙ ap option_copied_mut c.in-Some.is) c.settle.ensures.kept c.requires.sound c.settle.ensures.sound
