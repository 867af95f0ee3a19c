use Rattle.std.proofs.Common.{◌≡◌, Option, Some, None, option_map, refl, sym, ap, ◌∙◌}
use Rattle.std.specs.Option.{option_copied}
use Rattle.flat_design.specs.Code.{Arena, arena_of}
use Rattle.kernel_view.specs.ProcessBodies.Bodies as bodies
use Rattle.kernel_view.specs.SimModel.Residual.{Frame, settle, innermost}
use Rattle.kernel_view.specs.SimModel.Configuration.{arena}
use Rattle.kernel_view.specs.SimModel.Calls.{answer_type}
use Rattle.kernel_view.proofs.KernelBodies.Strips.{strip-innermost}
use Rattle.kernel_view.proofs.KernelState.Frames.{settled_before}
use Rattle.exec_data.specs.Answered.{type_of_answers}
use Rattle.exec_data.proofs.stored_returns.answer_type.Goals as goal

of_frame : (a : Arena) (x : Option Frame) → type_of_answers a (option_map (λ (f : Frame). f.body) x) ≡ answer_type a x
of_frame a None = refl
of_frame a (Some x) = refl

pub returns-in-Some : goal.returns-in-Some
returns-in-Some c = λ d i h there.
    let left = settle (arena d) i.residual in
    let at = sym c.get.ensures.value ∙ ap option_copied c.in-Some.is in
    let body = bodies.settled_in c.args.k.now.program.now c.in-Some.x.now.body.body.body in
    c.type_of_answers.ensures
    ∙ ap (type_of_answers (arena_of c.args.k.now.program.now.code)) c.function.ensures
    ∙ of_frame (arena_of c.args.k.now.program.now.code) (innermost body)
    ∙ ap (answer_type (arena_of c.args.k.now.program.now.code)) (sym (sym (strip-innermost left) ∙ ap innermost (settled_before c.args.k.now c.args.p c.in-Some.x.now at d i h there)))
    ∙ ap (λ e. answer_type (arena_of e.code) (innermost left)) (sym h.design)
