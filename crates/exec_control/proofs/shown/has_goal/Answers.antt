use Rattle.std.proofs.Common.{◌≡◌, false, sym, ap, ◌∙◌, subst}
use Rattle.std.specs.Prelude.{unwrap_or}
use Rattle.std.specs.Option.{option_copied}
use Rattle.flat_design.specs.Code.{arena_of}
use Rattle.exec_data.specs.SimModel.Residual.{has_goal}
use Rattle.exec_data.specs.ProcessBodies.Bodies.{left_in}
use Rattle.exec_data.proofs.KernelBodies.Strips.{strip-has_goal}
use Rattle.exec_data.proofs.KernelState.Frames.{left_before}
use Rattle.exec_control.proofs.OneInstance.{was}
use Rattle.exec_control.proofs.shown.has_goal.Goals as goal

pub returns-in-Some-clause-shown : goal.returns-in-Some-clause-shown
returns-in-Some-clause-shown c = λ d i h there.
    c.has_goal.ensures (arena_of c.args.k.now.program.now.code) ∙ sym (ap has_goal (left_before c.args.k.now c.args.q c.in-Some.x.now (sym c.get.ensures.value ∙ ap option_copied c.in-Some.is) d i h there)) ∙ strip-has_goal i.residual

pub returns-in-Some-clause-free : goal.returns-in-Some-clause-free
returns-in-Some-clause-free c = λ none kept at.
    subst (λ x. has_goal (left_in c.args.k.now.program.now x.body) ≡ false) (ap (λ o. unwrap_or o kept) (sym (was c.args.k.now c.args.q c.in-Some.x.now (sym c.get.ensures.value ∙ ap option_copied c.in-Some.is)) ∙ at)) (sym (c.has_goal.ensures (arena_of c.args.k.now.program.now.code)) ∙ none)
