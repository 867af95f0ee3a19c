use Rattle.std.proofs.Common.{sym, ap, ◌∙◌}
use Rattle.std.specs.Option.{option_copied}
use Rattle.kernel_processes.specs.FlatDesign.Code.{arena_of}
use Rattle.kernel_processes.specs.SimModel.Residual.{has_goal}
use Rattle.process_bodies.proofs.KernelBodies.Strips.{strip-has_goal}
use Rattle.kernel_state.proofs.Frames.{left_before}
use Rattle.kernel_state.proofs.control.has_goal.Goals as goal

pub returns-in-Some : goal.returns-in-Some
returns-in-Some c = λ d i h there.
    c.has_goal.ensures (arena_of c.args.k.now.program.now.code)
    ∙ sym (ap has_goal (left_before c.args.k.now c.args.q c.in-Some.x.now (sym c.get.ensures.value ∙ ap option_copied c.in-Some.is) d i h there)) ∙ strip-has_goal i.residual
