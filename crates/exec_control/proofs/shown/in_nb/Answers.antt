use Rattle.std.proofs.Common.{sym, ap, ◌∙◌}
use Rattle.std.specs.Option.{option_copied}
use Rattle.flat_design.specs.Code.{arena_of}
use Rattle.exec_data.specs.SimModel.Residual.{in_nb}
use Rattle.exec_data.proofs.KernelBodies.Strips.{strip-in_nb}
use Rattle.exec_data.proofs.KernelState.Frames.{left_before}
use Rattle.exec_control.proofs.shown.in_nb.Goals as goal

pub returns-in-Some : goal.returns-in-Some
returns-in-Some c = λ d i h there.
    c.in_nb.ensures (arena_of c.args.k.now.program.now.code) ∙ sym (ap in_nb (left_before c.args.k.now c.args.q c.in-Some.x.now (sym c.get.ensures.value ∙ ap option_copied c.in-Some.is) d i h there)) ∙ strip-in_nb i.residual
