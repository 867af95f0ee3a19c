use Rattle.std.proofs.Common.{sym, ap, ◌∙◌}
use Rattle.std.specs.Option.{option_copied}
use Rattle.exec_data.specs.SimModel.Residual.{settle}
use Rattle.exec_data.specs.SimModel.Unwinding.{catches}
use Rattle.exec_data.specs.SimModel.Configuration.{arena}
use Rattle.exec_data.proofs.KernelBodies.Strips.{strip-catches}
use Rattle.exec_data.proofs.KernelState.Frames.{settled_before}
use Rattle.exec_control.proofs.throws.catches.Goals as goal

pub returns-in-Some : goal.returns-in-Some
returns-in-Some c = λ d i h there.
    c.catches.ensures ∙ sym (ap (λ r. catches r c.args.e) (settled_before c.args.k.now c.args.p c.in-Some.x.now (sym c.get.ensures.value ∙ ap option_copied c.in-Some.is) d i h there)) ∙ strip-catches (settle (arena d) i.residual) c.args.e
