use Rattle.std.proofs.Common.{sym, ap, ◌∙◌, subst}
use Rattle.kernel_view.specs.SimModel.Residual.{settle}
use Rattle.kernel_view.specs.SimModel.Configuration.{arena}
use Rattle.kernel_view.specs.SimModel.Storing.{passes}
use Rattle.kernel_view.specs.SimModel.Statements.{settled_in}
use Rattle.kernel_view.specs.KernelState.Kernel.{StandsFor}
use Rattle.exec_data.proofs.Stored.{set_if, set_is}
use Rattle.exec_data.proofs.storing.store_denoted.Goals as goal

pub returns-in-Some-clause-steps : goal.returns-in-Some-clause-steps
returns-in-Some-clause-steps c d i h there =
    let after = passes (settled_in d c.args.p i.residual) c.args.p (settle (arena d) i.residual) in
    subst (StandsFor c.store_variable.new.k) (sym (set_is after c.args.d c.args.v ∙ ap (set_if after c.args.v) (sym c.variable_number.ensures ∙ c.in-Some.is))) (c.store_variable.ensures.steps d i h there)

pub returns-in-None-clause-steps : goal.returns-in-None-clause-steps
returns-in-None-clause-steps c d i h there =
    let after = passes (settled_in d c.args.p i.residual) c.args.p (settle (arena d) i.residual) in
    subst (StandsFor c.pass.new.k) (sym (set_is after c.args.d c.args.v ∙ ap (set_if after c.args.v) (sym c.variable_number.ensures ∙ c.in-None.is))) (c.pass.ensures.steps d i h there)
