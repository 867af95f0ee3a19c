use Rattle.std.proofs.Common.{sym, subst}
use Rattle.exec_data.specs.SimModel.Reading.{here}
use Rattle.exec_data.specs.SimModel.Storing.{passes}
use Rattle.exec_data.specs.SimModel.Calls.{handle_stored}
use Rattle.exec_data.specs.KernelState.Kernel.{StandsFor}
use Rattle.exec_data.specs.KernelState.Moves.{stepped}
use Rattle.exec_calls.proofs.spawns.keep_handle.Goals as goal

pub returns-in-Some-clause-steps : goal.returns-in-Some-clause-steps
returns-in-Some-clause-steps c = λ d i h there.
    subst (λ o. StandsFor c.store.new.k (stepped (λ e q j r. handle_stored (passes e q r) q (here e q j r) o c.args.serial) d c.args.p i)) (sym c.in-Some.is) (c.store.ensures.steps d i h there)

pub returns-in-None-clause-steps : goal.returns-in-None-clause-steps
returns-in-None-clause-steps c = λ d i h there.
    subst (λ o. StandsFor c.pass.new.k (stepped (λ e q j r. handle_stored (passes e q r) q (here e q j r) o c.args.serial) d c.args.p i)) (sym c.in-None.is) (c.pass.ensures.steps d i h there)
