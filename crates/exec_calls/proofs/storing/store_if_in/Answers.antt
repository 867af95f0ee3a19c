use Rattle.std.proofs.Common.{sym, subst}
use Rattle.exec_data.specs.SimModel.Storing.{set_name, stored_if}
use Rattle.exec_data.specs.KernelState.Kernel.{StandsFor}
use Rattle.exec_calls.proofs.storing.store_if_in.Goals as goal

pub returns-in-Some-clause-moves : goal.returns-in-Some-clause-moves
returns-in-Some-clause-moves c = λ h design home d stands.
    subst (λ t. StandsFor c.store_in.new.k (stored_if d c.args.p h t c.args.v)) (sym c.in-Some.is)
    (subst (λ v. StandsFor c.store_in.new.k (set_name d c.args.p h c.in-Some.target.name v)) c.cut_to.ensures (c.store_in.ensures.moves h design home d stands))

pub returns-in-None-clause-moves : goal.returns-in-None-clause-moves
returns-in-None-clause-moves c = λ h design home d stands.
    subst (λ t. StandsFor c.args.k.now (stored_if d c.args.p h t c.args.v)) (sym c.in-None.is) stands
