use Rattle.std.proofs.Common.{sym, ap, ◌∙◌, subst}
use Rattle.flat_design.specs.Denotes.{denoted_at}
use Rattle.exec_data.specs.SimModel.Storing.{set_name, set_denoted}
use Rattle.exec_data.specs.KernelState.Kernel.{StandsFor}
use Rattle.exec_calls.proofs.storing.store_in.Goals as goal

pub returns-in-Local-clause-moves : goal.returns-in-Local-clause-moves
returns-in-Local-clause-moves c = λ h design home d stands.
    subst (λ n. StandsFor c.set_local.new.k (set_name d c.args.p h n c.args.v)) (sym c.in-Local.is) (c.set_local.ensures.moves d stands)

pub returns-in-Declared-clause-moves : goal.returns-in-Declared-clause-moves
returns-in-Declared-clause-moves c = λ h design home d stands.
    subst (λ n. StandsFor c.store_denoted.new.k (set_name d c.args.p h n c.args.v)) (sym c.in-Declared.is)
    (subst (λ x. StandsFor c.store_denoted.new.k (set_denoted d x c.args.v))
    (c.denoted_in-denoted.ensures ∙ sym (ap (λ e. denoted_at e h.home c.in-Declared.i) design ∙ ap (λ n. denoted_at c.args.k.now.design n c.in-Declared.i) home))
    (c.store_denoted.ensures.moves d stands))
