use Rattle.std.proofs.Common.{Ok, Some, slice_set, sym, ap, ◌∙◌, subst}
use Rattle.kernel_view.specs.SimModel.Values.{on_ok, index_within}
use Rattle.kernel_view.specs.SimModel.Residual.{settle}
use Rattle.kernel_view.specs.SimModel.Configuration.{arena}
use Rattle.kernel_view.specs.SimModel.Reading.{memory_at}
use Rattle.kernel_view.specs.SimModel.Storing.{passes, set_memory}
use Rattle.kernel_view.specs.SimModel.Statements.{settled_in}
use Rattle.kernel_view.specs.KernelState.Moves.{Follows}
use Rattle.exec_data.proofs.elements.store_byte.Goals as goal

pub returns-clause-does : goal.returns-clause-does
returns-clause-does c d i h there =
    let past = passes (settled_in d c.args.p i.residual) c.args.p (settle (arena d) i.residual) in
    subst (λ o. Follows c.set_byte.new.k (Ok tt) d (on_ok o (λ n. Ok (set_memory past (Some c.args.m) (slice_set (memory_at past (Some c.args.m)) n c.args.byte)))))
    (sym c.in_ok-place.was ∙ c.index_within.ensures ∙ ap (index_within c.args.i) (c.size_of.ensures d h))
    (c.set_byte.ensures.moves past (c.pass.ensures.steps d i h there))
