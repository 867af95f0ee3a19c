use Rattle.std.proofs.Common.{Ok, sym, ap, ◌∙◌}
use Rattle.kernel_view.specs.SimModel.Values.{on_ok}
use Rattle.kernel_view.specs.SimModel.Reading.{denotes}
use Rattle.exec_data.proofs.stored_assignments.assigned_from.Goals as goal

pub returns-in-Ok : goal.returns-in-Ok
returns-in-Ok c = λ h shows.
    ap (λ d. Ok (record { value = c.in-Ok.value; to = d })) (c.denotes.ensures h shows)
    ∙ ap (λ o. on_ok o (λ v. Ok (record { value = v; to = denotes h c.args.n }))) (sym c.in-Ok.is ∙ c.eval.ensures h shows)

pub returns-in-Err : goal.returns-in-Err
returns-in-Err c = λ h shows.
    ap (λ o. on_ok o (λ v. Ok (record { value = v; to = denotes h c.args.n }))) (sym c.in-Err.is ∙ c.eval.ensures h shows)
