use Rattle.std.proofs.Common.{Ok, sym, ap, ◌∙◌}
use Rattle.flat_design.specs.Code.{term_of, channel_term}
use Rattle.kernel_view.specs.SimModel.Values.{on_ok, cut_to}
use Rattle.exec_data.proofs.Fitting.{write_given}
use Rattle.exec_data.proofs.writes.written_from.Goals as goal

pub returns-in-Ok : goal.returns-in-Ok
returns-in-Ok c = λ h shows.
    ap (λ y. Ok (record { channel = c.in-Ok.channel; value = y })) c.cut_to.ensures
    ∙ ap (λ o. on_ok o (λ x. Ok (record { channel = x; value = cut_to c.args.t c.in_ok-value.value }))) (sym c.in-Ok.is ∙ c.channel_here.ensures h shows)
    ∙ sym (write_given h (channel_term c.args.to.now) c.args.t (term_of c.args.e.now) c.in_ok-place.place c.in_ok-value.value
    (sym (sym c.in_ok-place.was ∙ c.eval_place.ensures h shows)) (sym (sym c.in_ok-value.was ∙ c.eval.ensures h shows)))

pub returns-in-Err : goal.returns-in-Err
returns-in-Err c = λ h shows.
    ap (λ o. on_ok o (λ x. Ok (record { channel = x; value = cut_to c.args.t c.in_ok-value.value }))) (sym c.in-Err.is ∙ c.channel_here.ensures h shows)
    ∙ sym (write_given h (channel_term c.args.to.now) c.args.t (term_of c.args.e.now) c.in_ok-place.place c.in_ok-value.value
    (sym (sym c.in_ok-place.was ∙ c.eval_place.ensures h shows)) (sym (sym c.in_ok-value.was ∙ c.eval.ensures h shows)))
