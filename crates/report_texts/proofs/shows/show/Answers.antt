use Rattle.std.proofs.lemmas.Result.{IfOk-weaker}
use Rattle.std.proofs.Common.{◌≡◌, sym, ap, ◌∙◌}
use Rattle.std.specs.Prelude.{slice_get}
use Rattle.kernel_state.specs.SimModel.Configuration.{Config}
use Rattle.kernel_state.specs.SimModel.Steps.{shows}
use Rattle.kernel_state.specs.Kernel.{StandsFor}
use Rattle.report_texts.specs.ReportViews.{with_line, line_for}
use Rattle.report_texts.proofs.Stands.{shown_line}
use Rattle.report_texts.proofs.shows.show.Goals as goal

pub returns : goal.returns
returns c =
    let k = c.args.k.now in
    let n = c.args.number in
    IfOk-weaker c.line_at.result (λ shown. shown ≡ line_for k (slice_get k.design.visible n)) (λ shown. (d : Config) → StandsFor k d → shows d (slice_get d.design.visible n) ≡ with_line d shown)
    (λ shown is d h. shown_line k d h n ∙ ap (with_line d) (sym is))
    c.line_at.ensures
