use Rattle.std.proofs.lemmas.Result.{IfOk-weaker}
use Rattle.std.proofs.Common.{◌≡◌, sym, ◌∙◌}
use Rattle.kernel_state.specs.SimModel.Configuration.{Config}
use Rattle.kernel_state.specs.SimModel.Texts.{closing}
use Rattle.kernel_state.specs.Kernel.{StandsFor}
use Rattle.report_texts.specs.ReportViews.{closing_of}
use Rattle.report_texts.proofs.Stands.{closing_is}
use Rattle.report_texts.proofs.closings.closing.Goals as goal

pub returns : goal.returns
returns c =
    let k = c.args.k.now in
    IfOk-weaker c.closing_of.result (λ text. text.items ≡ closing_of k c.args.stop) (λ text. (d : Config) → StandsFor k d → text.items ≡ closing d c.args.stop)
    (λ text is d h. is ∙ sym (closing_is k d h c.args.stop))
    c.closing_of.ensures
