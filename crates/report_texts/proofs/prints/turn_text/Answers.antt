use Rattle.std.proofs.lemmas.Result.{IfOk-weaker}
use Rattle.std.proofs.Common.{◌≡◌}
use Rattle.kernel_state.specs.SimModel.Steps.{turn_line}
use Rattle.report_texts.specs.Instances.{path_at, IsTurnLine}
use Rattle.report_texts.proofs.PathTexts.{is_turn}
use Rattle.report_texts.proofs.prints.turn_text.Goals as goal

pub returns : goal.returns
returns c =
    let k = c.args.k.now in
    IfOk-weaker c.line_of_turn.result (λ line. line ≡ turn_line k.cycle.now.0 (path_at k c.args.p) c.args.p) (λ line. IsTurnLine k c.args.p line)
    (λ line is. is_turn k c.args.p line is)
    c.line_of_turn.ensures
