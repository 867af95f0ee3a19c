use Rattle.std.proofs.Common.{ℕ, List, ◌∷◌, ◌∙◌, sym, ap}
use Rattle.script_text.specs.ChoiceProgress.{list_lines_left}
use Rattle.script_text.proofs.ChoiceLemmas.{cut_line}
use Rattle.script_text.proofs.choices.next_line.Goals as goal

pub returns-clause-lines : goal.returns-clause-lines
returns-clause-lines c =
    cut_line c.args.bytes.now c.cut.result.0.now c.cut.result.1 c.requires c.cut.ensures.whole c.cut.ensures.split
    ∙ ap (λ (l : List ℕ). l ∷ list_lines_left c.cut.result.1) (sym c.without_return.ensures)
