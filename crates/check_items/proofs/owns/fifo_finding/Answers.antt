use Rattle.std.proofs.Common.{Bool, not, ℕ, List, ap, sym, ◌∙◌}
use Rattle.std.specs.Option.{option_or}
use Rattle.model_tree.specs.declared.faults.Kind.TheVariants as kind
use Rattle.check_statements.specs.ModelRules.Items as items
use Rattle.check_statements.specs.CheckNames.Places.{scope_of}
use Rattle.check_statements.specs.CheckExpressions.Findings.{faults_of, told_if}
use Rattle.check_items.proofs.ItemLemmas as lemmas
use Rattle.check_items.proofs.owns.fifo_finding.Goals as goal

pub returns : goal.returns
returns c =
    let s = scope_of c.args.place.now in
    let line = c.args.line in
    let t = c.args.t in
    let name = c.args.name.now in
    let size = c.args.size in
    c.first_finding.ensures
    ∙ ap (λ o. option_or o (faults_of c.type_finding.result))
    (c.told_if-own.ensures
    ∙ ap (λ (n : List ℕ). told_if kind.FifoSize line n (not c.is_fifo_size.result)) c.bytes.ensures.value
    ∙ ap (λ (b : Bool). told_if kind.FifoSize line name (not b)) c.is_fifo_size.ensures)
    ∙ ap (option_or (told_if kind.FifoSize line name (not (items.is_fifo_size size)))) c.type_finding.ensures
    ∙ sym (lemmas.fifo_is s line t name size)
