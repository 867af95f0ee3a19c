use Rattle.std.proofs.Common.{Bool, not, ℕ, List, ap, sym, ◌∙◌}
use Rattle.model_tree.specs.declared.faults.Kind.TheVariants as kind
use Rattle.check_statements.specs.ModelRules.Names as names
use Rattle.check_statements.specs.CheckNames.Places.{scope_of}
use Rattle.check_statements.specs.CheckExpressions.Findings.{told_if}
use Rattle.check_items.proofs.ItemLemmas as lemmas
use Rattle.check_items.proofs.owns.instance_finding.Goals as goal

pub returns : goal.returns
returns c =
    let s = scope_of c.args.place.now in
    let line = c.args.line in
    let of = c.args.kind.now in
    c.told_if.ensures
    ∙ ap (λ (n : List ℕ). told_if kind.UnknownName line n (not c.is_module.result)) c.bytes-2.ensures.value
    ∙ ap (λ (b : Bool). told_if kind.UnknownName line of (not b)) (c.is_module.ensures ∙ ap (names.is_module_name s.modules) c.bytes.ensures.value)
    ∙ sym (lemmas.instance_is s line of c.args.name.now)
