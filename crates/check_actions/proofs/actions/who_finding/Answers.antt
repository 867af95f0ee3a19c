use Rattle.std.proofs.Common.{ℕ, List, [], ◌∷◌, false, None, ap, sym, ◌∙◌}
use Rattle.model_tree.specs.declared.statements.Who.{Who}
use Rattle.check_expressions.specs.ModelRules.declared.needs.Need.TheVariants as need_of
use Rattle.check_expressions.specs.ModelRules.Passes.{constructs, fault_of}
use Rattle.check_expressions.specs.ModelRules.Sites.{who_sites}
use Rattle.check_expressions.specs.CheckNames.Places.{scope_of}
use Rattle.check_actions.specs.Uses.{site_fault}
use Rattle.check_actions.proofs.Parts.{who_sites_are}
use Rattle.check_actions.proofs.actions.who_finding.Goals as goal

pub returns-in-Named : goal.returns-in-Named
returns-in-Named c =
    let s = scope_of c.args.place.now in
    c.named_finding.ensures
    ∙ ap (λ (n : List ℕ). site_fault s c.in-Named.line ((n, need_of.Process) ∷ []) false None) c.bytes.ensures.value
    ∙ who_sites_are s c.in-Named.line c.in-Named.name
    ∙ sym (ap (λ (w : Who). fault_of constructs (who_sites s w)) c.in-Named.is)
