use Rattle.std.proofs.Common.{ℕ, List, [], ◌∷◌, None, ap, ◌∙◌}
use Rattle.model_tree.specs.Views.{target_of}
use Rattle.check_actions.specs.ModelRules.declared.needs.Need.{Need}
use Rattle.check_actions.specs.CheckNames.Places.{scope_of}
use Rattle.check_actions.specs.Uses.{site_fault}
use Rattle.check_statements.proofs.Found.{assign_name_is}
use Rattle.check_statements.proofs.own.assign_name.Goals as goal

pub returns : goal.returns
returns c =
    let s = scope_of c.args.place.now in
    let line = c.args.line in
    let d = c.args.differs in
    c.site_finding.ensures
    ∙ ap (λ (n : List ℕ). site_fault s line ((n, c.need_of_target-need.result) ∷ []) d None) c.bytes.ensures.value
    ∙ ap (λ (n : Need). site_fault s line ((c.args.target.now.name, n) ∷ []) d None) c.need_of_target-need.ensures
    ∙ assign_name_is s line (target_of c.args.target.now) d c.requires.bare
