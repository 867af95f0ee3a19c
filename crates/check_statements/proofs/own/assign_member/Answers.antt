use Rattle.std.proofs.Common.{Bool, not, ℕ, List, ap, ◌∙◌}
use Rattle.std.specs.Option.{option_or}
use Rattle.model_tree.specs.Views.{target_of}
use Rattle.model_tree.specs.declared.faults.Kind.TheVariants as kind
use Rattle.check_actions.specs.ModelRules.Scopes.{is_known, meaning_of}
use Rattle.check_actions.specs.ModelRules.Targets.{destination_of}
use Rattle.check_actions.specs.ModelRules.Names.{goes_nowhere}
use Rattle.check_actions.specs.CheckNames.Places.{scope_of}
use Rattle.check_actions.specs.CheckExpressions.Findings.{faults_of, told_if}
use Rattle.check_actions.specs.CheckExpressions.ConstructFindings.{member_fault}
use Rattle.check_actions.specs.CheckExpressions.declared.heads.MemberUse.TheVariants as used
use Rattle.check_statements.proofs.Found.{assign_member_is}
use Rattle.check_statements.proofs.own.assign_member.Goals as goal

pub returns : goal.returns
returns c =
    let s = scope_of c.args.place.now in
    let line = c.args.line in
    let t = target_of c.args.target.now in
    let member = c.args.member.now in
    let types = told_if kind.TypeDiffers line s.around c.args.differs in
    let nowhere = goes_nowhere (destination_of s t) in
    c.first_finding-2.ensures
    ∙ ap (λ o. option_or o (faults_of c.first_finding.result))
    (c.told_if-unknown.ensures
    ∙ ap (λ (n : List ℕ). told_if kind.UnknownName line n (not c.is_known.result)) c.bytes-name.ensures.value
    ∙ ap (λ (b : Bool). told_if kind.UnknownName line t.name (not b)) (c.is_known.ensures ∙ ap (is_known s) c.bytes-name.ensures.value))
    ∙ ap (option_or (told_if kind.UnknownName line t.name (not (is_known s t.name))))
    (c.first_finding.ensures
    ∙ ap (λ o. option_or o (faults_of c.told_if-types.result))
    (c.member_finding-wrong.ensures
    ∙ ap (λ (b : Bool). member_fault (used.Assigned b) line c.bytes-name.result.now c.bytes.result.now c.meaning-meaning.result) (c.goes_nowhere-nowhere.ensures ∙ ap goes_nowhere c.destination.ensures)
    ∙ ap (λ (n : List ℕ). member_fault (used.Assigned nowhere) line n c.bytes.result.now c.meaning-meaning.result) c.bytes-name.ensures.value
    ∙ ap (λ (n : List ℕ). member_fault (used.Assigned nowhere) line t.name n c.meaning-meaning.result) c.bytes.ensures.value
    ∙ ap (member_fault (used.Assigned nowhere) line t.name member) (c.meaning-meaning.ensures ∙ ap (meaning_of s) c.bytes-name.ensures.value))
    ∙ ap (option_or (member_fault (used.Assigned nowhere) line t.name member (meaning_of s t.name))) c.told_if-types.ensures)
    ∙ assign_member_is s line t member c.args.differs c.requires.member
