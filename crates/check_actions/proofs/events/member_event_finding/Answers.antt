use Rattle.std.proofs.Common.{ℕ, List, ap, ◌∙◌}
use Rattle.std.specs.Option.{option_or}
use Rattle.model_tree.specs.Views.{channel_of}
use Rattle.check_expressions.specs.ModelRules.Scopes.{meaning_of}
use Rattle.check_expressions.specs.ModelRules.declared.needs.Need.{Need}
use Rattle.check_expressions.specs.ModelRules.Passes.{constructs, fault_of}
use Rattle.check_expressions.specs.ModelRules.Sites.{channel_sites}
use Rattle.check_expressions.specs.CheckNames.Places.{scope_of}
use Rattle.check_expressions.specs.Findings.{faults_of}
use Rattle.check_expressions.specs.ConstructFindings.{member_fault}
use Rattle.check_expressions.specs.declared.heads.MemberUse.TheVariants as used
use Rattle.check_actions.proofs.Parts.{member_event}
use Rattle.check_actions.proofs.events.member_event_finding.Goals as goal

pub returns : goal.returns
returns c =
    let s = scope_of c.args.place.now in
    let ch = channel_of c.args.channel.now in
    let name = c.args.member.now in
    c.first_finding.ensures
    ∙ ap (λ o. option_or o (faults_of c.judge_channel-inside.result.finding))
    (c.own_member_finding-own.ensures
    ∙ ap (λ (n : List ℕ). member_fault used.Event ch.line n c.bytes-2.result.now (meaning_of s n)) c.bytes.ensures.value
    ∙ ap (λ (n : List ℕ). member_fault used.Event ch.line ch.name n (meaning_of s ch.name)) c.bytes-2.ensures.value)
    ∙ ap (option_or (member_fault used.Event ch.line ch.name name (meaning_of s ch.name)))
    (c.judge_channel-inside.ensures.finding ∙ ap (λ (n : Need). fault_of constructs (channel_sites s n ch)) (c.member_need.ensures name))
    ∙ member_event s c.args.is_static ch name
