use Rattle.std.proofs.Common.{[], None, ap, sym, ◌∙◌}
use Rattle.std.specs.Prelude.{option_and_then}
use Rattle.std.specs.Option.{option_or}
use Rattle.model_tree.specs.Views.{channel_of, expression_of}
use Rattle.check_expressions.specs.ModelRules.Targets.{put_type, put_into, misfits}
use Rattle.check_expressions.specs.ModelRules.Types.{type_seen, type_of}
use Rattle.check_expressions.specs.ModelRules.declared.needs.Need.TheVariants as need_of
use Rattle.check_expressions.specs.ModelRules.Passes.{constructs, fault_of}
use Rattle.check_expressions.specs.ModelRules.Sites.{channel_sites, expression_sites}
use Rattle.check_expressions.specs.CheckNames.Places.{scope_of}
use Rattle.check_expressions.specs.Findings.{faults_of}
use Rattle.check_actions.specs.Uses.{site_fault}
use Rattle.check_actions.proofs.Parts.{fault_append}
use Rattle.check_actions.proofs.operations.nb_write_finding.Goals as goal

pub returns : goal.returns
returns c =
    let s = scope_of c.args.place.now in
    let line = c.args.line in
    let ch = channel_of c.args.channel.now in
    let e = expression_of c.args.value.now in
    let own = site_fault s line [] (misfits (put_into s ch) (type_of s e)) None in
    c.first_finding-2.ensures
    ∙ ap (λ o. option_or o (faults_of c.first_finding.result)) c.site_finding-own.ensures
    ∙ ap (λ d. option_or (site_fault s line [] d None) (faults_of c.first_finding.result))
    (c.misfits-differs.ensures ∙ ap (λ w. misfits w c.type_seen.result) (c.put.ensures ∙ ap (option_and_then put_type) c.judge_channel-of.ensures.meaning) ∙ ap (misfits (put_into s ch)) (c.type_seen.ensures ∙ ap type_seen c.judge-value.ensures.seen))
    ∙ ap (option_or own)
    (c.first_finding.ensures
    ∙ ap (λ o. option_or o (faults_of c.judge-value.result.finding)) c.judge_channel-of.ensures.finding
    ∙ ap (option_or (fault_of constructs (channel_sites s need_of.Put ch))) c.judge-value.ensures.finding
    ∙ sym (fault_append (channel_sites s need_of.Put ch) (expression_sites s e)))
