use Rattle.std.proofs.Common.{Option, ap, sym, ◌∙◌}
use Rattle.std.specs.Option.{option_or}
use Rattle.model_tree.specs.Views.{expression_of, place_of, channel_of as channel_seen}
use Rattle.model_tree.specs.declared.statements.Place.{Place}
use Rattle.model_tree.specs.declared.faults.Fault.{Fault}
use Rattle.check_names.specs.ModelRules.Scopes.{meaning_of}
use Rattle.check_names.specs.ModelRules.Types.{type_seen, seen_of}
use Rattle.check_names.specs.ModelRules.Passes.{constructs, fault_of}
use Rattle.check_names.specs.ModelRules.Sites.{place_sites}
use Rattle.check_names.specs.Places.{scope_of}
use Rattle.check_expressions.specs.Findings.{faults_of}
use Rattle.check_expressions.specs.ConstructFindings.{at_of, channel_fault}
use Rattle.check_expressions.specs.declared.channels.At.TheVariants as at
use Rattle.check_expressions.proofs.Forms.{channel_sites_are}
use Rattle.check_expressions.proofs.channel_places.judge_channel.Goals as goal

pub returns-in-First-clause-finding : goal.returns-in-First-clause-finding
returns-in-First-clause-finding c =
    let s = scope_of c.args.place.now in
    let n = c.args.need in
    let ch = c.args.channel.now in
    let m = meaning_of s ch.name in
    c.at_place.ensures.finding
    ∙ sym (ap (λ (p : Place). option_or (channel_fault s.around n ch.line ch.name (at_of s (place_of p)) m) (fault_of constructs (place_sites s (place_of p)))) c.in-First.is)
    ∙ channel_sites_are s n (channel_seen ch)

pub returns-in-Number-clause-finding : goal.returns-in-Number-clause-finding
returns-in-Number-clause-finding c =
    let s = scope_of c.args.place.now in
    let n = c.args.need in
    let ch = c.args.channel.now in
    let m = meaning_of s ch.name in
    c.at_place-in-Number.ensures.finding
    ∙ sym (ap (λ (p : Place). option_or (channel_fault s.around n ch.line ch.name (at_of s (place_of p)) m) (fault_of constructs (place_sites s (place_of p)))) c.in-Number.is)
    ∙ channel_sites_are s n (channel_seen ch)

pub returns-in-Computed-clause-finding : goal.returns-in-Computed-clause-finding
returns-in-Computed-clause-finding c =
    let s = scope_of c.args.place.now in
    let n = c.args.need in
    let ch = c.args.channel.now in
    let m = meaning_of s ch.name in
    let inner = c.judge-inner in
    c.at_place-in-Computed.ensures.finding
    ∙ ap (λ t. option_or (channel_fault s.around n ch.line ch.name (at.Computed t) m) (faults_of inner.result.finding)) (c.type_seen.ensures ∙ ap type_seen inner.ensures.seen)
    ∙ ap (λ (f : Option Fault). option_or (channel_fault s.around n ch.line ch.name (at.Computed (type_seen (seen_of s (expression_of c.in-Computed.e)))) m) f) inner.ensures.finding
    ∙ sym (ap (λ (p : Place). option_or (channel_fault s.around n ch.line ch.name (at_of s (place_of p)) m) (fault_of constructs (place_sites s (place_of p)))) c.in-Computed.is)
    ∙ channel_sites_are s n (channel_seen ch)
