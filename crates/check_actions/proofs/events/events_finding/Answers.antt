use Rattle.std.proofs.Common.{List, refl}
use Rattle.model_tree.specs.Views.{event_of, events_of}
use Rattle.model_tree.specs.declared.statements.Event.{Event}
use Rattle.check_expressions.specs.ModelRules.Passes.{constructs, fault_of}
use Rattle.check_expressions.specs.ModelRules.Sites.{Site, event_sites, events_sites}
use Rattle.check_expressions.specs.CheckNames.Places.{scope_of}
use Rattle.check_expressions.specs.Findings.{fault_seen}
use Rattle.check_actions.proofs.Parts.{found_along, none_along}
use Rattle.check_actions.proofs.events.events_finding.Goals as goal

pub returns-in-Some : goal.returns-in-Some
returns-in-Some c =
    let s = scope_of c.args.place.now in
    let b = c.args.is_static in
    found_along (λ (es : List Event). events_sites s b (events_of es)) (λ (e : Event). event_sites s b (event_of e)) (λ e es. refl) c.args.events.now c.loop-event.event-index c.event-item.result
    c.loop-event-test.true c.event-item.is _ (fault_seen c.in-Some.finding) c.loop-event.invariant c.in-Some.ensures

pub loop-event-preserved : goal.loop-event-preserved
loop-event-preserved c =
    let s = scope_of c.args.place.now in
    let b = c.args.is_static in
    none_along (λ (es : List Event). events_sites s b (events_of es)) (λ (e : Event). event_sites s b (event_of e)) (λ e es. refl) c.args.events.now c.loop-event.event-index c.event-item.result
    c.loop-event-test.true c.event-item.is _ c.loop-event.invariant c.in_default.ensures
