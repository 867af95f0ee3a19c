use Rattle.std.proofs.Common.{◌≡◌, drop}
use Rattle.model_tree.specs.Views.{events_of}
use Rattle.flat_design.specs.Code as code
use Rattle.code_terms.specs.CodeRules.Deeds as deeds
use Rattle.code_terms.specs.CheckNames.Places.{scope_of}
use Rattle.code_deeds.proofs.Each.{behind}
use Rattle.code_deeds.proofs.events.events_code.Given as goal

abbrev pub invariant-loop-event : goal.invariant-loop-event
invariant-loop-event l =
    deeds.each (deeds.event_term (scope_of l.place)) (events_of l.events) ≡ behind (code.event_terms l.done.items) (deeds.each (deeds.event_term (scope_of l.place)) (events_of (drop l.event-index l.events)))
