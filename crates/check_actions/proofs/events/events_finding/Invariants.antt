use Rattle.std.proofs.Common.{◌≡◌, drop}
use Rattle.model_tree.specs.Views.{events_of}
use Rattle.check_expressions.specs.ModelRules.Passes.{constructs, fault_of}
use Rattle.check_expressions.specs.ModelRules.Sites.{events_sites}
use Rattle.check_expressions.specs.CheckNames.Places.{scope_of}
use Rattle.check_actions.proofs.events.events_finding.Given as goal

abbrev pub invariant-loop-event : goal.invariant-loop-event
invariant-loop-event l =
    fault_of constructs (events_sites (scope_of l.place) l.is_static (events_of l.events)) ≡ fault_of constructs (events_sites (scope_of l.place) l.is_static (events_of (drop l.event-index l.events)))
