use Rattle.std.proofs.Common.{◌≡◌, ◌++◌, [], drop}
use Rattle.std.specs.Prelude.{filter_map}
use Rattle.elaborate_objects.specs.ModelTree.Views as view
use Rattle.elaborate_objects.specs.ModelRules.Scopes.{item_scope}
use Rattle.elaborate_objects.specs.CheckNames.ModuleNames.{items_of}
use Rattle.elaborate_objects.specs.CodeRules.Deeds.{static_use}
use Rattle.elaborate_design.proofs.statics.static_uses.Given as goal

abbrev pub invariant-loop-event : goal.invariant-loop-event
invariant-loop-event l =
    l.uses ++ filter_map (static_use (item_scope [] (items_of l.names) [])) (view.events_of (drop l.event-index l.events))
    ≡ filter_map (static_use (item_scope [] (items_of l.names) [])) (view.events_of l.events)
