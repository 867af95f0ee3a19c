use Rattle.std.proofs.Common.{◌≡◌, drop, map}
use Rattle.std.specs.List.{flat_map}
use Rattle.model_tree.specs.Views.{event_of}
use Rattle.tick_trees.specs.Times.{in_event}
use Rattle.tick_trees.specs.Unfit.{first, unfit_in}
use Rattle.tick_trees.proofs.parts.in_events.Given as goal

-- what is found, if anything, is in what is left
abbrev pub invariant-loop-event : goal.invariant-loop-event
invariant-loop-event l = first (unfit_in l.fn.r) (flat_map in_event (map event_of l.fn.events)) ≡ first (unfit_in l.fn.r) (flat_map in_event (map event_of (drop l.event-index l.fn.events)))
