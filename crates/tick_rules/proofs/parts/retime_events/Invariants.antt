use Rattle.model_tree.specs.Views.{event_of}
use Rattle.tick_trees.specs.Retimed as retimed
use Rattle.tick_trees.specs.Ticks.{ticks_span}
use Rattle.tick_trees.proofs.Each.{Changed}
use Rattle.tick_rules.proofs.parts.retime_events.Given as goal

abbrev pub invariant-loop-event : goal.invariant-loop-event
invariant-loop-event l = Changed event_of (retimed.event (ticks_span l.fn.r)) l.events l.fn.events l.event-index
