use Rattle.std.proofs.Common.{◌≡◌, ◌++◌, drop}
use Rattle.elaborate_objects.specs.DesignRules.Statics.{static_events}
use Rattle.elaborate_design.proofs.processes.static_events.Given as goal

abbrev pub invariant-loop-part : goal.invariant-loop-part
invariant-loop-part l = l.found ++ static_events l.ports l.names (drop l.part-index l.uses) ≡ static_events l.ports l.names l.uses
