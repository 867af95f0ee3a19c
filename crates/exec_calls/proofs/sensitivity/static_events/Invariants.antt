use Rattle.std.proofs.Common.{◌≡◌, ◌++◌, drop}
use Rattle.exec_calls.specs.Sensitive.{static_in}
use Rattle.exec_calls.proofs.sensitivity.static_events.Given as goal

abbrev pub invariant-loop-part : goal.invariant-loop-part
invariant-loop-part l = l.found ++ static_in l.design l.home (drop l.part-index l.uses) ≡ static_in l.design l.home l.uses
