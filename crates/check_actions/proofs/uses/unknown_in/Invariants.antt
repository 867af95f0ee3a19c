use Rattle.std.proofs.Common.{◌≡◌, drop}
use Rattle.check_expressions.specs.ModelRules.Names.{first, unknown_use}
use Rattle.check_expressions.specs.CheckNames.Places.{scope_of}
use Rattle.check_actions.specs.Uses.{uses_of}
use Rattle.check_actions.proofs.uses.unknown_in.Given as goal

abbrev pub invariant-loop-used : goal.invariant-loop-used
invariant-loop-used l = first (unknown_use (scope_of l.place)) (uses_of l.uses) ≡ first (unknown_use (scope_of l.place)) (uses_of (drop l.used-index l.uses))
