use Rattle.std.proofs.Common.{length}
use Rattle.check_actions.proofs.calls.+arguments_differ.Given as goal

abbrev pub decreases-arguments_differ : goal.decreases-arguments_differ
decreases-arguments_differ l = length l.parameters.now
