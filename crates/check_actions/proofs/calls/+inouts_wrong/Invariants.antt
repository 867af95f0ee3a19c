use Rattle.std.proofs.Common.{length}
use Rattle.check_actions.proofs.calls.+inouts_wrong.Given as goal

abbrev pub decreases-inouts_wrong : goal.decreases-inouts_wrong
decreases-inouts_wrong l = length l.parameters.now
