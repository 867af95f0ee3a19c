use Rattle.std.proofs.Common.{length}
use Rattle.check_items.proofs.handlers.+parameters_differ.Given as goal

abbrev pub decreases-parameters_differ : goal.decreases-parameters_differ
decreases-parameters_differ l = length l.wanted.now
