use Rattle.tick_trees.proofs.Past.{same_line}
use Rattle.tick_trees.proofs.fault_laws.unfit_times_are_past.Goals as goal

pub returns : goal.returns
returns c = same_line
