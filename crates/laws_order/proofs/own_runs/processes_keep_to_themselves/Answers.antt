use Rattle.laws_order.proofs.WholeRuns.{fits}
use Rattle.laws_order.proofs.own_runs.processes_keep_to_themselves.Goals as goal

pub returns : goal.returns
returns c = fits
