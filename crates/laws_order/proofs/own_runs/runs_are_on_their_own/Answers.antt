use Rattle.laws_order.proofs.WholeRuns.{own-steps, unheard}
use Rattle.laws_order.proofs.own_runs.runs_are_on_their_own.Goals as goal

pub returns : goal.returns
returns c = record { own = own-steps; unheard = unheard }
