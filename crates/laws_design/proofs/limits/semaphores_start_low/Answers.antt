use Rattle.laws_design.proofs.Starts.{semaphores-low}
use Rattle.laws_design.proofs.limits.semaphores_start_low.Goals as goal

pub returns : goal.returns
returns c = semaphores-low
