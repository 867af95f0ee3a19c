use Rattle.kernel_processes.proofs.Changed.{unreadied}
use Rattle.kernel_processes.proofs.changes.unready.Goals as goal

pub returns-clause-changes : goal.returns-clause-changes
returns-clause-changes g c = unreadied c.args.s.now c.args.p _ c.remove.ensures.left
