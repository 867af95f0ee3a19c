use Rattle.kernel_steps.proofs.Shows as shows
use Rattle.kernel_steps.proofs.carrying.has_statement.Goals as goal

pub returns : goal.returns
returns c = shows.has_statement c.args.k.now c.args.p c.args.s c.requires
