use Rattle.command_line.proofs.Excluded.{writes_apart}
use Rattle.command_line.proofs.laws.simulations_write_apart.Goals as goal

pub returns : goal.returns
returns c = writes_apart
