use Rattle.sim_io.proofs.Moves.{sink_both}
use Rattle.sim_io.proofs.held.Held.pass.Goals as goal

pub returns-in-Ok-clause-took : goal.returns-in-Ok-clause-took
returns-in-Ok-clause-took g c = sink_both _ _ _ _ _ _ _ c.in-Ok.ensures.took c.write_all.ensures.bytes c.in-Ok.ensures.empty
