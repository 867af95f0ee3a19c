use Rattle.sim_io.proofs.Moves.{file_both}
use Rattle.sim_io.proofs.held.Held.put_file.Goals as goal

pub returns-in-Ok-clause-took : goal.returns-in-Ok-clause-took
returns-in-Ok-clause-took g c = file_both _ _ _ _ _ _ _ _ _ (c.in-Ok.ensures.kept.ids.stands c.args.id) c.in-Ok.ensures.took c.write_file.ensures.bytes c.in-Ok.ensures.empty
