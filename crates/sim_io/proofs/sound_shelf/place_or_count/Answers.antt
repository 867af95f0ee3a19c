use Rattle.sim_io.proofs.Places.{place_past}
use Rattle.sim_io.proofs.sound_shelf.place_or_count.Goals as goal

pub returns-in-None : goal.returns-in-None
returns-in-None c = place_past c.args.files.now c.args.name.now c.in-None.ensures
