use Rattle.std.proofs.Common.{◌∙◌}
use Rattle.sim_io.specs.Memory.{entries}
use Rattle.sim_io.proofs.Entries.{position-entries, found_place}
use Rattle.sim_io.proofs.memory_shelf.find_file.Goals as goal

pub returns : goal.returns
returns c = found_place (entries c.args.files.now) c.args.name.now c.find_name.result (c.find_name.ensures ∙ position-entries c.args.files.now c.args.name.now)
