use Rattle.laws_design.proofs.Denoted.{named_denoted}
use Rattle.laws_design.proofs.paths.names_denote_the_objects_of_their_paths.Goals as goal

pub returns : goal.returns
returns c = named_denoted
