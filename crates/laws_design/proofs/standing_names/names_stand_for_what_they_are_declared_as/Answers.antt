use Rattle.laws_design.proofs.Standing.{design_stands}
use Rattle.laws_design.proofs.standing_names.names_stand_for_what_they_are_declared_as.Goals as goal

pub returns : goal.returns
returns c = λ m d none acyclic sockets design. design_stands m d design sockets none acyclic
