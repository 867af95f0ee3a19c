use Rattle.laws_design.proofs.Standing.{design_stands}
use Rattle.laws_design.proofs.SocketHops.{sockets_have_hops}
use Rattle.laws_design.proofs.accepted_models.names_stand.Goals as goal

pub returns : goal.returns
returns c = λ m d clean acyclic limits none design. design_stands m d design (sockets_have_hops m clean acyclic limits d none design) clean acyclic
