use Rattle.laws_design.proofs.SocketHops.{sockets_have_hops}
use Rattle.laws_design.proofs.accepted_models.sockets_are_ends_of_hops.Goals as goal

pub returns : goal.returns
returns c = λ m d clean acyclic limits none design. sockets_have_hops m clean acyclic limits d none design
