use Rattle.exec_data.proofs.Memories.{byte_moves}
use Rattle.exec_data.proofs.elements.set_byte.Goals as goal

pub returns-clause-moves : goal.returns-clause-moves
returns-clause-moves c = λ d h. byte_moves c.args.k.now d h c.set_in.new.memories c.args.m c.args.place c.args.byte c.set_in.ensures
