use Rattle.exec_channels.proofs.Stored.{stored_moves}
use Rattle.exec_channels.proofs.slots.put.Goals as goal

pub returns-clause-moves : goal.returns-clause-moves
returns-clause-moves c = stored_moves c.args.k.now c.keep.new.k c.args.p c.args.slot c.args.v c.keep.ensures.moves
