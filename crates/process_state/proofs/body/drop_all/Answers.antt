use Rattle.std.proofs.Common.{arith}
use Rattle.process_state.proofs.Frames.{none_left}
use Rattle.process_state.proofs.body.drop_all.Goals as goal

pub returns-else-many-gt0 : goal.returns-else-many-gt0
returns-else-many-gt0 c = none_left c.args.frames.now.items (omega (arith, c.if-many-gt0.false, c.args.frames.now.ok.0))
