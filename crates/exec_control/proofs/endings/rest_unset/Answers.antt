use Rattle.std.proofs.Common.{ap}
use Rattle.std.specs.Prelude.{is_some}
use Rattle.exec_control.proofs.Ended.{rests_statically}
use Rattle.exec_control.proofs.endings.rest_unset.Goals as goal

pub returns-clause-moves : goal.returns-clause-moves
returns-clause-moves c = rests_statically c.args.k.now c.rest_statically.new.k c.args.p (ap is_some c.requires.unset) c.rest_statically.ensures.moves c.requires.lives
