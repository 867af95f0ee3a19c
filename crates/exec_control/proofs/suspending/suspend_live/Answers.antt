use Rattle.exec_control.proofs.Suspended.{suspended_moves, suspended_sound}
use Rattle.exec_control.proofs.suspending.suspend_live.Goals as goal

pub returns-clause-moves : goal.returns-clause-moves
returns-clause-moves c = suspended_moves c.args.k.now c.args.q c.requires.sound c.requires.lives c.suspend.new.s c.yields-yielding.result c.yields-yielding.ensures.top c.suspend.ensures.moves c.yields-yielding.ensures.shown

pub returns-clause-sound : goal.returns-clause-sound
returns-clause-sound c = suspended_sound c.args.k.now c.args.q c.requires.sound c.requires.lives c.suspend.new.s c.yields-yielding.result c.suspend.ensures.moves c.suspend.ensures.sound
