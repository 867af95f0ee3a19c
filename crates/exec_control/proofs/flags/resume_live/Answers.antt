use Rattle.exec_control.proofs.Resumed.{resumed_moves, resumed_sound}
use Rattle.exec_control.proofs.flags.resume_live.Goals as goal

pub returns-clause-moves : goal.returns-clause-moves
returns-clause-moves c = resumed_moves c.args.k.now c.args.q c.requires.lives c.resume.new.s c.resume.ensures.moves

pub returns-clause-sound : goal.returns-clause-sound
returns-clause-sound c = resumed_sound c.args.k.now c.args.q c.requires.lives c.resume.new.s c.resume.ensures.moves c.requires.sound c.resume.ensures.sound
