use Rattle.exec_control.proofs.Ended.{ended_steps, ended_sound}
use Rattle.exec_control.proofs.endings.leave_for_good.Goals as goal

pub returns-clause-steps : goal.returns-clause-steps
returns-clause-steps c = ended_steps c.args.k.now c.args.p c.end.new.s c.end.ensures.ends

pub returns-clause-sound : goal.returns-clause-sound
returns-clause-sound c = ended_sound c.args.k.now c.args.p c.end.new.s c.end.ensures.ends c.requires.sound c.end.ensures.sound
