use Rattle.kernel_processes.proofs.Sounding.{same_sound}
use Rattle.kernel_processes.proofs.waits.hold.Goals as goal

pub returns-in-Ok-clause-sound : goal.returns-in-Ok-clause-sound
returns-in-Ok-clause-sound g c = same_sound c.args.s.now c.hold_room.new.s c.args.p c.hold_room.ensures.changes c.requires.sound

pub returns-in-Err-clause-sound : goal.returns-in-Err-clause-sound
returns-in-Err-clause-sound g c = same_sound c.args.s.now c.hold_room.new.s c.args.p c.hold_room.ensures.changes c.requires.sound
