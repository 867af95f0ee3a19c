use Rattle.kernel_processes.proofs.Sounding.{same_sound}
use Rattle.kernel_processes.proofs.Moving.{waits_top, untimed_after}
use Rattle.kernel_processes.proofs.waits.wait.Goals as goal

pub put-requires-clause-untimed : goal.put-requires-clause-untimed
put-requires-clause-untimed g c = untimed_after c.make_room.new.s c.leave_stack.new.s c.args.p (same_sound c.args.s.now c.make_room.new.s c.args.p c.make_room.ensures.changes c.requires.sound) c.leave_stack.ensures.left

pub returns-clause-sound : goal.returns-clause-sound
returns-clause-sound g c = (waits_top c.make_room.new.s c.leave_stack.new.s c.args.p (same_sound c.args.s.now c.make_room.new.s c.args.p c.make_room.ensures.changes c.requires.sound)
    c.leave_stack.ensures.left c.leave_stack.ensures.sound _ c.args.t.now c.put.ensures).sound
