use Rattle.kernel_processes.specs.Moved.{for_event}
use Rattle.kernel_processes.proofs.Sounding.{same_sound}
use Rattle.kernel_processes.proofs.Moving.{waits_top, untimed_after}
use Rattle.kernel_processes.proofs.waits.wait_for.Goals as goal

pub put_for-requires-clause-untimed : goal.put_for-requires-clause-untimed
put_for-requires-clause-untimed g c = untimed_after c.hold_room.new.s c.leave_stack.new.s c.args.p (same_sound c.args.s.now c.hold_room.new.s c.args.p c.hold_room.ensures.changes c.requires.sound) c.leave_stack.ensures.left

pub returns-clause-sound : goal.returns-clause-sound
returns-clause-sound g c = (waits_top c.hold_room.new.s c.leave_stack.new.s c.args.p (same_sound c.args.s.now c.hold_room.new.s c.args.p c.hold_room.ensures.changes c.requires.sound)
    c.leave_stack.ensures.left c.leave_stack.ensures.sound _ (for_event c.args.e) c.put_for.ensures).sound
