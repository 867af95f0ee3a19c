use Rattle.kernel_processes.proofs.Ending.{ended_sound, ended_after}
use Rattle.kernel_processes.proofs.Moving.{unready_after}
use Rattle.kernel_processes.proofs.control.end.Goals as goal

pub returns-clause-ends : goal.returns-clause-ends
returns-clause-ends g c = ended_after c.leave_stack.new.s c.args.p c.leave_stack.ensures.sound c.leave_stack.ensures.left.off (unready_after c.args.s.now c.leave_stack.new.s c.args.p c.requires.sound c.leave_stack.ensures.left)
    _ _ _ _ c.forget.ensures c.clear.ensures c.remove.ensures.left c.end.ensures.ended c.args.s.now c.leave_stack.ensures.left

pub returns-clause-sound : goal.returns-clause-sound
returns-clause-sound g c = ended_sound c.leave_stack.new.s c.args.p c.leave_stack.ensures.sound c.leave_stack.ensures.left.off (unready_after c.args.s.now c.leave_stack.new.s c.args.p c.requires.sound c.leave_stack.ensures.left)
    _ _ _ _ c.forget.ensures c.clear.ensures c.remove.ensures.left c.end.ensures.ended
