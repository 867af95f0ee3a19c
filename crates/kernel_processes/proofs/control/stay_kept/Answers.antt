use Rattle.kernel_processes.proofs.Moving.{keeps_top}
use Rattle.kernel_processes.proofs.control.stay_kept.Goals as goal

pub returns-clause-moves : goal.returns-clause-moves
returns-clause-moves g c = (keeps_top c.args.s.now c.leave_stack.new.s c.args.p c.requires.sound c.leave_stack.ensures.left c.leave_stack.ensures.sound c.mark_kept.new.s c.requires.held c.mark_kept.ensures).moves

pub returns-clause-sound : goal.returns-clause-sound
returns-clause-sound g c = (keeps_top c.args.s.now c.leave_stack.new.s c.args.p c.requires.sound c.leave_stack.ensures.left c.leave_stack.ensures.sound c.mark_kept.new.s c.requires.held c.mark_kept.ensures).sound
