use Rattle.std.proofs.Common.{ℕ, length, sym, subst}
use Rattle.std.specs.FinMap as map
use Rattle.kernel_processes.specs.Moves.{events_of, sensitive_of}
use Rattle.kernel_processes.specs.Moved.{HasRoom, LeavesTop}
use Rattle.kernel_processes.specs.declared.parts.Schedule.{Schedule}
use Rattle.kernel_processes.specs.declared.parts.Wait.{Wait}
use Rattle.kernel_processes.proofs.Moving.{rests_top, untimed_after}
use Rattle.kernel_processes.proofs.waits.rest_ready.Goals as goal

-- the room for a wait stays where the top leaves the stack
module _ {B : Type 0} (p : ℕ) (w : Wait) (s t : Schedule B) (left : LeavesTop p s t) where
  room_left : HasRoom p (length (events_of w (sensitive_of (map.get s.table.live p)))) s → HasRoom p (length (events_of w (sensitive_of (map.get t.table.live p)))) t
  room_left room = subst (λ (u : Schedule B). HasRoom p (length (events_of w (sensitive_of (map.get u.table.live p)))) u) (sym left.others)
      (record { events = room.events; times = room.times; zeros = room.zeros })

pub put_resting-requires-clause-events : goal.put_resting-requires-clause-events
put_resting-requires-clause-events g c = (room_left c.args.p c.args.t.now.wait c.args.s.now c.leave_stack.new.s c.leave_stack.ensures.left c.requires.room).events

pub put_resting-requires-clause-times : goal.put_resting-requires-clause-times
put_resting-requires-clause-times g c = (room_left c.args.p c.args.t.now.wait c.args.s.now c.leave_stack.new.s c.leave_stack.ensures.left c.requires.room).times

pub put_resting-requires-clause-zeros : goal.put_resting-requires-clause-zeros
put_resting-requires-clause-zeros g c = (room_left c.args.p c.args.t.now.wait c.args.s.now c.leave_stack.new.s c.leave_stack.ensures.left c.requires.room).zeros

pub put_resting-requires-clause-untimed : goal.put_resting-requires-clause-untimed
put_resting-requires-clause-untimed g c = untimed_after c.args.s.now c.leave_stack.new.s c.args.p c.requires.sound c.leave_stack.ensures.left

pub returns-clause-moves : goal.returns-clause-moves
returns-clause-moves g c = (rests_top c.args.s.now c.leave_stack.new.s c.args.p c.requires.sound
    c.leave_stack.ensures.left c.leave_stack.ensures.sound _ c.args.t.now c.put_resting.ensures).moves

pub returns-clause-sound : goal.returns-clause-sound
returns-clause-sound g c = (rests_top c.args.s.now c.leave_stack.new.s c.args.p c.requires.sound
    c.leave_stack.ensures.left c.leave_stack.ensures.sound _ c.args.t.now c.put_resting.ensures).sound
