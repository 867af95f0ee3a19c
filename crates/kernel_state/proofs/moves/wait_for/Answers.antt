use Rattle.kernel_processes.specs.Moved.{for_event}
use Rattle.kernel_state.proofs.Frames.{keeps_bodies, stays_moves, stays_sound, waits_moves, waits_sound}
use Rattle.kernel_state.proofs.moves.wait_for.Goals as goal

pub returns-in-Ok-clause-moves : goal.returns-in-Ok-clause-moves
returns-in-Ok-clause-moves c = waits_moves c.args.k.now c.args.p c.requires.sound c.requires.top c.wait_for.new.s c.wait_for.ensures.sound (for_event c.args.e) c.in-Ok.ensures.moves

pub returns-in-Ok-clause-sound : goal.returns-in-Ok-clause-sound
returns-in-Ok-clause-sound c = waits_sound c.args.k.now c.args.p c.requires.sound c.requires.top c.wait_for.new.s c.wait_for.ensures.sound (for_event c.args.e) c.in-Ok.ensures.moves

pub returns-in-Err-clause-stays : goal.returns-in-Err-clause-stays
returns-in-Err-clause-stays c = stays_moves c.args.k.now c.args.p c.requires.sound c.requires.top c.wait_for.new.s c.wait_for.ensures.sound c.in-Err.ensures.stays

pub returns-in-Err-clause-sound : goal.returns-in-Err-clause-sound
returns-in-Err-clause-sound c = stays_sound c.args.k.now c.args.p c.requires.sound c.requires.top c.wait_for.new.s c.wait_for.ensures.sound c.in-Err.ensures.stays

pub returns-in-Ok-clause-kept : goal.returns-in-Ok-clause-kept
returns-in-Ok-clause-kept c = keeps_bodies c.args.k.now c.wait_for.new.s c.in-Ok.ensures.moves.bodies

pub returns-in-Err-clause-kept : goal.returns-in-Err-clause-kept
returns-in-Err-clause-kept c = keeps_bodies c.args.k.now c.wait_for.new.s c.in-Err.ensures.stays.bodies
