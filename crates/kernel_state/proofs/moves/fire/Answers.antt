use Rattle.kernel_state.proofs.Frames.{keeps_bodies, fired_moves, fired_sound}
use Rattle.kernel_state.proofs.moves.fire.Goals as goal

pub returns-clause-moves : goal.returns-clause-moves
returns-clause-moves c = fired_moves c.args.k.now c.requires c.fire.new.s c.fire.ensures.sound c.args.e c.fire.ensures.rouses

pub returns-clause-sound : goal.returns-clause-sound
returns-clause-sound c = fired_sound c.args.k.now c.requires c.fire.new.s c.fire.ensures.sound c.args.e c.fire.ensures.rouses

pub returns-clause-kept : goal.returns-clause-kept
returns-clause-kept c = keeps_bodies c.args.k.now c.fire.new.s c.fire.ensures.rouses.bodies
