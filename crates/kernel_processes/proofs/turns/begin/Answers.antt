use Rattle.kernel_processes.proofs.Moving.{begins}
use Rattle.kernel_processes.proofs.turns.begin.Goals as goal

pub returns-clause-moves : goal.returns-clause-moves
returns-clause-moves g c = (begins c.args.s.now _ c.args.p c.requires.sound c.requires.lives c.args.on c.mark_started.ensures).moves

pub returns-clause-sound : goal.returns-clause-sound
returns-clause-sound g c = (begins c.args.s.now _ c.args.p c.requires.sound c.requires.lives c.args.on c.mark_started.ensures).sound
