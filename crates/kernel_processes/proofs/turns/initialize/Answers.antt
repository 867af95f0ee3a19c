use Rattle.kernel_processes.proofs.Moving.{initializes}
use Rattle.kernel_processes.proofs.Changed.{then_changes}
use Rattle.kernel_processes.proofs.turns.initialize.Goals as goal

pub returns-clause-moves : goal.returns-clause-moves
returns-clause-moves g c = (initializes c.args.s.now _ c.args.p c.requires.sound c.requires.lives c.requires.rests c.requires.goes (then_changes c.args.p _ _ c.args.s.now _ _ c.free.ensures c.join.ensures.changes)).moves

pub returns-clause-sound : goal.returns-clause-sound
returns-clause-sound g c = (initializes c.args.s.now _ c.args.p c.requires.sound c.requires.lives c.requires.rests c.requires.goes (then_changes c.args.p _ _ c.args.s.now _ _ c.free.ensures c.join.ensures.changes)).sound
