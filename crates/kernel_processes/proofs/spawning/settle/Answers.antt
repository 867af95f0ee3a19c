use Rattle.kernel_processes.proofs.Changed.{then_changes}
use Rattle.kernel_processes.proofs.Moving.{joins_new, statics_new}
use Rattle.kernel_processes.proofs.spawning.settle.Goals as goal

pub returns-then-not-waits-clause-sound : goal.returns-then-not-waits-clause-sound
returns-then-not-waits-clause-sound g c = (joins_new c.args.s.now c.join.new.s c.args.p c.requires.sound c.requires.fresh.lives c.requires.fresh c.join.ensures.changes).sound

pub returns-clause-sound : goal.returns-clause-sound
returns-clause-sound g c = (statics_new c.args.s.now c.mark_wait.new.s c.args.p c.requires.sound c.requires.fresh.lives c.requires.fresh (then_changes c.args.p _ _ c.args.s.now _ _ c.put_wait.ensures c.mark_wait.ensures)).sound
