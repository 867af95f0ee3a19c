use Rattle.kernel_processes.proofs.Moving.{disables}
use Rattle.kernel_processes.proofs.Changed.{then_changes}
use Rattle.kernel_processes.proofs.control.disable.Goals as goal

pub returns-clause-moves : goal.returns-clause-moves
returns-clause-moves g c = (disables c.args.s.now _ c.args.p c.requires.sound c.requires.lives c.args.on (then_changes c.args.p _ _ c.args.s.now _ _ c.mute.ensures c.mark_disabled.ensures)).moves

pub returns-clause-sound : goal.returns-clause-sound
returns-clause-sound g c = (disables c.args.s.now _ c.args.p c.requires.sound c.requires.lives c.args.on (then_changes c.args.p _ _ c.args.s.now _ _ c.mute.ensures c.mark_disabled.ensures)).sound
