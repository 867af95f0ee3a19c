use Rattle.std.proofs.Common.{refl}
use Rattle.exec_data.specs.KernelProcesses.Moved.{started_as}
use Rattle.exec_control.proofs.OneInstance.{marked_moves, marked_sound}
use Rattle.exec_control.proofs.instances.mark_begun.Goals as goal

pub returns-clause-moves : goal.returns-clause-moves
returns-clause-moves c = marked_moves c.args.k.now c.args.p c.requires.lives c.begin.new.s (started_as c.args.on) (record { bares = λ i. refl; ends = λ i. refl; shows = λ b i told. told }) c.begin.ensures.moves

pub returns-clause-sound : goal.returns-clause-sound
returns-clause-sound c = marked_sound c.args.k.now c.args.p c.requires.lives c.begin.new.s (started_as c.args.on) (record { bares = λ i. refl; ends = λ i. refl; shows = λ b i told. told }) c.begin.ensures.moves c.requires.sound c.begin.ensures.sound

pub returns-clause-stack : goal.returns-clause-stack
returns-clause-stack c = c.begin.ensures.moves.stack
