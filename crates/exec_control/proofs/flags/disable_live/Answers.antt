use Rattle.std.proofs.Common.{refl}
use Rattle.exec_data.specs.KernelProcesses.Moved.{disabled_as}
use Rattle.exec_control.proofs.OneInstance.{marked_moves, marked_sound}
use Rattle.exec_control.proofs.flags.disable_live.Goals as goal

pub returns-clause-moves : goal.returns-clause-moves
returns-clause-moves c = marked_moves c.args.k.now c.args.q c.requires.lives c.disable.new.s (disabled_as c.args.on) (record { bares = λ i. refl; ends = λ i. refl; shows = λ b i told. told }) c.disable.ensures.moves

pub returns-clause-sound : goal.returns-clause-sound
returns-clause-sound c = marked_sound c.args.k.now c.args.q c.requires.lives c.disable.new.s (disabled_as c.args.on) (record { bares = λ i. refl; ends = λ i. refl; shows = λ b i told. told }) c.disable.ensures.moves c.requires.sound c.disable.ensures.sound
