use Rattle.std.proofs.Common.{refl}
use Rattle.exec_data.specs.KernelProcesses.Moved.{kept_as}
use Rattle.exec_control.proofs.OneInstance.{leaving_moves, leaving_sound}
use Rattle.exec_control.proofs.instances.stay_kept.Goals as goal

pub returns-clause-moves : goal.returns-clause-moves
returns-clause-moves c = leaving_moves c.args.k.now c.args.p c.requires.sound c.requires.top c.stay_kept.new.s kept_as (record { bares = λ i. refl; ends = λ i. refl; shows = λ b i told. told }) c.stay_kept.ensures.moves

pub returns-clause-sound : goal.returns-clause-sound
returns-clause-sound c = leaving_sound c.args.k.now c.args.p c.requires.sound c.requires.top c.stay_kept.new.s kept_as (record { bares = λ i. refl; ends = λ i. refl; shows = λ b i told. told }) c.stay_kept.ensures.moves c.stay_kept.ensures.sound
