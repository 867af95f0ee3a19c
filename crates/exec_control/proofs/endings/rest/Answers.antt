use Rattle.std.proofs.Common.{refl}
use Rattle.exec_data.specs.KernelProcesses.Moved.{rests_as}
use Rattle.exec_control.proofs.OneInstance.{leaving_moves, leaving_sound, leaving_lives}
use Rattle.exec_control.proofs.endings.rest.Goals as goal

pub returns-clause-moves : goal.returns-clause-moves
returns-clause-moves c = leaving_moves c.args.k.now c.args.p c.requires.sound c.requires.top c.rest_ready.new.s (rests_as c.args.t.now) (record { bares = λ i. refl; ends = λ i. refl; shows = λ b i told. told }) c.rest_ready.ensures.moves

pub returns-clause-lives : goal.returns-clause-lives
returns-clause-lives c = leaving_lives c.args.k.now c.args.p c.requires.sound c.requires.top c.rest_ready.new.s (rests_as c.args.t.now) (record { bares = λ i. refl; ends = λ i. refl; shows = λ b i told. told }) c.rest_ready.ensures.moves

pub returns-clause-sound : goal.returns-clause-sound
returns-clause-sound c = leaving_sound c.args.k.now c.args.p c.requires.sound c.requires.top c.rest_ready.new.s (rests_as c.args.t.now) (record { bares = λ i. refl; ends = λ i. refl; shows = λ b i told. told }) c.rest_ready.ensures.moves c.rest_ready.ensures.sound
