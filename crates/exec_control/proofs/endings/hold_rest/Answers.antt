use Rattle.exec_data.proofs.KernelState.Frames.{lives_on_top}
use Rattle.exec_control.proofs.endings.hold_rest.Goals as goal

pub returns-in-None-clause-lives : goal.returns-in-None-clause-lives
returns-in-None-clause-lives c = lives_on_top c.args.k.now c.args.p c.requires.sound c.requires.top
