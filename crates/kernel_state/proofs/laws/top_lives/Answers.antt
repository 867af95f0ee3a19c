use Rattle.kernel_state.proofs.Frames.{lives_on_top}
use Rattle.kernel_state.proofs.laws.top_lives.Goals as goal

pub returns : goal.returns
returns c = lives_on_top c.args.k.now c.args.p c.requires.sound c.requires.top
