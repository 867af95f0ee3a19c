use Rattle.kernel_state.proofs.Frames.{lives_on_top, lives_still, steps_after}
use Rattle.kernel_state.proofs.statements.block.Goals as goal

pub settle-requires-clause-lives : goal.settle-requires-clause-lives
settle-requires-clause-lives c = lives_still c.args.k.now c.wait_for.new.k c.args.p c.wait_for.ensures.kept (lives_on_top c.args.k.now c.args.p c.requires.sound c.requires.top)

pub returns-in-Ok-clause-steps : goal.returns-in-Ok-clause-steps
returns-in-Ok-clause-steps c d i h there = steps_after d c.args.p i _ _ there c.args.k.now c.wait_for.new.k (λ r. r) c.in-Ok.ensures.moves c.settle.new.k c.settle.ensures.steps h
