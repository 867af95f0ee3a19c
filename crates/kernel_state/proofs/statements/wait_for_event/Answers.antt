use Rattle.kernel_processes.specs.SimModel.Residual.{put, skip}
use Rattle.kernel_state.proofs.Frames.{lives_on_top, lives_still, statement_still, steps_after}
use Rattle.kernel_state.proofs.statements.wait_for_event.Goals as goal

pub pass-requires-clause-lives : goal.pass-requires-clause-lives
pass-requires-clause-lives c = lives_still c.args.k.now c.wait_for.new.k c.args.p c.wait_for.ensures.kept (lives_on_top c.args.k.now c.args.p c.requires.sound c.requires.top)

pub pass-requires-clause-statement : goal.pass-requires-clause-statement
pass-requires-clause-statement c = statement_still c.args.k.now c.wait_for.new.k c.args.p c.wait_for.ensures.kept c.requires.statement

pub returns-in-Ok-clause-steps : goal.returns-in-Ok-clause-steps
returns-in-Ok-clause-steps c d i h there = steps_after d c.args.p i _ _ there c.args.k.now c.wait_for.new.k (λ r. put r skip) c.in-Ok.ensures.moves c.pass.new.k c.pass.ensures.steps h
