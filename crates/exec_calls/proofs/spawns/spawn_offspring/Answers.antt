use Rattle.exec_calls.proofs.Bearing.{statement_still, top_still}
use Rattle.exec_calls.proofs.SpawnHanding.{offspring_steps}
use Rattle.exec_calls.proofs.spawns.spawn_offspring.Goals as goal

pub keep_handle-requires-clause-top : goal.keep_handle-requires-clause-top
keep_handle-requires-clause-top c = top_still c.args.k.now c.spawn.new.k c.args.p c.spawn.ensures.stack c.requires.top

pub keep_handle-requires-clause-statement : goal.keep_handle-requires-clause-statement
keep_handle-requires-clause-statement c = statement_still c.args.k.now c.spawn.new.k c.args.p c.spawn.ensures.program (c.spawn.ensures.others c.args.p c.top_lives.ensures) c.requires.statement

pub returns-in-Ok-clause-steps : goal.returns-in-Ok-clause-steps
returns-in-Ok-clause-steps c = offspring_steps c.args.k.now c.spawn.new.k c.args.p c.args.handle c.args.o c.in-Ok.serial c.in-Ok.ensures.serial c.in-Ok.ensures.spawned c.keep_handle.new.k c.keep_handle.ensures.steps
