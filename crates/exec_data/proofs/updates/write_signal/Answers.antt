use Rattle.exec_data.proofs.Asking.{written_does, refused_does}
use Rattle.exec_data.proofs.updates.write_signal.Goals as goal

pub returns-in-Ok-clause-does : goal.returns-in-Ok-clause-does
returns-in-Ok-clause-does c = written_does c.args.k.now c.write_signal.new.self c.args.n c.args.p c.args.v c.write_signal.ensures.left c.a_write_is_that_of_a_run.ensures.written c.in-Ok.ensures.ok c.pass.new.k c.pass.ensures.steps

pub returns-in-Err-clause-does : goal.returns-in-Err-clause-does
returns-in-Err-clause-does c = refused_does c.args.k.now c.write_signal.new.self c.args.n c.args.p c.args.v c.write_signal.ensures.left c.a_write_is_that_of_a_run.ensures.refused c.in-Err.conflict c.in-Err.ensures.refused
