use Rattle.std.proofs.Common.{None, Some, arith}
use Rattle.process_state.proofs.Passed.{end_settled}
use Rattle.process_state.proofs.body.end_of.Goals as goal

pub returns-in-Some-clause-settled : goal.returns-in-Some-clause-settled
returns-in-Some-clause-settled c = λ a. end_settled a c.args.saved.now (Some c.in-Some.field-0) c.if-saved.false (omega (arith, c.if-many-gt0.false, c.args.saved.now.blocks.ok.0)) c.in-Some.is

pub returns-in-None-clause-settled : goal.returns-in-None-clause-settled
returns-in-None-clause-settled c = λ a. end_settled a c.args.saved.now None c.if-saved.false (omega (arith, c.if-many-gt0.false, c.args.saved.now.blocks.ok.0)) c.in-None.is
