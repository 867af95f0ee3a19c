use Rattle.run_input.proofs.judging.read_model.Goals as goal

pub returns-in-Err-Syntax-clause-fault : goal.returns-in-Err-Syntax-clause-fault
returns-in-Err-Syntax-clause-fault c = λ m reads. let only = c.in-Err-Syntax.ensures.only m reads in cc (only, c.in-Err-Syntax.field-0-is)
