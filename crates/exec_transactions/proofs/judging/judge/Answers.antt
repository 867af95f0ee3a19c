use Rattle.exec_transactions.proofs.judging.judge.Goals as goal

pub returns-in-Ok-judge_registered-clause-within : goal.returns-in-Ok-judge_registered-clause-within
returns-in-Ok-judge_registered-clause-within c = λ n within. c.judge_registered.ensures.within n (c.register.ensures.within n within)

pub returns-in-Err-judge_registered-clause-within : goal.returns-in-Err-judge_registered-clause-within
returns-in-Err-judge_registered-clause-within c = λ n within. c.judge_registered.ensures.within n (c.register.ensures.within n within)
