use Rattle.run_input.proofs.loading.load_replay.Goals as goal

pub returns-in-Err-clause-no_more : goal.returns-in-Err-clause-no_more
returns-in-Err-clause-no_more g c = rw c.in-Some.is c.in-Err.ensures.no_more
