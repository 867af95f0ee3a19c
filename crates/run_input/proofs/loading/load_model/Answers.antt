use Rattle.run_input.proofs.Reading.{alone_cause, alone_took}
use Rattle.run_input.proofs.loading.load_model.Goals as goal

pub returns-in-Err-clause-cause : goal.returns-in-Err-clause-cause
returns-in-Err-clause-cause g c = alone_cause _ _ _ _ _ c.in-Err.stop c.in-Err.ensures.files c.in-Err.ensures.cause

pub returns-in-Err-clause-no_more : goal.returns-in-Err-clause-no_more
returns-in-Err-clause-no_more g c = alone_took _ _ _ _ _ _ c.in-Err.stop c.in-Err.ensures.files c.in-Err.ensures.no_more
