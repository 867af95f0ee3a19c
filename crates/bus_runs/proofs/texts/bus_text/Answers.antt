use Rattle.bus_router.specs.Times.{row_at}
use Rattle.bus_runs.proofs.Live.{all_live}
use Rattle.bus_runs.proofs.texts.bus_text.Goals as goal

pub text_of-requires-clause-live : goal.text_of-requires-clause-live
text_of-requires-clause-live c = all_live c.args.bus.now (row_at c.args.run.now.rows) c.args.run.now.pool c.requires.ran.answers
