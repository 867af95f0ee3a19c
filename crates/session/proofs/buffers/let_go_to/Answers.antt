use Rattle.session.proofs.Texts.{sink_goes}
use Rattle.session.proofs.buffers.let_go_to.Goals as goal

pub returns-clause-goes : goal.returns-clause-goes
returns-clause-goes g c = sink_goes _ _ c.args.held.now c.flush.result c.flush.ensures.took
