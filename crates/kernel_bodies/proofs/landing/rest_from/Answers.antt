use Rattle.std.proofs.Common.{sym, ap}
use Rattle.sim_model.specs.FlatDesign.Code.{arena_of, block_at}
use Rattle.sim_model.specs.Residual.{followed}
use Rattle.kernel_bodies.proofs.Blocks.{rest_none}
use Rattle.kernel_bodies.proofs.landing.rest_from.Goals as goal

pub returns-in-None-clause-value : goal.returns-in-None-clause-value
returns-in-None-clause-value c = λ r. ap (followed r) (sym (rest_none (block_at (arena_of c.args.program.now.code) c.args.cursor.block) c.args.cursor.place (sym c.in-None.ensures.found)))
