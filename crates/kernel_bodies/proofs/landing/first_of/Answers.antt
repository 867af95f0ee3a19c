use Rattle.std.proofs.Common.{refl, sym, ap}
use Rattle.std.specs.Prelude.{is_some}
use Rattle.sim_model.specs.FlatDesign.Code.{arena_of, block_at}
use Rattle.sim_model.specs.Residual.{statements}
use Rattle.kernel_bodies.proofs.Blocks.{rest_some, rest_none, contains_at}
use Rattle.kernel_bodies.proofs.landing.first_of.Goals as goal

pub returns-in-Some-clause-value : goal.returns-in-Some-clause-value
returns-in-Some-clause-value c = ap statements (rest_some (block_at (arena_of c.args.program.now.code) c.args.cursor.block) c.args.cursor.place c.in-Some.statement (sym c.in-Some.ensures.found))

pub returns-in-Some-clause-of_block : goal.returns-in-Some-clause-of_block
returns-in-Some-clause-of_block c = (refl, contains_at (block_at (arena_of c.args.program.now.code) c.args.cursor.block) c.args.cursor.place c.in-Some.statement (sym c.in-Some.ensures.found))

pub returns-in-None-clause-value : goal.returns-in-None-clause-value
returns-in-None-clause-value c = ap statements (rest_none (block_at (arena_of c.args.program.now.code) c.args.cursor.block) c.args.cursor.place (sym c.in-None.ensures.found))

pub returns-in-Some-clause-any : goal.returns-in-Some-clause-any
returns-in-Some-clause-any c = ap is_some c.in-Some.ensures.found

pub returns-in-None-clause-any : goal.returns-in-None-clause-any
returns-in-None-clause-any c = ap is_some c.in-None.ensures.found
