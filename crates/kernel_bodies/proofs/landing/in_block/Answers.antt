use Rattle.std.proofs.Common.{None, Some}
use Rattle.sim_model.specs.FlatDesign.Code.{arena_of}
use Rattle.sim_model.specs.Residual.{one}
use Rattle.kernel_bodies.proofs.Blocks.{rest_fits}
use Rattle.kernel_bodies.proofs.landing.in_block.Goals as goal

pub returns-in-Some-clause-value : goal.returns-in-Some-clause-value
returns-in-Some-clause-value c = c.in-Some.ensures.value (one c.args.statement)

pub returns-in-None-clause-value : goal.returns-in-None-clause-value
returns-in-None-clause-value c = c.in-None.ensures.value (one c.args.statement)

pub returns-in-Some-clause-room : goal.returns-in-Some-clause-room
returns-in-Some-clause-room c = λ d most t i e there h.
    rest_fits (arena_of c.args.program.now.code) c.args.program.now.depths.items c.args.program.now.deep most t i d c.args.rest (Some c.in-Some.rest) c.args.statement c.in-Some.ensures.same e there h

pub returns-in-None-clause-room : goal.returns-in-None-clause-room
returns-in-None-clause-room c = λ d most t i e there h.
    rest_fits (arena_of c.args.program.now.code) c.args.program.now.depths.items c.args.program.now.deep most t i d c.args.rest None c.args.statement tt e there h
