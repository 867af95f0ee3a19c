use Rattle.std.proofs.Common.{◌-◌, sym, ◌∙◌, arith}
use Rattle.sim_model.specs.FlatDesign.Code.{arena_of}
use Rattle.kernel_bodies.specs.Sought.{has_handler}
use Rattle.kernel_bodies.proofs.Seeking.{last_at}
use Rattle.kernel_bodies.proofs.sought.last_handler.Goals as goal

pub returns-then-has_handler-clause-last : goal.returns-then-has_handler-clause-last
returns-then-has_handler-clause-last c =
    last_at (has_handler (arena_of c.args.program.now.code) c.args.name) c.args.frames.now c.loop-place.place (c.loop-place.place - 1) c.index-frames-place.result (omega arith) (omega arith) c.index-frames-place.is (sym c.has_handler.ensures ∙ c.if-has_handler.true) c.loop-place.invariant.none
