use Rattle.std.proofs.Common.{◌-◌, sym, ◌∙◌, arith}
use Rattle.sim_model.specs.FlatDesign.Code.{arena_of}
use Rattle.kernel_bodies.specs.Sought.{is_handling}
use Rattle.kernel_bodies.proofs.Seeking.{last_there}
use Rattle.kernel_bodies.proofs.sought.last_try.Goals as goal

pub returns-then-is_handling-clause-last : goal.returns-then-is_handling-clause-last
returns-then-is_handling-clause-last c = last_there (is_handling (arena_of c.args.program.now.code) c.args.name) c.args.blocks.now c.loop-place.place (c.loop-place.place - 1) _ (omega arith) (omega arith) c.loop-place.invariant.none (sym c.is_handling.ensures ∙ c.if-is_handling.true)
