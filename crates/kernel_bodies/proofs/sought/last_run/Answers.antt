use Rattle.std.proofs.Common.{◌-◌, sym, ◌∙◌, arith}
use Rattle.kernel_bodies.specs.Sought.{is_run}
use Rattle.kernel_bodies.proofs.Seeking.{last_there}
use Rattle.kernel_bodies.proofs.sought.last_run.Goals as goal

pub returns-then-is_run-clause-last : goal.returns-then-is_run-clause-last
returns-then-is_run-clause-last c = last_there is_run c.args.blocks.now c.loop-place.place (c.loop-place.place - 1) _ (omega arith) (omega arith) c.loop-place.invariant.none (sym c.is_run.ensures ∙ c.if-is_run.true)
