use Rattle.std.proofs.Common.{◌-◌, sym, ◌∙◌, arith}
use Rattle.kernel_bodies.specs.Sought.{is_exit}
use Rattle.kernel_bodies.proofs.Seeking.{last_at}
use Rattle.kernel_bodies.proofs.sought.last_exit.Goals as goal

pub returns-then-is_exit-clause-last : goal.returns-then-is_exit-clause-last
returns-then-is_exit-clause-last c =
    last_at is_exit c.args.frames.now c.loop-place.place (c.loop-place.place - 1) c.index-frames-place.result (omega arith) (omega arith) c.index-frames-place.is (sym c.is_exit.ensures ∙ c.if-is_exit.true) c.loop-place.invariant.none
