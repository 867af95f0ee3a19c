use Rattle.std.proofs.Common.{◌-◌, sym, arith}
use Rattle.kernel_bodies.proofs.Leaving.{via_here, via_not}
use Rattle.kernel_bodies.proofs.sought.last_via.Goals as goal

pub returns-in-Some : goal.returns-in-Some
returns-in-Some c =
    via_here c.args.frames.now c.loop-place.place (c.loop-place.place - 1) c.index-frames-place.result (omega arith) (omega arith) c.index-frames-place.is c.loop-place.invariant.same c.in-Some.via (sym c.in-Some.ensures)

pub loop-place-preserved : goal.loop-place-preserved
loop-place-preserved c = record {
  few = omega arith;
  same = via_not c.args.frames.now c.loop-place.place (c.loop-place.place - 1) c.index-frames-place.result (omega arith) (omega arith) c.index-frames-place.is c.loop-place.invariant.same (sym c.in_default.ensures);
}
