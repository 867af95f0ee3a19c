use Rattle.std.proofs.Common.{◌-◌, arith}
use Rattle.kernel_bodies.proofs.Leaving.{left_here, left_later, left_not}
use Rattle.kernel_bodies.proofs.unwinding.left_by.Goals as goal

pub returns-then-more-eq0-clause-value : goal.returns-then-more-eq0-clause-value
returns-then-more-eq0-clause-value c =
    left_here c.args.frames.now c.loop-place.place (c.loop-place.place - 1) c.args.number c.loop-place.more c.index-frames-place.result (omega arith) (omega arith) c.index-frames-place.is c.loop-place.invariant.same c.in-Some.via c.in-Some.ensures c.if-more-eq0.true

pub loop-place-preserved-in-Some : goal.loop-place-preserved-in-Some
loop-place-preserved-in-Some c = record {
  few = omega arith;
  seen = omega arith;
  same = left_later c.args.frames.now c.loop-place.place (c.loop-place.place - 1) c.args.number c.loop-place.more c.index-frames-place.result (omega arith) (omega arith) c.index-frames-place.is c.loop-place.invariant.same c.in-Some.via (c.loop-place.more - 1) c.in-Some.ensures (omega arith);
}

pub loop-place-preserved : goal.loop-place-preserved
loop-place-preserved c = record {
  few = omega arith;
  seen = omega arith;
  same = left_not c.args.frames.now c.loop-place.place (c.loop-place.place - 1) c.args.number c.loop-place.more c.index-frames-place.result (omega arith) (omega arith) c.index-frames-place.is c.loop-place.invariant.same c.in_default.ensures;
}
