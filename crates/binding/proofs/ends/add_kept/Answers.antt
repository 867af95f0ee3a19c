use Rattle.std.proofs.Common.{length, ap, arith}
use Rattle.binding.proofs.Lists.{front_full, front_all}
use Rattle.binding.proofs.ends.add_kept.Goals as goal

pub returns-then-as_slice-ge-KEPT : goal.returns-then-as_slice-ge-KEPT
returns-then-as_slice-ge-KEPT c =
    let long = ap length c.as_slice.ensures in
    front_full 65 c.loop-end.end-index c.loop-end.found c.args.found.now c.args.ends.now c.loop-end.invariant.so_far (omega arith)

pub returns : goal.returns
returns c = front_all 65 c.loop-end.end-index c.loop-end.found c.args.found.now c.args.ends.now c.loop-end.invariant.so_far (omega arith) c.loop-end.invariant.few
