use Rattle.std.proofs.Common.{◌≡◌}
use Rattle.std.specs.Prelude.{vec_capacity}
use Rattle.wait_lists.proofs.Going.{Going, to_go}
use Rattle.wait_lists.proofs.firing.strike_each.Given as goal

abbrev pub invariant-loop-i : goal.invariant-loop-i
invariant-loop-i l = record {
  going : Going l.initial.kept l.kept l.fn.e l.code l.initial.out.items l.out.items l.stays l.i;
  capacity : vec_capacity l.out ≡ vec_capacity l.initial.out;
}

abbrev pub decreases-loop-i : goal.decreases-loop-i
decreases-loop-i l = to_go l.kept l.i
