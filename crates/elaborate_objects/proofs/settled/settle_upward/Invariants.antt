use Rattle.std.specs.Bool.{MatchBool}
use Rattle.std.proofs.Common.{◌<◌, ◌≤◌}
use Rattle.elaborate_objects.specs.Marks.{count_of, KeepsSettled}
use Rattle.elaborate_objects.proofs.settled.settle_upward.Given as goal

abbrev pub invariant-loop-k : goal.invariant-loop-k
invariant-loop-k l = record {
  counted : MatchBool l.more (count_of l.initial.marks < count_of l.marks) (count_of l.initial.marks ≤ count_of l.marks);
  settled : KeepsSettled l.made l.initial.marks l.marks;
}
