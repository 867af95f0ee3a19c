use Rattle.std.proofs.Common.{◌-◌, length}
use Rattle.elaborate_objects.specs.Marks.{count_of, KeepsSettled}
use Rattle.elaborate_objects.proofs.settled.settle.Given as goal

abbrev pub invariant-loop : goal.invariant-loop
invariant-loop l = KeepsSettled l.made l.initial.marks l.marks

abbrev pub decreases-loop : goal.decreases-loop
decreases-loop l = length l.marks - count_of l.marks
