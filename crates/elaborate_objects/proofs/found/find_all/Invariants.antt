use Rattle.std.proofs.Common.{◌-◌, length}
use Rattle.elaborate_objects.specs.Marks.{count_of, KeepsFound}
use Rattle.elaborate_objects.proofs.found.find_all.Given as goal

abbrev pub invariant-loop : goal.invariant-loop
invariant-loop l = KeepsFound l.made l.place l.initial.marks l.marks

abbrev pub decreases-loop : goal.decreases-loop
decreases-loop l = length l.marks - count_of l.marks
