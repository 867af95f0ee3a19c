use Rattle.std.proofs.Common.{◌≡◌, drop}
use Rattle.std.specs.Prelude.{find}
use Rattle.elaborate_objects.specs.Marks.{meets}
use Rattle.elaborate_objects.proofs.found.first_met.Given as goal

abbrev pub invariant-loop-x : goal.invariant-loop-x
invariant-loop-x l = find (meets l.place l.marks) l.made ≡ find (meets l.place l.marks) (drop l.x-index l.made)
