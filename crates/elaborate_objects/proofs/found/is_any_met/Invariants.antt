use Rattle.std.proofs.Common.{◌≡◌, drop}
use Rattle.std.specs.List.{list_any}
use Rattle.elaborate_objects.specs.Marks.{meets}
use Rattle.elaborate_objects.proofs.found.is_any_met.Given as goal

abbrev pub invariant-loop-x : goal.invariant-loop-x
invariant-loop-x l = list_any (meets l.place l.marks) l.made ≡ list_any (meets l.place l.marks) (drop l.x-index l.made)
