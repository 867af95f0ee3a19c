use Rattle.std.proofs.Common.{◌≡◌, ◌+◌, ◌-◌, drop, length}
use Rattle.std.specs.Prelude.{reverse}
use Rattle.kernel_bodies.specs.SimModel.Control as spec
use Rattle.process_bodies.specs.Marks.{Agree}
use Rattle.process_bodies.proofs.parents.with_descendants.Given as goal

-- who is found so far, and the parents that are left, give all
abbrev pub invariant-loop-place : goal.invariant-loop-place
invariant-loop-place l = record {
  size : l.q + length l.marks.items ≡ l.place;
  agree : Agree l.marks.items l.q (reverse l.found.items);
  all : spec.descended l.place (drop l.place l.parents) (reverse l.found.items) ≡ spec.with_descendants l.parents l.q;
}

abbrev pub decreases-loop-place : goal.decreases-loop-place
decreases-loop-place l = length l.parents - l.place
