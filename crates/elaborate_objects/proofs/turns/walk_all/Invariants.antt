use Rattle.std.proofs.Common.{◌≡◌, map}
use Rattle.elaborate_objects.specs.Rows.{row_of}
use Rattle.elaborate_objects.specs.Walks.{whole_of, IsCounted, turns_left}
use Rattle.elaborate_objects.proofs.turns.walk_all.Given as goal

abbrev pub invariant-loop-alloc : goal.invariant-loop-alloc
invariant-loop-alloc l = record {
  whole : whole_of (map (map row_of) l.rows) l.walk.objects l.walk.frames.items ≡ whole_of (map (map row_of) l.rows) l.initial.walk.objects l.initial.walk.frames.items;
  counted : IsCounted l.walk;
}

abbrev pub decreases-loop-alloc : goal.decreases-loop-alloc
decreases-loop-alloc l = turns_left l.walk.objects l.walk.frames.items
