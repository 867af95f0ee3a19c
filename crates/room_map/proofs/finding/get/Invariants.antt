use Rattle.room_map.specs.Shape.{Shape, entries}
use Rattle.room_map.specs.Nodes.{Under, height_at}
use Rattle.room_map.specs.Entries.{IsRising}
use Rattle.room_map.proofs.Looks.{IsSought}
use Rattle.room_map.proofs.finding.get.Given as goal

abbrev pub invariant-descending : goal.invariant-descending
invariant-descending g l = record {
  hangs : (t : Shape g.row.K.Denot g.row.V.Denot) × Under l.nodes l.link t;
  sought : (t : Shape g.row.K.Denot g.row.V.Denot) → Under l.nodes l.at t → IsRising g.K.Ord.cmp (entries t) → IsSought g.K.Ord.cmp l.nodes l.link l.key (entries t);
}

abbrev pub decreases-descending : goal.decreases-descending
decreases-descending g l = height_at l.nodes l.link
