use Rattle.std.proofs.Common.{◌≡◌, ◌+◌, ◌-◌, ◌≤◌, length}
use Rattle.std.specs.Prelude.{vec_capacity}
use Rattle.wait_lists.specs.Layout.{IsSound, shown_by}
use Rattle.wait_lists.proofs.growing.make_nodes.Given as goal

abbrev pub invariant-loop-kept : goal.invariant-loop-kept
invariant-loop-kept l = record {
  sound : IsSound l.kept;
  shown : shown_by l.kept ≡ shown_by l.fn.kept;
  places : l.kept.places ≡ l.fn.kept.places;
  waiters : l.kept.waiters ≡ l.fn.kept.waiters;
  vacant : l.kept.vacant ≡ l.fn.kept.vacant;
  total : l.kept.total ≡ l.fn.kept.total;
  memory : l.wanted ≤ vec_capacity l.kept.nodes;
  room : l.wanted ≤ length l.kept.heads.events.far.entries + l.kept.heads.events.far.spare;
}

abbrev pub decreases-loop-kept : goal.decreases-loop-kept
decreases-loop-kept l = l.wanted - length l.kept.nodes.items
