use Rattle.std.proofs.Common.{◌≡◌, ◌≤◌, length, drop, Some}
use Rattle.std.specs.Prelude.{slice_get, slice_set}
use Rattle.wait_lists.specs.Shown.{Shown}
use Rattle.wait_lists.specs.Layout.{IsSound, shown_by}
use Rattle.wait_lists.proofs.layout.list_events.Given as goal

abbrev pub invariant-loop-k : goal.invariant-loop-k
invariant-loop-k l = record {
  sound : IsSound l.kept;
  places : l.kept.places ≡ l.initial.kept.places;
  len : length l.kept.waiters.items ≡ length l.initial.kept.waiters.items;
  within : l.k ≤ length l.list;
  left : (s : Shown) → slice_get (shown_by l.initial.kept) l.at ≡ Some s → shown_by l.kept ≡ slice_set (shown_by l.initial.kept) l.at (record s { events = drop l.k l.list });
}

abbrev pub decreases-loop-k : goal.decreases-loop-k
decreases-loop-k l = l.k
