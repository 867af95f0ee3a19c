use Rattle.std.proofs.Common.{◌≡◌, length, Some}
use Rattle.std.specs.Prelude.{slice_get, slice_set, List}
use Rattle.event_core.specs.declared.event.Ev.{Ev}
use Rattle.wait_lists.specs.declared.waiter.Waiter.{Waiter}
use Rattle.wait_lists.specs.Shown.{Shown, events_of}
use Rattle.wait_lists.specs.Layout.{IsSound, IsCutAt, shown_by}
use Rattle.wait_lists.proofs.layout.clear_wait.Given as goal

abbrev pub invariant-loop-first : goal.invariant-loop-first
invariant-loop-first l = record {
  sound : IsSound l.kept;
  places : l.kept.places ≡ l.initial.kept.places;
  vacant : l.kept.vacant ≡ l.initial.kept.vacant;
  total : l.kept.total ≡ l.initial.kept.total;
  len : length l.kept.waiters.items ≡ length l.initial.kept.waiters.items;
  left : (s : Shown) → slice_get (shown_by l.initial.kept) l.at ≡ Some s → (evs : List Ev) × (shown_by l.kept ≡ slice_set (shown_by l.initial.kept) l.at (record s { events = evs }));
  first_is : (w : Waiter) → slice_get l.kept.waiters.items l.at ≡ Some w → l.first ≡ w.first;
  cut : IsCutAt l.initial.kept l.kept l.at;
}

abbrev pub decreases-loop-first : goal.decreases-loop-first
decreases-loop-first l = length (events_of (slice_get (shown_by l.kept) l.at))
