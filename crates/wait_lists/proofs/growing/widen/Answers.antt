use Rattle.std.proofs.Common.{◌≡◌, ◌+◌, ◌-◌, ◌<◌, ◌≤◌, max, set, length, Some, refl, sym, ap, ◌∙◌, arith}
use Rattle.std.specs.Prelude.{slice_get}
use Rattle.std.specs.Ordering.{nat_cmp}
use Rattle.std.specs.FinMap as map
use Rattle.std.proofs.lemmas.List.{length-set}
use Rattle.wait_lists.specs.declared.waiter.Waiter.{Waiter}
use Rattle.wait_lists.specs.Waits.{with_room, room_for}
use Rattle.wait_lists.specs.Shown.{waits_of}
use Rattle.wait_lists.specs.Nodes.{shown_of}
use Rattle.wait_lists.specs.Layout.{shown_by, waits_by}
use Rattle.wait_lists.proofs.Changes.{wide_already, changed-room, room_for-told}
use Rattle.wait_lists.proofs.Refit.{get-inside, shown-at, seats-set}
use Rattle.wait_lists.proofs.Rewritten.{refit-waiter}
use Rattle.wait_lists.proofs.Written.{shown-kind}
use Rattle.wait_lists.proofs.Seated.{seat-within, seat-serial}
use Rattle.wait_lists.proofs.growing.widen.Goals as goal

pub room_at-room-requires : goal.room_at-room-requires
room_at-room-requires c = seat-within c.args.kept.now c.requires.sound c.args.p c.args.at c.requires.place

pub returns-then-items-room-clause-ok : goal.returns-then-items-room-clause-ok
returns-then-items-room-clause-ok c =
    let k = c.args.kept.now in
    let own = get-inside k.waiters.items c.args.at (seat-within k c.requires.sound c.args.p c.args.at c.requires.place) in
    let here = shown-at k.nodes.items k.waiters.items c.args.at own.0 own.1 in
    let s = shown_of k.nodes.items own.0 in
    wide_already k.places.entries (shown_by k) c.requires.sound.0.seats.placed c.args.p c.args.at s s c.requires.place here (max c.args.items (room_for (waits_by k) c.args.p))
    (omega (arith, room_for-told k.places.entries (shown_by k) c.requires.sound.0.seats.placed c.args.p c.args.at s s c.requires.place here, c.room_at-room.ensures own.0 own.1, c.if-items-room.true))

pub set_room-requires : goal.set_room-requires
set_room-requires c =
    let inside : c.args.at < length c.args.kept.now.waiters.items = seat-within c.args.kept.now c.requires.sound c.args.p c.args.at c.requires.place in
    omega (arith, ap (λ v. length v.items) c.make_nodes.ensures.waiters)

pub returns-clause-sound : goal.returns-clause-sound
returns-clause-sound c =
    let k = c.args.kept.now in
    let n = c.make_nodes.new.kept in
    let place : map.find nat_cmp c.args.p n.places.entries ≡ Some c.args.at = ap (λ r. map.find nat_cmp c.args.p r.entries) c.make_nodes.ensures.places ∙ c.requires.place in
    let inside : c.args.at < length n.waiters.items = seat-within n c.make_nodes.ensures.sound c.args.p c.args.at place in
    let own = get-inside n.waiters.items c.args.at inside in
    let here = shown-at n.nodes.items n.waiters.items c.args.at own.0 own.1 in
    let s = shown_of n.nodes.items own.0 in
    let new : Waiter = record own.0 { room = c.args.items } in
    let is = c.set_room.ensures own.0 own.1 in
    let read : c.room_at-room.result ≡ own.0.room = c.room_at-room.ensures own.0 (ap (λ v. slice_get v.items c.args.at) (sym c.make_nodes.ensures.waiters) ∙ own.1) in
    let held : length s.events ≤ own.0.room = c.make_nodes.ensures.sound.0.sums.fits c.args.at s here in
    let enough : k.total + (c.args.items - c.room_at-room.result) ≤ length n.nodes.items = c.in_ok-make_nodes.ensures.ok in (
      refit-waiter n.places.entries n.places.entries n.waiters.items c.set_room.new.waiters.items n.vacant.items n.vacant.items n.nodes.items n.heads.events n.heads.free n.total (n.total + c.from.result)
          c.make_nodes.ensures.sound.0 c.args.at own.0 new own.1 is refl
          (seats-set n.places.entries (shown_by n) (set (shown_by n) c.args.at (shown_of n.nodes.items new)) n.vacant.items c.make_nodes.ensures.sound.0.seats c.args.at s (shown_of n.nodes.items new) here refl refl
          (λ some. ap (λ q. map.find nat_cmp q n.places.entries) (seat-serial n c.make_nodes.ensures.sound c.args.p c.args.at place s here) ∙ place)
          (λ empty. absurd ((c.make_nodes.ensures.sound.0.seats.vacated c.args.at empty).3 c.args.p place)))
          (omega (arith, c.if-items-room.false)) (omega (arith, c.from.ensures, c.if-items-room.false)) (omega (arith, c.from.ensures, c.make_nodes.ensures.total)),
      omega (arith, c.make_nodes.ensures.sound.1, ap length is, length-set n.waiters.items c.args.at new),
    )

pub returns-clause-ok : goal.returns-clause-ok
returns-clause-ok c =
    let k = c.args.kept.now in
    let n = c.make_nodes.new.kept in
    let place : map.find nat_cmp c.args.p n.places.entries ≡ Some c.args.at = ap (λ r. map.find nat_cmp c.args.p r.entries) c.make_nodes.ensures.places ∙ c.requires.place in
    let own = get-inside n.waiters.items c.args.at (seat-within n c.make_nodes.ensures.sound c.args.p c.args.at place) in
    let here = shown-at n.nodes.items n.waiters.items c.args.at own.0 own.1 in
    let s = shown_of n.nodes.items own.0 in
    let new : Waiter = record own.0 { room = c.args.items } in
    let read : c.room_at-room.result ≡ own.0.room = c.room_at-room.ensures own.0 (ap (λ v. slice_get v.items c.args.at) (sym c.make_nodes.ensures.waiters) ∙ own.1) in
    let same : waits_by n ≡ waits_by k = (λ i. waits_of (c.make_nodes.ensures.shown i) (c.make_nodes.ensures.places i).entries) in
    let wide : max c.args.items (room_for (waits_by k) c.args.p) ≡ c.args.items = omega (
      arith,
      ap (λ w. room_for w c.args.p) same,
      room_for-told n.places.entries (shown_by n) c.make_nodes.ensures.sound.0.seats.placed c.args.p c.args.at s s place here,
      read,
      c.if-items-room.false,
    ) in
    ap (λ l. waits_of l n.places.entries) (shown-kind n.waiters.items c.set_room.new.waiters.items n.nodes.items c.args.at new (c.set_room.ensures own.0 own.1))
    ∙ changed-room n.places.entries (shown_by n) c.make_nodes.ensures.sound.0.seats.placed c.args.p c.args.at s (shown_of n.nodes.items new) place here c.args.items refl
    ∙ ap (λ w. with_room w c.args.p c.args.items) same ∙ ap (with_room (waits_by k) c.args.p) (sym wide)
