use Rattle.std.proofs.Common.{◌≡◌, ℕ, ◌+◌, ◌≤◌, set, length, refl, sym, ap, ◌∙◌, subst, arith, ◌-◌}
use Rattle.std.specs.Prelude.{List, vec_len, vec_capacity}
use Rattle.std.specs.Ordering.{nat_cmp}
use Rattle.room_map.specs.Entries.{without}
use Rattle.std.proofs.lemmas.List.{length-set, length-map}
use Rattle.wait_lists.specs.declared.waiter.Waiter.{Waiter}
use Rattle.wait_lists.specs.Nodes.{events_from, shown_of, shown}
use Rattle.wait_lists.specs.Layout.{Seats, shown_by}
use Rattle.wait_lists.proofs.Refit.{get-inside, shown-at, sum-spare}
use Rattle.wait_lists.proofs.Rewritten.{refit-waiter}
use Rattle.wait_lists.proofs.Written.{shown-kind}
use Rattle.wait_lists.proofs.Seated.{seat-within, seats-left, waits-left, vacant-few}
use Rattle.wait_lists.proofs.layout.vacate.Goals as goal

pub room_at-requires : goal.room_at-requires
room_at-requires c = seat-within c.args.kept.now c.requires.sound c.args.p c.args.at c.requires.place

pub set_room-requires : goal.set_room-requires
set_room-requires c = seat-within c.args.kept.now c.requires.sound c.args.p c.args.at c.requires.place

pub overflow_sub-kept : goal.overflow_sub-kept
overflow_sub-kept c =
    let k = c.args.kept.now in
    let own = get-inside k.waiters.items c.args.at (seat-within k c.requires.sound c.args.p c.args.at c.requires.place) in
    let here = shown-at k.nodes.items k.waiters.items c.args.at own.0 own.1 in
    omega (
      arith,
      c.requires.sound.0.sums.in_all,
      sum-spare (shown_by k) c.args.at (shown_of k.nodes.items own.0) here c.requires.sound.0.sums.fits,
      ap length (c.requires.free (shown_of k.nodes.items own.0) here),
      c.room_at.ensures own.0 own.1,
    )

pub push_reserved-requires : goal.push_reserved-requires
push_reserved-requires c =
    let k = c.args.kept.now in
    let own = get-inside k.waiters.items c.args.at (seat-within k c.requires.sound c.args.p c.args.at c.requires.place) in
    let here = shown-at k.nodes.items k.waiters.items c.args.at own.0 own.1 in
    let s = shown_of k.nodes.items own.0 in
    let few : length k.vacant.items + 1 ≤ length (shown_by k) =
    vacant-few k.places.entries (without nat_cmp c.args.p k.places.entries) (shown_by k) (set (shown_by k) c.args.at (record s { room = 0 })) k.vacant.items c.requires.sound.0.seats c.args.p c.args.at c.requires.place s (record s { room = 0 }) here refl refl refl in
    let same : length (shown_by k) ≡ length k.waiters.items = length-map k.waiters.items (λ (w : Waiter). shown_of k.nodes.items w) in
    let held : length k.waiters.items ≤ vec_capacity k.vacant = c.requires.sound.1 in
    let len : vec_len k.vacant ≡ length k.vacant.items = k.vacant.ok.0 in
    omega arith

pub returns-clause-sound : goal.returns-clause-sound
returns-clause-sound c =
    let k = c.args.kept.now in
    let own = get-inside k.waiters.items c.args.at (seat-within k c.requires.sound c.args.p c.args.at c.requires.place) in
    let here = shown-at k.nodes.items k.waiters.items c.args.at own.0 own.1 in
    let s = shown_of k.nodes.items own.0 in
    let new : Waiter = record own.0 { room = 0 } in
    let is = c.set_room.ensures own.0 own.1 in
    let seats = seats-left k.places.entries c.remove.new.self.entries (shown_by k) (set (shown_by k) c.args.at (shown_of k.nodes.items new)) k.vacant.items c.requires.sound.0.seats c.args.p c.args.at c.requires.place s (shown_of k.nodes.items new) here refl c.remove.ensures.entries refl in
    let P : List ℕ → Type 0 = λ l. Seats c.remove.new.self.entries (set (shown_by k) c.args.at (shown_of k.nodes.items new)) l in
    let none_left : length (events_from k.nodes.items own.0.first) ≡ 0 = ap length (c.requires.free s here) in
    let read : c.from.result ≡ own.0.room = c.from.ensures ∙ c.room_at.ensures own.0 own.1 in
    let spare : own.0.room ≤ k.total = omega (arith, c.requires.sound.0.sums.in_all, sum-spare (shown_by k) c.args.at s here c.requires.sound.0.sums.fits, ap length (c.requires.free s here)) in
    let enough : k.total ≤ length k.nodes.items = c.requires.sound.0.sums.enough in (
      refit-waiter k.places.entries c.remove.new.self.entries k.waiters.items c.set_room.new.waiters.items k.vacant.items c.push_reserved.new.self.items k.nodes.items k.heads.events k.heads.free k.total (k.total - c.from.result)
          c.requires.sound.0 c.args.at own.0 new own.1 is refl (subst P (sym c.push_reserved.ensures.items) seats) (omega arith) (omega arith) (omega arith),
      omega (arith, c.requires.sound.1, ap length is, length-set k.waiters.items c.args.at new, c.push_reserved.ensures.capacity),
    )

pub returns-clause-waits : goal.returns-clause-waits
returns-clause-waits c =
    let k = c.args.kept.now in
    let own = get-inside k.waiters.items c.args.at (seat-within k c.requires.sound c.args.p c.args.at c.requires.place) in
    let here = shown-at k.nodes.items k.waiters.items c.args.at own.0 own.1 in
    let new : Waiter = record own.0 { room = 0 } in
    let is = c.set_room.ensures own.0 own.1 in
    waits-left k.places.entries c.remove.new.self.entries (shown_by k) (shown k.nodes.items c.set_room.new.waiters.items) k.vacant.items c.requires.sound.0.seats c.args.p c.args.at c.requires.place
    (shown_of k.nodes.items own.0) (shown_of k.nodes.items new) here (shown-kind k.waiters.items c.set_room.new.waiters.items k.nodes.items c.args.at new is) c.remove.ensures.entries refl
