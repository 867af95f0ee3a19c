use Rattle.std.proofs.Common.{◌≡◌, ◌+◌, ◌≤◌, set, length, refl, sym, ap, ◌∙◌, arith}
use Rattle.std.proofs.lemmas.List.{length-set}
use Rattle.std.proofs.lemmas.Option.{slice_get_within}
use Rattle.wait_lists.specs.declared.waiter.Waiter.{Waiter}
use Rattle.wait_lists.specs.Nodes.{events_from, shown_of, shown}
use Rattle.wait_lists.specs.Layout.{shown_by}
use Rattle.wait_lists.proofs.Refit.{shown-at}
use Rattle.wait_lists.proofs.Rewritten.{refit-waiter, no-first}
use Rattle.wait_lists.proofs.Written.{shown-kind}
use Rattle.wait_lists.proofs.Seated.{vacant-waiter, seats-taken, waits-taken}
use Rattle.wait_lists.proofs.growing.take_place.Goals as goal

pub put_waiter-requires : goal.put_waiter-requires
put_waiter-requires c =
    let k = c.args.kept.now in
    let own = vacant-waiter k c.requires.sound c.pop.new.self.items c.in-Some.at c.in-Some.ensures.items in
    slice_get_within k.waiters.items c.in-Some.at own.0 own.1

pub returns-in-Some-clause-sound : goal.returns-in-Some-clause-sound
returns-in-Some-clause-sound c =
    let k = c.args.kept.now in
    let at = c.in-Some.at in
    let new = c.idle_waiter.result in
    let own = vacant-waiter k c.requires.sound c.pop.new.self.items at c.in-Some.ensures.items in
    let here = shown-at k.nodes.items k.waiters.items at own.0 own.1 in
    let first : new.first ≡ own.0.first = ap (λ (w : Waiter). w.first) c.idle_waiter.ensures ∙ sym own.3 in
    let room : new.room ≡ c.args.items = ap (λ (w : Waiter). w.room) c.idle_waiter.ensures in
    let serial : new.serial ≡ c.args.p = ap (λ (w : Waiter). w.serial) c.idle_waiter.ensures in
    let few : length (shown_of k.nodes.items new).events ≤ new.room = omega (arith, ap (λ f. length (events_from k.nodes.items f)) first, ap length (no-first k c.requires.sound.0 at own.0 own.1 own.3)) in
    let seats = seats-taken k.places.entries c.insert.new.self.entries (shown_by k) (set (shown_by k) at (shown_of k.nodes.items new)) k.vacant.items c.pop.new.self.items c.requires.sound.0.seats c.args.p at c.requires.absent (omega arith)
    c.in-Some.ensures.items (shown_of k.nodes.items own.0) (shown_of k.nodes.items new) here refl c.insert.ensures.entries serial in (
      refit-waiter k.places.entries c.insert.new.self.entries k.waiters.items c.put_waiter.new.waiters.items k.vacant.items c.pop.new.self.items k.nodes.items k.heads.events k.heads.free k.total (k.total + c.from.result)
          c.requires.sound.0 at own.0 new own.1 c.put_waiter.ensures first seats few (omega (arith, own.2, room, c.from.ensures)) (omega (arith, c.requires.enough, c.from.ensures)),
      omega (arith, c.requires.sound.1, ap length c.put_waiter.ensures, length-set k.waiters.items at new, c.in-Some.ensures.capacity),
    )

pub returns-in-Some-clause-waits : goal.returns-in-Some-clause-waits
returns-in-Some-clause-waits c =
    let k = c.args.kept.now in
    let at = c.in-Some.at in
    let new = c.idle_waiter.result in
    let own = vacant-waiter k c.requires.sound c.pop.new.self.items at c.in-Some.ensures.items in
    let here = shown-at k.nodes.items k.waiters.items at own.0 own.1 in
    let first : new.first ≡ own.0.first = ap (λ (w : Waiter). w.first) c.idle_waiter.ensures ∙ sym own.3 in
    let room : new.room ≡ c.args.items = ap (λ (w : Waiter). w.room) c.idle_waiter.ensures in
    let serial : new.serial ≡ c.args.p = ap (λ (w : Waiter). w.serial) c.idle_waiter.ensures in
    waits-taken k.places.entries c.insert.new.self.entries (shown_by k) (shown k.nodes.items c.put_waiter.new.waiters.items) k.vacant.items c.pop.new.self.items c.requires.sound.0.seats c.args.p at c.requires.absent (omega arith)
    c.in-Some.ensures.items (shown_of k.nodes.items own.0) (shown_of k.nodes.items new) here (shown-kind k.waiters.items c.put_waiter.new.waiters.items k.nodes.items at new c.put_waiter.ensures) c.insert.ensures.entries serial
    c.args.items room (ap (events_from k.nodes.items) first ∙ no-first k c.requires.sound.0 at own.0 own.1 own.3)
    (ap (λ (w : Waiter). w.is_muted) c.idle_waiter.ensures) (ap (λ (w : Waiter). w.for_all) c.idle_waiter.ensures) (ap (λ (w : Waiter). w.is_over) c.idle_waiter.ensures)
