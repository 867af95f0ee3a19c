use Rattle.std.proofs.Common.{◌≡◌, length, ap, arith, [], ◌∷◌}
use Rattle.std.proofs.lemmas.List.{length-append}
use Rattle.wait_lists.specs.declared.waiter.Waiter.{Waiter}
use Rattle.wait_lists.proofs.Grown.{place-fit, place-waits}
use Rattle.wait_lists.proofs.growing.add_place.Goals as goal

pub returns-clause-sound : goal.returns-clause-sound
returns-clause-sound c =
    let k = c.args.kept.now in
    let at_is : c.len-at.result ≡ length k.waiters.items = omega (arith, c.len-at.ensures, k.waiters.ok.0) in (
      place-fit k.places.entries k.waiters.items c.push_reserved.new.self.items k.vacant.items c.push_reserved-2.new.self.items k.nodes.items k.heads.events k.heads.free k.total c.requires.sound.0
          c.idle_waiter.result (ap (λ (w : Waiter). w.first) c.idle_waiter.ensures) (ap (λ (w : Waiter). w.room) c.idle_waiter.ensures) c.requires.taken c.requires.few c.len-at.result at_is
          c.push_reserved.ensures.items c.push_reserved-2.ensures.items,
      omega (arith, ap length c.push_reserved.ensures.items, length-append k.waiters.items (c.idle_waiter.result ∷ []), c.requires.room, c.push_reserved-2.ensures.capacity),
    )

pub returns-clause-waits : goal.returns-clause-waits
returns-clause-waits c =
    let k = c.args.kept.now in
    let at_is : c.len-at.result ≡ length k.waiters.items = omega (arith, c.len-at.ensures, k.waiters.ok.0) in
    place-waits k.places.entries k.waiters.items c.push_reserved.new.self.items k.vacant.items c.push_reserved-2.new.self.items k.nodes.items k.heads.events k.heads.free k.total c.requires.sound.0
    c.idle_waiter.result (ap (λ (w : Waiter). w.first) c.idle_waiter.ensures) (ap (λ (w : Waiter). w.room) c.idle_waiter.ensures) c.requires.taken c.requires.few c.len-at.result at_is
    c.push_reserved.ensures.items c.push_reserved-2.ensures.items
