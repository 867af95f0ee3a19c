use Rattle.std.proofs.Common.{◌≡◌, ◌-◌, ◌<◌, cond, Some, None, sym, ap, ◌∙◌, subst, ⊎_elim, arith, true≢false}
use Rattle.std.specs.Prelude.{is_some}
use Rattle.std.specs.Ordering.{nat_cmp}
use Rattle.std.specs.FinMap as map
use Rattle.std.specs.FinMap.{find}
use Rattle.timed_queue.specs.Timed.{with_time}
use Rattle.timed_queue.specs.Layout.{times_of}
use Rattle.timed_queue.proofs.QueueLaws.{one_name, apart_free, queue_same, queue_renewed, queue_added, finds_put, finds_itself, times_put, has-times_of}
use Rattle.timed_queue.proofs.queue.Queue.set.Goals as goal

pub renew-requires-clause-entry : goal.renew-requires-clause-entry
renew-requires-clause-entry c =
    let queue = queue_same c.self.inside.index.entries c.self.inside.wheel c.lower.new.self c.self.invariant.0 c.lower.ensures.sound c.lower.ensures.settled c.lower.ensures.same in
    (queue.found c.args.name c.in-Some.i (sym c.get.ensures.value ∙ c.in-Some.is)).0

pub invariant_of-self : goal.invariant_of-self
invariant_of-self c =
    let es = c.self.inside.index.entries in let room = c.self.invariant.1 in let enough = room.enough in
    let queue = queue_same es c.self.inside.wheel c.lower.new.self c.self.invariant.0 c.lower.ensures.sound c.lower.ensures.settled c.lower.ensures.same in
    let there : find nat_cmp c.args.name es ≡ Some c.in-Some.i = sym c.get.ensures.value ∙ c.in-Some.is in
    let a = c.lower.ensures.room in let b = c.renew.ensures.room in (
      queue_renewed es c.lower.new.self c.renew.new.self queue c.args.name c.in-Some.i c.renew.ensures.sound c.renew.ensures.settled c.renew.ensures.others c.args.t.0 there c.renew.ensures.holds,
      record { enough = omega (arith, a, b, enough); few = room.few },
    )

pub returns-in-Some : goal.returns-in-Some
returns-in-Some c =
    let es = c.self.inside.index.entries in let w = c.self.inside.wheel in let w' = c.renew.new.self in
    let queue = queue_same es w c.lower.new.self c.self.invariant.0 c.lower.ensures.sound c.lower.ensures.settled c.lower.ensures.same in
    let there : find nat_cmp c.args.name es ≡ Some c.in-Some.i = sym c.get.ensures.value ∙ c.in-Some.is in
    let has = has-times_of es w.nodes.items c.args.name ∙ ap is_some there in
    let spare : w'.room ≡ cond (map.contains_key (times_of es w.nodes.items) c.args.name) w.room (w.room - 1) =
    c.renew.ensures.room ∙ c.lower.ensures.room ∙ ap (λ b. cond b w.room (w.room - 1)) (sym has) in
    (λ k. record {
      times = times_put es w.nodes.items w'.nodes.items es c.args.name
          (λ q j apart e. c.renew.ensures.others.times j (one_name es c.lower.new.self w' queue c.args.name c.in-Some.i c.renew.ensures.sound c.renew.ensures.settled c.renew.ensures.others there q j e apart)
          ∙ c.lower.ensures.same.times j)
          c.in-Some.i c.args.t.0 (finds_itself c.args.name c.in-Some.i es there) c.renew.ensures.holds.timed k;
      spare = spare k;
    }) ∙ ap (λ q. with_time q c.args.name c.args.t) c.self.view_is

pub add-i-requires-clause-some : goal.add-i-requires-clause-some
add-i-requires-clause-some c =
    let r = c.lower.ensures.room in
    let some : 0 < c.self.inside.wheel.room = ⊎_elim
    (λ there. absurd (true≢false (sym there ∙ ap (λ q. map.contains_key q.times c.args.name) (sym c.self.view_is) ∙ has-times_of c.self.inside.index.entries c.self.inside.wheel.nodes.items c.args.name
    ∙ ap is_some (sym c.get.ensures.value ∙ c.in-None.is))))
    (λ room. subst (λ n. 0 < n) (sym (ap (λ q. q.spare) c.self.view_is)) room)
    c.requires in
    omega (arith, r, some)

pub invariant_of-self-in-None : goal.invariant_of-self-in-None
invariant_of-self-in-None c =
    let es = c.self.inside.index.entries in let room = c.self.invariant.1 in let enough = room.enough in let few = room.few in
    let queue = queue_same es c.self.inside.wheel c.lower.new.self c.self.invariant.0 c.lower.ensures.sound c.lower.ensures.settled c.lower.ensures.same in
    let none : find nat_cmp c.args.name es ≡ None = sym c.get.ensures.value ∙ c.in-None.is in
    let a = c.lower.ensures.room in let b = c.add-i.ensures.room in (
      queue_added es c.lower.new.self c.add-i.new.self queue c.args.name c.add-i.result c.add-i.ensures.sound c.add-i.ensures.settled c.add-i.ensures.others c.insert.new.self.entries c.insert.ensures.rising
          c.args.t.0 (λ q. ap (find nat_cmp q) c.insert.ensures.entries ∙ finds_put c.args.name c.add-i.result es q) none c.add-i.ensures.was c.add-i.ensures.holds,
      record { enough = omega (arith, a, b, enough, c.insert.ensures.takes_one); few = omega (arith, few, c.insert.ensures.takes_one, c.insert.ensures.one_more) },
    )

pub returns-in-None : goal.returns-in-None
returns-in-None c =
    let es = c.self.inside.index.entries in let w = c.self.inside.wheel in let w' = c.add-i.new.self in
    let queue = queue_same es w c.lower.new.self c.self.invariant.0 c.lower.ensures.sound c.lower.ensures.settled c.lower.ensures.same in
    let none : find nat_cmp c.args.name es ≡ None = sym c.get.ensures.value ∙ c.in-None.is in
    let has = has-times_of es w.nodes.items c.args.name ∙ ap is_some none in
    let a = c.lower.ensures.room in let b = c.add-i.ensures.room in
    let less : w'.room ≡ w.room - 1 = omega (arith, a, b) in
    let spare : w'.room ≡ cond (map.contains_key (times_of es w.nodes.items) c.args.name) w.room (w.room - 1) = less ∙ ap (λ b. cond b w.room (w.room - 1)) (sym has) in
    (λ k. record {
      times = times_put es w.nodes.items w'.nodes.items c.insert.new.self.entries c.args.name
          (λ q j apart e. c.add-i.ensures.others.times j (apart_free es c.lower.new.self w' queue c.args.name c.add-i.result c.add-i.ensures.sound c.add-i.ensures.settled c.add-i.ensures.others
          c.insert.new.self.entries c.insert.ensures.rising c.add-i.ensures.was q j e)
          ∙ c.lower.ensures.same.times j)
          c.add-i.result c.args.t.0 (λ q. ap (find nat_cmp q) c.insert.ensures.entries ∙ finds_put c.args.name c.add-i.result es q) c.add-i.ensures.holds.timed k;
      spare = spare k;
    }) ∙ ap (λ q. with_time q c.args.name c.args.t) c.self.view_is
