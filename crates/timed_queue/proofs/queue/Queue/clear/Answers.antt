use Rattle.std.proofs.Common.{◌≡◌, ◌+◌, cond, Some, None, refl, sym, ap, ◌∙◌, arith}
use Rattle.std.specs.Prelude.{is_some}
use Rattle.std.specs.Ordering.{nat_cmp}
use Rattle.std.specs.FinMap as map
use Rattle.std.specs.FinMap.{find}
use Rattle.timed_queue.specs.Timed.{without}
use Rattle.timed_queue.specs.Layout.{times_of}
use Rattle.timed_queue.proofs.QueueLaws.{one_name, queue_removed, queue_unfound, unfound, finds_without, times_cut, has-times_of}
use Rattle.timed_queue.proofs.queue.Queue.clear.Goals as goal

pub remove-requires-in-Some-clause-entry : goal.remove-requires-in-Some-clause-entry
remove-requires-in-Some-clause-entry c = (c.self.invariant.0.found c.args.name c.in-Some.i (sym c.remove.ensures.value ∙ c.in-Some.is)).0

pub invariant_of-self : goal.invariant_of-self
invariant_of-self c =
    let es = c.self.inside.index.entries in let w = c.self.inside.wheel in let room = c.self.invariant.1 in let enough = room.enough in let few = room.few in
    let there : find nat_cmp c.args.name es ≡ Some c.in-Some.i = sym c.remove.ensures.value ∙ c.in-Some.is in
    let one : c.remove.new.self.spare ≡ c.self.inside.index.spare + 1 =
    c.remove.ensures.gives_one ∙ ap (λ o. cond (is_some o) (c.self.inside.index.spare + 1) c.self.inside.index.spare) c.in-Some.is in
    let r = c.remove-in-Some.ensures.room in (
      queue_removed es w c.remove-in-Some.new.self c.self.invariant.0 c.args.name c.in-Some.i c.remove-in-Some.ensures.sound c.remove-in-Some.ensures.settled c.remove-in-Some.ensures.others
          c.remove.new.self.entries c.remove.ensures.rising (λ q. ap (find nat_cmp q) c.remove.ensures.entries ∙ finds_without c.args.name es q) there c.remove-in-Some.ensures.gone,
      record { enough = omega (arith, one, r, enough); few = omega (arith, c.remove.ensures.same_places, few) },
    )

pub invariant_of-self-in-None : goal.invariant_of-self-in-None
invariant_of-self-in-None c =
    let es = c.self.inside.index.entries in let room = c.self.invariant.1 in let enough = room.enough in let few = room.few in
    let none : find nat_cmp c.args.name es ≡ None = sym c.remove.ensures.value ∙ c.in-None.is in
    let same : c.remove.new.self.spare ≡ c.self.inside.index.spare =
    c.remove.ensures.gives_one ∙ ap (λ o. cond (is_some o) (c.self.inside.index.spare + 1) c.self.inside.index.spare) c.in-None.is in (
      queue_unfound es c.remove.new.self.entries c.self.inside.wheel c.self.invariant.0 c.remove.ensures.rising
          (unfound c.args.name es c.remove.new.self.entries (λ q. ap (find nat_cmp q) c.remove.ensures.entries ∙ finds_without c.args.name es q) none),
      record { enough = omega (arith, same, enough); few = omega (arith, c.remove.ensures.same_places, few) },
    )

pub returns-in-Some : goal.returns-in-Some
returns-in-Some c =
    let es = c.self.inside.index.entries in let w = c.self.inside.wheel in let w' = c.remove-in-Some.new.self in
    let there : find nat_cmp c.args.name es ≡ Some c.in-Some.i = sym c.remove.ensures.value ∙ c.in-Some.is in
    let has = has-times_of es w.nodes.items c.args.name ∙ ap is_some there in
    let spare : w'.room ≡ cond (map.contains_key (times_of es w.nodes.items) c.args.name) (w.room + 1) w.room =
    c.remove-in-Some.ensures.room ∙ ap (λ b. cond b (w.room + 1) w.room) (sym has) in
    (λ k. record {
      times = times_cut es w.nodes.items w'.nodes.items c.remove.new.self.entries c.args.name
          (λ q j apart e. c.remove-in-Some.ensures.others.times j (one_name es w w' c.self.invariant.0 c.args.name c.in-Some.i c.remove-in-Some.ensures.sound c.remove-in-Some.ensures.settled c.remove-in-Some.ensures.others there q j e apart))
          (λ q. ap (find nat_cmp q) c.remove.ensures.entries ∙ finds_without c.args.name es q) k;
      spare = spare k;
    }) ∙ ap (λ q. without q c.args.name) c.self.view_is

pub returns-in-None : goal.returns-in-None
returns-in-None c =
    let es = c.self.inside.index.entries in let w = c.self.inside.wheel in
    let none : find nat_cmp c.args.name es ≡ None = sym c.remove.ensures.value ∙ c.in-None.is in
    let has = has-times_of es w.nodes.items c.args.name ∙ ap is_some none in
    let spare : w.room ≡ cond (map.contains_key (times_of es w.nodes.items) c.args.name) (w.room + 1) w.room = ap (λ b. cond b (w.room + 1) w.room) (sym has) in
    (λ k. record {
      times = times_cut es w.nodes.items w.nodes.items c.remove.new.self.entries c.args.name (λ q j apart e. refl)
          (λ q. ap (find nat_cmp q) c.remove.ensures.entries ∙ finds_without c.args.name es q) k;
      spare = spare k;
    }) ∙ ap (λ q. without q c.args.name) c.self.view_is
