use Rattle.std.proofs.Common.{◌≡◌, ℕ, List, [], ◌∷◌, ◌++◌, length, length-append, refl, sym, ap, ◌∙◌, subst, arith}
use Rattle.timed_queue.specs.declared.chains.Node.{Node}
use Rattle.timed_queue.specs.Nodes.{node_at}
use Rattle.timed_queue.specs.Sound.{IsWhole}
use Rattle.timed_queue.proofs.RoomLaws.{lone, whole_heads, head_more, grown_heads}
use Rattle.timed_queue.proofs.wheel.Wheel.add_heads.Goals as goal

pub heads-init : goal.heads-init
heads-init c = record {
  many = c.requires.none;
  lone = λ j l. absurd (omega (arith, l));
  marks = refl;
  origin = refl;
  free = refl;
  room = refl;
  capacity = refl;
}

pub heads-preserved : goal.heads-preserved
heads-preserved c =
    let inv = c.heads.invariant in let ns = c.heads.self.nodes.items in
    let e = c.push_reserved.ensures.items ∙ ap (λ (n : Node). ns ++ n ∷ []) c.lone_head.ensures in
    record {
      many = ap length e ∙ length-append ns (lone c.heads.place ∷ []) ∙ (let b = inv.many in omega (arith, b));
      lone = λ j l. ap (λ (xs : List Node). node_at xs j) e ∙ head_more ns c.heads.place inv.many inv.lone j l;
      marks = inv.marks;
      origin = inv.origin;
      free = inv.free;
      room = inv.room;
      capacity = c.push_reserved.ensures.capacity ∙ inv.capacity;
    }

pub returns-clause-sound : goal.returns-clause-sound
returns-clause-sound c =
    let x = c.heads.self in let w = c.args.self.now in let inv = c.heads.invariant in
    let many : length x.nodes.items ≡ 704 = (let a = inv.many in omega (arith, a)) in
    whole_heads w.nodes.items x.nodes.items x.marks.words x.free x.room
    (subst (λ (m : List ℕ). IsWhole w.nodes.items m x.free x.room) (ap (λ m. m.words) (sym inv.marks))
    (subst (λ (f : ℕ). IsWhole w.nodes.items w.marks.words f x.room) (sym inv.free) (subst (λ (r : ℕ). IsWhole w.nodes.items w.marks.words w.free r) (sym inv.room) c.requires.sound)))
    c.requires.none many (λ j l. inv.lone j (let a = inv.many in omega (arith, a, many, l)))

pub returns-clause-grown : goal.returns-clause-grown
returns-clause-grown c =
    let inv = c.heads.invariant in
    grown_heads c.args.self.now.nodes.items c.heads.self.nodes.items c.requires.none (let a = inv.many in omega (arith, a))
