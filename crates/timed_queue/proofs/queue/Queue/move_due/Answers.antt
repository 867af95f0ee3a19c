use Rattle.std.proofs.Common.{◌≡◌, ℕ, ◌+◌, ◌≢◌, Bool, false, cond, [], ◌∷◌, ◌++◌, length, refl, sym, ap, ◌∙◌, ⊎_elim, arith, append_assoc, eq-eqb, ne_eqb}
use Rattle.std.specs.Prelude.{count_by, ◌==◌}
use Rattle.std.proofs.lemmas.Bool.{cases_eq}
use Rattle.std.proofs.lemmas.List.{append-nil, length-append}
use Rattle.std.proofs.lemmas.List.Sums.{sum_by-append, sum_by-cons}
use Rattle.std.specs.FinMap as map
use Rattle.timed_queue.specs.Timed.{Timed, due_at, is_due, without_due}
use Rattle.timed_queue.proofs.Due.{len-due_at, due-removed, left_one, left_none}
use Rattle.timed_queue.proofs.queue.Queue.move_due.Goals as goal

abbrev bit : Bool → ℕ
bit b = cond b 1 0

pub taking-init : goal.taking-init
taking-init c = record {
  added = [];
  behind = sym (append-nil c.args.out.now.items);
  once = λ p. omega arith;
  left = refl;
  size = refl;
  room = refl;
}

pub push_reserved-requires : goal.push_reserved-requires
push_reserved-requires c =
    let inv = c.taking.invariant in
    let less = len-due_at c.taking.self.times c.args.t c.in-Some.name c.in-Some.ensures.some in
    omega (arith, inv.size, inv.room, less, c.requires)

pub taking-smaller : goal.taking-smaller
taking-smaller c =
    let less = len-due_at c.taking.self.times c.args.t c.in-Some.name c.in-Some.ensures.some in
    omega (arith, ap (λ q. map.len (due_at q.times c.args.t)) (c.follow.ensures ∙ c.clear.ensures), less)

pub taking-preserved : goal.taking-preserved
taking-preserved c =
    let inv = c.taking.invariant in let name = c.in-Some.name in let t = c.args.t in let m = c.taking.self.times in
    let less = len-due_at m t name c.in-Some.ensures.some in
    record {
      added = inv.added ++ name ∷ [];
      behind = c.push_reserved.ensures.items ∙ ap (λ xs. xs ++ name ∷ []) inv.behind ∙ append_assoc c.args.out.now.items inv.added (name ∷ []);
      once = λ p.
          let counted : count_by (λ x. x == p) (inv.added ++ name ∷ []) ≡ count_by (λ x. x == p) inv.added + cond (name == p) 1 0 =
          sum_by-append (λ x. cond (x == p) 1 0) inv.added (name ∷ []) ∙ ap (λ n. count_by (λ x. x == p) inv.added + n) (sum_by-cons (λ x. cond (x == p) 1 0) name [] ∙ omega arith) in
          let now : is_due c.follow.new.self.times t p ≡ cond (p == name) false (is_due m t p) = ap (λ (q : Timed). is_due q.times t p) (c.follow.ensures ∙ c.clear.ensures) ∙ due-removed m t name c.in-Some.ensures.some p in
          let before = inv.once p in ⊎_elim
          (λ (same : p ≡ name).
          let a : cond (name == p) 1 0 ≡ 1 = ap bit (eq-eqb name p (sym same)) in
          let b : cond (is_due c.follow.new.self.times t p) 1 0 ≡ 0 = ap bit (now ∙ ap (λ b. cond b false (is_due m t p)) (eq-eqb p name same)) in
          let d : cond (is_due m t p) 1 0 ≡ 1 = ap bit (ap (is_due m t) same ∙ c.in-Some.ensures.some) in
          omega (arith, counted, a, b, d, before))
          (λ (apart : p ≢ name).
          let a : cond (name == p) 1 0 ≡ 0 = ap bit (ne_eqb name p (λ e. apart (sym e))) in
          let b : cond (is_due c.follow.new.self.times t p) 1 0 ≡ cond (is_due m t p) 1 0 = ap bit (now ∙ ap (λ b. cond b false (is_due m t p)) (ne_eqb p name apart)) in
          omega (arith, counted, a, b, before))
          (cases_eq p name);
      left = ap (λ q. without_due q t) (c.follow.ensures ∙ c.clear.ensures) ∙ left_one c.taking.self t name c.in-Some.ensures.some ∙ inv.left;
      size = let e : length c.push_reserved.new.self.items ≡ length c.taking.out.items + 1 = ap length c.push_reserved.ensures.items ∙ length-append c.taking.out.items (name ∷ []) in
          let f = ap (λ q. map.len (due_at q.times t)) (c.follow.ensures ∙ c.clear.ensures) in omega (arith, e, f, less, inv.size);
      room = c.push_reserved.ensures.capacity ∙ inv.room;
    }

pub returns-clause-left : goal.returns-clause-left
returns-clause-left c = sym (left_none c.taking.self c.args.t c.in_default.ensures.none) ∙ c.taking.invariant.left

pub returns-clause-taken : goal.returns-clause-taken
returns-clause-taken c =
    let inv = c.taking.invariant in
    record {
      added = inv.added;
      behind = inv.behind;
      once = λ p.
          let none : cond (is_due c.taking.self.times c.args.t p) 1 0 ≡ 0 = ap bit (c.in_default.ensures.none p) in
          let one = inv.once p in omega (arith, none, one);
    }
