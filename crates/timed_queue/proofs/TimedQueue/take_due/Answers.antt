use Rattle.std.proofs.Common.{◌≡◌, ℕ, ◌<◌, ◌++◌, false, sym, ap, ◌∙◌, subst, arith}
use Rattle.std.proofs.lemmas.List.{append-nil}
use Rattle.std.specs.FinMap as map
use Rattle.timed_queue.proofs.Due.{left_none, no_keys}
use Rattle.timed_queue.specs.Timed.{Timed, with_time, is_due, due_at, without_due, AddsEach}
use Rattle.timed_queue.specs.Alone.{IsAlone}
use Rattle.timed_queue.proofs.Alone.{is_alone, shown_alone, none_alone, left_alone, adds_alone, adds_none, keys_alone, one_due}
use Rattle.timed_queue.proofs.TimedQueue.take_due.Goals as goal

pub push_reserved-requires : goal.push_reserved-requires
push_reserved-requires c =
    let q = c.self.inside.queue in
    let e = c.in-Some.only in
    let alone : IsAlone q = is_alone q c.in-Some.is c.self.invariant in
    let view : with_time q e.name e.time ≡ c.args.self.now = shown_alone q c.in-Some.is c.self.view_is in
    let some : 0 < map.len (due_at c.args.self.now.times c.args.t) = subst (λ (w : Timed). 0 < map.len (due_at w.times c.args.t)) view (one_due q alone e.name e.time c.args.t c.if-only-t.true) in
    omega (arith, some, c.requires)

pub returns-then-only-t-clause-left : goal.returns-then-only-t-clause-left
returns-then-only-t-clause-left c =
    let q = c.self.inside.queue in
    let e = c.in-Some.only in
    let alone : IsAlone q = is_alone q c.in-Some.is c.self.invariant in
    let view : with_time q e.name e.time ≡ c.args.self.now = shown_alone q c.in-Some.is c.self.view_is in
    left_alone q alone e.name e.time c.args.t c.if-only-t.true ∙ ap (λ (w : Timed). without_due w c.args.t) view

pub returns-then-only-t-clause-taken : goal.returns-then-only-t-clause-taken
returns-then-only-t-clause-taken c =
    let q = c.self.inside.queue in
    let e = c.in-Some.only in
    let alone : IsAlone q = is_alone q c.in-Some.is c.self.invariant in
    let view : with_time q e.name e.time ≡ c.args.self.now = shown_alone q c.in-Some.is c.self.view_is in
    subst (λ (w : Timed). AddsEach c.args.out.now.items c.push_reserved.new.self.items (is_due w.times c.args.t)) view
    (adds_alone q alone e.name e.time c.args.t c.if-only-t.true c.args.out.now.items c.push_reserved.new.self.items c.push_reserved.ensures.items)

pub returns-then-only-t-clause-order : goal.returns-then-only-t-clause-order
returns-then-only-t-clause-order c =
    let q = c.self.inside.queue in
    let e = c.in-Some.only in
    let alone : IsAlone q = is_alone q c.in-Some.is c.self.invariant in
    let view : with_time q e.name e.time ≡ c.args.self.now = shown_alone q c.in-Some.is c.self.view_is in
    c.push_reserved.ensures.items ∙ ap (λ xs. c.args.out.now.items ++ xs) (keys_alone q alone e.name e.time c.args.t c.if-only-t.true ∙ ap (λ (w : Timed). map.keys (due_at w.times c.args.t)) view)

pub returns-else-only-t-clause-left : goal.returns-else-only-t-clause-left
returns-else-only-t-clause-left c =
    let q = c.self.inside.queue in
    let e = c.in-Some.only in
    let alone : IsAlone q = is_alone q c.in-Some.is c.self.invariant in
    let view : with_time q e.name e.time ≡ c.args.self.now = shown_alone q c.in-Some.is c.self.view_is in
    let none : (p : ℕ) → is_due c.args.self.now.times c.args.t p ≡ false = λ p. ap (λ (w : Timed). is_due w.times c.args.t p) (sym view) ∙ none_alone q alone e.name e.time c.args.t c.if-only-t.false p in
    sym (left_none c.args.self.now c.args.t none)

pub returns-else-only-t-clause-taken : goal.returns-else-only-t-clause-taken
returns-else-only-t-clause-taken c =
    let q = c.self.inside.queue in
    let e = c.in-Some.only in
    let alone : IsAlone q = is_alone q c.in-Some.is c.self.invariant in
    let view : with_time q e.name e.time ≡ c.args.self.now = shown_alone q c.in-Some.is c.self.view_is in
    let none : (p : ℕ) → is_due c.args.self.now.times c.args.t p ≡ false = λ p. ap (λ (w : Timed). is_due w.times c.args.t p) (sym view) ∙ none_alone q alone e.name e.time c.args.t c.if-only-t.false p in
    adds_none c.args.out.now.items (is_due c.args.self.now.times c.args.t) none

pub returns-else-only-t-clause-order : goal.returns-else-only-t-clause-order
returns-else-only-t-clause-order c =
    let q = c.self.inside.queue in
    let e = c.in-Some.only in
    let alone : IsAlone q = is_alone q c.in-Some.is c.self.invariant in
    let view : with_time q e.name e.time ≡ c.args.self.now = shown_alone q c.in-Some.is c.self.view_is in
    let none : (p : ℕ) → is_due c.args.self.now.times c.args.t p ≡ false = λ p. ap (λ (w : Timed). is_due w.times c.args.t p) (sym view) ∙ none_alone q alone e.name e.time c.args.t c.if-only-t.false p in
    sym (ap (λ xs. c.args.out.now.items ++ xs) (no_keys c.args.self.now.times c.args.t none) ∙ append-nil c.args.out.now.items)
