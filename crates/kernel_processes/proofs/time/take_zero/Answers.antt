use Rattle.std.proofs.Common.{Option, Some, None, ◌≡◌, ◌∷◌, [], ◌++◌, length, vec_len, vec_capacity, refl, sym, ap, ◌∙◌, arith}
use Rattle.std.proofs.lemmas.List.{length-append}
use Rattle.kernel_processes.proofs.Takings.{due_has_room, due_is_less, due_more, takes_zeros, takes_zeros_sound}
use Rattle.kernel_processes.proofs.time.take_zero.Goals as goal

pub push_reserved-requires : goal.push_reserved-requires
push_reserved-requires g c =
    let room = due_has_room c.args.s.now c.loop-p.s c.put_over.new.s c.in-Some.p c.loop-p.invariant (c.least_of_a_set.ensures.least _ c.in-Some.p (sym c.least.ensures ∙ c.in-Some.is)).member c.put_over.ensures in
    let many : vec_len c.loop-p.s.due ≡ length c.loop-p.s.due.items = omega arith in
    let len = ap vec_len c.put_over.ensures.due in
    let cap = ap vec_capacity c.put_over.ensures.due in
    omega (arith, room, many, len, cap)

pub loop-p-smaller : goal.loop-p-smaller
loop-p-smaller g c =
    let less = due_is_less c.args.s.now c.loop-p.s c.put_over.new.s c.in-Some.p c.loop-p.invariant (c.least_of_a_set.ensures.least _ c.in-Some.p (sym c.least.ensures ∙ c.in-Some.is)).member c.put_over.ensures in
    let more = ap length (c.push_reserved.ensures.items ∙ ap (λ v. v.items ++ c.in-Some.p ∷ []) c.put_over.ensures.due) in
    let long = length-append c.loop-p.s.due.items (c.in-Some.p ∷ []) in
    let count = c.put_over.ensures.count in
    omega (arith, less, more, long, count)

pub loop-p-preserved : goal.loop-p-preserved
loop-p-preserved g c = due_more c.args.s.now c.loop-p.s c.put_over.new.s c.in-Some.p c.loop-p.invariant (c.least_of_a_set.ensures.least _ c.in-Some.p (sym c.least.ensures ∙ c.in-Some.is)).member c.put_over.ensures
    c.push_reserved.new.self (c.push_reserved.ensures.items ∙ ap (λ v. v.items ++ c.in-Some.p ∷ []) c.put_over.ensures.due) (c.push_reserved.ensures.capacity ∙ ap vec_capacity c.put_over.ensures.due)

none_of : {A : Type 0} (o : Option A) → ((x : A) → o ≡ Some x → ⊥) → o ≡ None
none_of None never = refl
none_of (Some x) never = absurd (never x refl)

pub returns-clause-takes : goal.returns-clause-takes
returns-clause-takes g c = takes_zeros c.args.s.now _ c.loop-p.invariant (c.least_of_a_set.ensures.none _ (sym c.least.ensures ∙ none_of c.least.result c.in_default.not-Some))

pub returns-clause-sound : goal.returns-clause-sound
returns-clause-sound g c = takes_zeros_sound c.args.s.now _ c.loop-p.invariant (c.least_of_a_set.ensures.none _ (sym c.least.ensures ∙ none_of c.least.result c.in_default.not-Some))
