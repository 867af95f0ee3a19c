-- Unwind blocks run exactly once, from the step that begins an unwinding to a configuration in which it is over.
use Rattle.std.proofs.Common.{◌≡◌, ◌<◌, ◌≤◌, ◌==◌, ◌||◌, ◌&&◌, ◌⊎◌, ℕ, Bool, true, false, List, [], ◌∷◌, ◌++◌, count_by, slice_get, Some, refl, sym, ap, ◌∙◌, subst, arith, inl, inr, ⊎_elim, eq-eqb, eqb-true, true≢false, append-nil}
use Rattle.std.specs.List.{list_any}
use Rattle.std.proofs.lemmas.Bool.{cases_lt}
use Rattle.std.proofs.lemmas.Option.{same_Some}
use Rattle.sim_model.specs.Residual.{Mark, enter, leave, begin, finish, has_goal}
use Rattle.sim_model.specs.Configuration.{Config, Instance, instance_at}
use Rattle.sim_model.specs.Waits.{holds}
use Rattle.sim_model.specs.Runs.{after}
use Rattle.sim_model.specs.Clean.{guards_of, entered_by, enters}
use Rattle.laws_runs.specs.Shapes.{IsNormal, IsShaped}
use Rattle.laws_runs.specs.Marks.{IsDistinct}
use Rattle.laws_runs.proofs.ShapeLemmas.{goalless-normal}
use Rattle.laws_runs.proofs.Fine.{fine-at}
use Rattle.laws_runs.proofs.GoalMoves.{Sound}
use Rattle.laws_runs.proofs.GoalParts.{parts}
use Rattle.laws_runs.proofs.KeptRuns.{kept-after, sound-after}
use Rattle.laws_runs.specs.Nesting.{Part, unbegun, running, after_marks, parts_of, parts_at}
use Rattle.laws_runs.proofs.Shaped.{standing-shaped}
use Rattle.laws_runs.proofs.Nested.{marks-then}
use Rattle.laws_runs.proofs.NestingKept.{Marked, marked-kept, marked-settled, marked-between, marked-taken}
use Rattle.laws_runs.proofs.NestingFits.{In, From, in-front, from-marks, count-in, ends_by, enters_by, waits_in, ends-count, count-more, count-cons, one-more}
use Rattle.laws_runs.proofs.Opened.{number, outside, outside-parts, open-parts, enters-once, enters-beyond, of-one, leave-enters, begin-enters, finish-begins, enters-any, distinct-by, first-distinct}
use Rattle.laws_runs.specs.Once.{guards_below, innermost_first, is_end_of, ends_of, once_each}
use Rattle.laws_runs.proofs.Inside.{is_inside, leaves_of}
use Rattle.laws_runs.proofs.Never.{Never, never-kept, never-settled, never-between, never-taken}
use Rattle.laws_runs.proofs.First.{runs}
use Rattle.laws_runs.proofs.Frames.{Grown, grown-kept, grown-settled, grown-between, grown-taken}
use Rattle.laws_runs.proofs.Todo.{distinct-filter, filter-append, filter-none, todo, OkMark, todo-marks, todo-append, todo-none, AllUnbegun, todo-all, innermost-numbers, outside-append, in-outside, in-holds, holds-in, distinct-apart, below_of, outer_of, parts-split, outside-below, idle-parts, idle-below, normal-inside, inside-outer, inside-guards, below-guards}

-- ---- a mark that passes a test is there

any_in : (f : Mark → Bool) (ms : List Mark) → ((m : Mark) → In m ms → f m ≡ true → ⊥) → list_any f ms ≡ false
any_in f [] none = refl
any_in f (m ∷ ms) none = by (f m) refl (any_in f ms (λ n h. none n (inr h)))
  where
    by : (b : Bool) → f m ≡ b → list_any f ms ≡ false → (b || list_any f ms) ≡ false
    by true is later = absurd (none m (inl refl) is)
    by false is later = later

in_any : (f : Mark → Bool) (m : Mark) (ms : List Mark) → In m ms → f m ≡ true → list_any f ms ≡ true
in_any f m [] h is = absurd h
in_any f m (n ∷ ms) (inl e) is = ap (λ b. b || list_any f ms) (ap f e ∙ is)
in_any f m (n ∷ ms) (inr h) is = or_true (f n) (list_any f ms) (in_any f m ms h is)
  where
    or_true : (a b : Bool) → b ≡ true → (a || b) ≡ true
    or_true true b h = refl
    or_true false b h = h

in_behind : (m : Mark) (xs ys : List Mark) → In m ys → In m (xs ++ ys)
in_behind m [] ys h = h
in_behind m (x ∷ xs) ys h = inr (in_behind m xs ys h)

-- an entry in front and one behind are two
two_enters : (p q g : ℕ) (xs ys : List Mark) → In (enter p g) xs → In (enter q g) ys → count_by (enters g) (xs ++ ys) ≤ 1 → ⊥
two_enters p q g [] ys a b once = a
two_enters p q g (x ∷ xs) ys (inl is) b once =
    let one = one-more (enters g) x (xs ++ ys) (ap (enters g) is ∙ eq-eqb g g refl) in
    let two = count-in (enters g) (enter q g) (xs ++ ys) (in_behind (enter q g) xs ys b) (eq-eqb g g refl) in
    omega (arith, one, two, once)
two_enters p q g (x ∷ xs) ys (inr h) b once = let c = count-cons (enters g) x (xs ++ ys) in two_enters p q g xs ys h b (omega (arith, c, once))

-- ---- of a configuration in which marks are nested

module _ (d : Config) (marked : Marked (parts d)) where
  abbrev stack_of : ℕ → List Part
  stack_of p = parts_at (slice_get d.processes.instances p)

  pub fits : (p : ℕ) → after_marks p d.trace.marks [] ≡ Some (stack_of p)
  fits = marked.nested

  pub once : (g : ℕ) → count_by (enters g) d.trace.marks ≤ 1
  once = enters-once d.trace.next_guard d.trace.marks stack_of fits marked.numbered

  leave_in : (p g : ℕ) → In (leave p g) d.trace.marks → In (enter p g) d.trace.marks
  leave_in = leave-enters d.trace.next_guard d.trace.marks stack_of fits marked.numbered

  begin_in : (p g : ℕ) → In (begin p g) d.trace.marks → In (enter p g) d.trace.marks
  begin_in = begin-enters d.trace.next_guard d.trace.marks stack_of fits marked.numbered

  finish_in : (p g : ℕ) → In (finish p g) d.trace.marks → In (begin p g) d.trace.marks
  finish_in = finish-begins d.trace.next_guard d.trace.marks stack_of fits marked.numbered

  one_by : (p g : ℕ) → In (enter p g) d.trace.marks → (q : ℕ) → In (enter q g) d.trace.marks → q ≡ p
  one_by p g h = of-one d.trace.next_guard d.trace.marks stack_of fits marked.numbered p g h

  -- what is open was entered
  from_enter : (p : ℕ) (y : Part) → From p d.trace.marks y → In (enter p (number y)) d.trace.marks
  from_enter p (unbegun g) f = f
  from_enter p (running g) f = begin_in p g f

  open_entered : (p : ℕ) (i : Instance) (x : Part) → instance_at d p ≡ Some i → In x (parts_of i.residual) → In (enter p (number x)) d.trace.marks
  open_entered p i x at h = from_enter p x (⊎_elim (λ n. absurd n) (λ f. f) (from-marks p d.trace.marks [] (parts_of i.residual) (fits p ∙ ap (λ o. Some (parts_at o)) at) x h))

  in_numbers : (g : ℕ) (s : List Part) → In g (outside s) → (x : Part) × In x s × (number x ≡ g)
  in_numbers g [] h = absurd h
  in_numbers g (y ∷ s) h = ⊎_elim (λ e. (y, inl refl, e)) (λ k. let z = in_numbers g s k in (z.0, inr z.1, z.2)) (last_cases g (number y) (outside s) h)
    where
      last_cases : (g n : ℕ) (xs : List ℕ) → In g (xs ++ n ∷ []) → (n ≡ g) ⊎ In g xs
      last_cases g n [] (inl is) = inl is
      last_cases g n [] (inr h) = absurd h
      last_cases g n (x ∷ xs) (inl is) = inr (inl is)
      last_cases g n (x ∷ xs) (inr h) = ⊎_elim (λ e. inl e) (λ k. inr (inr k)) (last_cases g n xs h)

  guard_entered : (p : ℕ) (i : Instance) (g : ℕ) → instance_at d p ≡ Some i → In g (guards_of i.residual) → In (enter p g) d.trace.marks
  guard_entered p i g at h =
      let x = in_numbers g (parts_of i.residual) (subst (In g) (sym (outside-parts i.residual)) h) in
      subst (λ n. In (enter p n) d.trace.marks) x.2 (open_entered p i x.0 at x.1)

  -- the guards of an instance have numbers of their own
  guards_distinct : (p : ℕ) (i : Instance) → instance_at d p ≡ Some i → IsDistinct (guards_of i.residual)
  guards_distinct p i at =
      subst IsDistinct (open-parts p d.trace.next_guard d.trace.marks (parts_of i.residual) (fits p ∙ ap (λ o. Some (parts_at o)) at) marked.numbered ∙ outside-parts i.residual)
      (distinct-filter _ (entered_by p d.trace.marks) (distinct-by p d.trace.marks (subst IsDistinct (sym marked.numbered) (first-distinct d.trace.next_guard))))

-- ---- where an unwinding has begun, and none of its unwind blocks

module _ (d : Config) (marked : Marked (parts d)) (s : Sound d) (q : ℕ) (j : Instance) (at : instance_at d q ≡ Some j) (idle : runs j.residual ≡ false) where
  abbrev gs : List ℕ
  gs = guards_below j.residual

  shaped : IsShaped j.residual
  shaped = standing-shaped d.design j.home j.residual (fine-at d.design d.processes q j at s.1).standing

  below_entered : (g : ℕ) → In g gs → In (enter q g) d.trace.marks
  below_entered g h = guard_entered d marked q j g at (below-guards g j.residual h)

  outside_gs : outside (below_of j.residual) ≡ gs
  outside_gs = outside-below outside-parts j.residual

  split_guards : guards_of j.residual ≡ outside (outer_of j.residual) ++ gs
  split_guards = sym (outside-parts j.residual) ∙ ap outside (parts-split j.residual) ∙ outside-append (below_of j.residual) (outer_of j.residual) ∙ ap (λ xs. outside (outer_of j.residual) ++ xs) outside_gs

  apart_guards : IsDistinct (outside (outer_of j.residual) ++ gs)
  apart_guards = subst IsDistinct split_guards (guards_distinct d marked q j at)

  held_not : (n : ℕ) → In n (outside (outer_of j.residual)) → In n gs → ⊥
  held_not n outer inner = true≢false (sym (in-holds n gs inner) ∙ distinct-apart n (outside (outer_of j.residual)) gs apart_guards outer)

  -- an open guard whose unwind block has not begun was neither left nor begun
  waits_one : (g : ℕ) (xs : List Part) → AllUnbegun xs → In g (outside xs) → 0 < count_by (waits_in g) xs
  waits_one g xs all h = let x = in_numbers d marked g xs h in count-in (waits_in g) x.0 xs x.1 (waiting x.0 xs all x.1 g x.2)
    where
      waiting : (x : Part) (ys : List Part) → AllUnbegun ys → In x ys → (g : ℕ) → number x ≡ g → waits_in g x ≡ true
      waiting (unbegun n) ys a h g e = eq-eqb n g e
      waiting (running n) [] a h g e = absurd h
      waiting (running n) (unbegun m ∷ ys) a (inl is) g e = cc
      waiting (running n) (unbegun m ∷ ys) a (inr h) g e = waiting (running n) ys a h g e
      waiting (running n) (running m ∷ ys) a h g e = absurd a

  no_ends : (g : ℕ) → In g gs → count_by (ends_by q g) d.trace.marks ≡ 0
  no_ends g h =
      let total = ends-count q g d.trace.marks [] (parts_of j.residual) (fits d marked q ∙ ap (λ o. Some (parts_at o)) at) in
      let waits = waits_one g (parts_of j.residual) (idle-parts j.residual idle) (subst (In g) (sym (outside-parts j.residual)) (below-guards g j.residual h)) in
      let few = count-more (enters_by q g) (enters g) d.trace.marks (enters-any d.trace.next_guard d.trace.marks (stack_of d marked) (fits d marked) marked.numbered q g (below_entered g h)) in
      let one = once d marked g in
      omega (arith, total, waits, few, one)

  -- a mark of these guards, but an Enter, is not there yet
  mine : (p g : ℕ) → In g gs → In (enter p g) d.trace.marks → p ≡ q
  mine p g h is = one_by d marked q g (below_entered g h) p is

  own_test : (p n g : ℕ) → p ≡ q → n ≡ g → ((p == q) && (n == g)) ≡ true
  own_test p n g a b = ap (λ x. x && (n == g)) (eq-eqb p q a) ∙ eq-eqb n g b

  not_begun : (p g : ℕ) → In (begin p g) d.trace.marks → holds gs g ≡ true → ⊥
  not_begun p g h is =
      let held = holds-in g gs is in
      let some = count-in (ends_by q g) (begin p g) d.trace.marks h (own_test p g g (mine p g held (begin_in d marked p g h)) refl) in
      let none = no_ends g held in
      omega (arith, some, none)

  nothing_yet : (m : Mark) → In m d.trace.marks → is_end_of gs m ≡ true → ⊥
  nothing_yet (enter p g) h is = true≢false (sym is)
  nothing_yet (leave p g) h is =
      let held = holds-in g gs is in
      let some = count-in (ends_by q g) (leave p g) d.trace.marks h (own_test p g g (mine p g held (leave_in d marked p g h)) refl) in
      let none = no_ends g held in
      omega (arith, some, none)
  nothing_yet (begin p g) h is = not_begun p g h is
  nothing_yet (finish p g) h is = not_begun p g (finish_in d marked p g h) is

  pub ends-before : ends_of gs d.trace.marks ≡ []
  ends-before = filter-none (is_end_of gs) d.trace.marks nothing_yet

  -- from then on none of them is left
  never_inside : (g : ℕ) → In g gs → (p : ℕ) (i : Instance) → instance_at d p ≡ Some i → is_inside g i.residual ≡ false
  never_inside g h p i there = by (is_inside g i.residual) refl
    where
      by : (b : Bool) → is_inside g i.residual ≡ b → b ≡ false
      by true is =
          let same = mine p g h (guard_entered d marked p i g there (inside-guards g i.residual is)) in
          let twin : i ≡ j = same_Some i j (sym there ∙ subst (λ n. instance_at d n ≡ Some j) (sym same) at) in
          absurd (held_not g (inside-outer g j.residual shaped idle (sym (ap (λ (z : Instance). is_inside g z.residual) twin) ∙ is)) h)
      by false is = refl

  never_left : (g : ℕ) → In g gs → (m : Mark) → In m d.trace.marks → leaves_of g m ≡ true → ⊥
  never_left g h (enter p n) is e = true≢false (sym e)
  never_left g h (leave p n) is e = nothing_yet (leave p n) is (in-holds n gs (subst (λ k. In k gs) (sym (eqb-true n g e)) h))
  never_left g h (begin p n) is e = true≢false (sym e)
  never_left g h (finish p n) is e = true≢false (sym e)

  given_before : (g : ℕ) → In g gs → g < d.trace.next_guard
  given_before g h = ⊎_elim (λ lt. lt)
      (λ le. let none = enters-beyond d.trace.next_guard d.trace.marks (stack_of d marked) (fits d marked) marked.numbered g le in
      let some = count-in (enters g) (enter q g) d.trace.marks (below_entered g h) (eq-eqb g g refl) in absurd (omega (arith, none, some)))
      (cases_lt g d.trace.next_guard)

  never_first : (g : ℕ) → In g gs → Never g (parts d)
  never_first g h = record { nowhere = never_inside g h; unleft_yet = any_in (leaves_of g) d.trace.marks (never_left g h); given = given_before g h }

  -- ---- in a later configuration

  module _ (m : ℕ) (more : List ℕ) (e : Config) (reached : after m more d ≡ Some e) where
    marked_later : Marked (parts e)
    marked_later = kept-after Marked marked-kept marked-settled marked-between marked-taken m more d e s marked reached

    never_later : (g : ℕ) → In g gs → Never g (parts e)
    never_later g h = kept-after (Never g) (never-kept g) (never-settled g) (never-between g) (never-taken g) m more d e s (never_first g h) reached

    grown : Grown d.trace.marks (parts e)
    grown = kept-after (Grown d.trace.marks) (grown-kept d.trace.marks) (grown-settled d.trace.marks) (grown-between d.trace.marks) (grown-taken d.trace.marks) m more d e s ([], sym (append-nil d.trace.marks)) reached

    in_later : (x : Mark) → In x d.trace.marks → In x e.trace.marks
    in_later x h = subst (In x) (sym grown.1) (in-front x d.trace.marks grown.0 h)

    in_new : (x : Mark) → In x grown.0 → In x e.trace.marks
    in_new x h = subst (In x) (sym grown.1) (in_behind x d.trace.marks grown.0 h)

    not_held : (g : ℕ) → (In g gs → ⊥) → holds gs g ≡ false
    not_held g not = by (holds gs g) refl
      where
        by : (b : Bool) → holds gs g ≡ b → b ≡ false
        by true is = absurd (not (holds-in g gs is))
        by false is = refl

    ok : (x : Mark) → In x grown.0 → OkMark q gs x
    ok (enter p g) h = λ same. not_held g (λ held. two_enters q p g d.trace.marks grown.0 (below_entered g held) h (subst (λ ms. count_by (enters g) ms ≤ 1) grown.1 (once e marked_later g)))
    ok (leave p g) h = not_held g (λ held. true≢false (sym (in_any (leaves_of g) (leave p g) e.trace.marks (in_new (leave p g) h) (eq-eqb g g refl)) ∙ (never_later g held).unleft_yet))
    ok (begin p g) h = λ is. let held = holds-in g gs is in one_by e marked_later q g (in_later (enter q g) (below_entered g held)) p (begin_in e marked_later p g (in_new (begin p g) h))
    ok (finish p g) h = λ is. let held = holds-in g gs is in one_by e marked_later q g (in_later (enter q g) (below_entered g held)) p (begin_in e marked_later p g (finish_in e marked_later p g (in_new (finish p g) h)))

    module _ (k : Instance) (there : instance_at e q ≡ Some k) (none : has_goal k.residual ≡ false) where
      normal : IsNormal k.residual
      normal = let t = sound-after m more d e s reached in goalless-normal k.residual (standing-shaped e.design k.home k.residual (fine-at e.design e.processes q k there t.1).standing) none

      nothing_open : (x : Part) → In x (parts_of k.residual) → holds gs (number x) ≡ false
      nothing_open x h = not_held (number x) (λ held. true≢false (sym (normal-inside x k.residual normal h) ∙ (never_later (number x) held).nowhere q k there))

      played : after_marks q grown.0 (parts_of j.residual) ≡ Some (parts_of k.residual)
      played =
          sym (marks-then q d.trace.marks grown.0 [] (parts_of j.residual) (fits d marked q ∙ ap (λ o. Some (parts_at o)) at))
          ∙ ap (λ ms. after_marks q ms []) (sym grown.1) ∙ fits e marked_later q ∙ ap (λ o. Some (parts_at o)) there

      to_do : todo q gs (parts_of j.residual) ≡ once_each q (innermost_first gs)
      to_do =
          ap (todo q gs) (parts-split j.residual) ∙ todo-append q gs (below_of j.residual) (outer_of j.residual)
          ∙ ap (λ ms. todo q gs (below_of j.residual) ++ ms) (todo-none q gs (outer_of j.residual) (λ x h. distinct-apart (number x) (outside (outer_of j.residual)) gs apart_guards (in-outside x (outer_of j.residual) h)))
          ∙ append-nil (todo q gs (below_of j.residual))
          ∙ todo-all q gs (below_of j.residual) (idle-below j.residual idle) (λ x h. in-holds (number x) gs (subst (In (number x)) outside_gs (in-outside x (below_of j.residual) h)))
          ∙ ap (once_each q) (sym (innermost-numbers (below_of j.residual)) ∙ ap innermost_first outside_gs)

      pub ends-after : ends_of gs e.trace.marks ≡ once_each q (innermost_first gs)
      ends-after =
          ap (ends_of gs) grown.1 ∙ filter-append (is_end_of gs) d.trace.marks grown.0 ∙ ap (λ ms. ms ++ ends_of gs grown.0) ends-before
          ∙ sym (append-nil (ends_of gs grown.0))
          ∙ ap (λ ms. ends_of gs grown.0 ++ ms) (sym (todo-none q gs (parts_of k.residual) nothing_open))
          ∙ todo-marks q gs grown.0 (parts_of j.residual) (parts_of k.residual) played ok
          ∙ to_do
