-- The guards that nested marks leave open, in the words of clean configurations; and that each number is used once.
use Rattle.std.proofs.Common.{◌≡◌, ◌+◌, ◌<◌, ◌≤◌, ◌==◌, ◌||◌, ◌&&◌, not, ℕ, zero, suc, Bool, true, false, cond, List, [], ◌∷◌, ◌++◌, count_by, Some, refl, sym, ap, ◌∙◌, subst, arith, inl, inr, ⊎_elim, eqb-true, eq-eqb, ne_eqb, true≢false, append_assoc, append-nil}
use Rattle.std.specs.List.{list_any}
use Rattle.std.proofs.lemmas.Bool.{cases_eq, cases_lt}
use Rattle.std.proofs.lemmas.Option.{same_Some}
use Rattle.sim_model.specs.Residual.{Mark, enter, leave, begin, finish, Residual, skip, one, batch, seq, owing, guard, try_, frame, shell, run, goal}
use Rattle.sim_model.specs.Configuration.{Trace}
use Rattle.sim_model.specs.Waits.{holds}
use Rattle.sim_model.specs.Clean.{guards_of, closes, entered_by, open_guards, enters, leaves_or_begins, finishes, times, CleanMarks}
use Rattle.laws_runs.specs.Marks.{still_open, IsDistinct}
use Rattle.laws_runs.proofs.Times.{times-cons, times-last_here, times-last_other}
use Rattle.laws_runs.specs.Nesting.{Part, unbegun, running, after_marks, parts_of, numbers_entered, first_numbers}
use Rattle.laws_runs.proofs.NestingFits.{IsApart, Moved, entered, left, began, finished, apart, steps-of, In, contains-in, in-front, left-from, begun-from, finished-from, count-cons, one-more, none-more, count-in, count-more, some-or-none, enters_by, ends_by, begins_by, finishes_by, ends-count, finishes-count}

-- ---- from outside in

abbrev pub number : Part → ℕ
number (unbegun g) = g
number (running g) = g

abbrev pub outside : List Part → List ℕ
outside [] = []
outside (x ∷ s) = outside s ++ number x ∷ []

outside_last : (s : List Part) (x : Part) → outside (s ++ x ∷ []) ≡ number x ∷ outside s
outside_last [] x = refl
outside_last (y ∷ s) x = ap (λ gs. gs ++ number y ∷ []) (outside_last s x)

pub outside-parts : (r : Residual) → outside (parts_of r) ≡ guards_of r
outside-parts skip = refl
outside-parts (one s) = refl
outside-parts (batch s qs) = refl
outside-parts (seq r ss) = outside-parts r
outside-parts (owing r g u) = outside_last (parts_of r) (unbegun g) ∙ ap (λ gs. g ∷ gs) (outside-parts r)
outside-parts (guard r g u) = outside_last (parts_of r) (unbegun g) ∙ ap (λ gs. g ∷ gs) (outside-parts r)
outside-parts (try_ r handlers) = outside-parts r
outside-parts (frame r x) = outside-parts r
outside-parts (shell r x) = outside-parts r
outside-parts (run g r) = outside_last (parts_of r) (running g) ∙ ap (λ gs. g ∷ gs) (outside-parts r)
outside-parts (goal r k) = outside-parts r

-- ---- one guard that goes

or_left : (a b : Bool) → (a || b) ≡ false → a ≡ false
or_left true b h = absurd (true≢false h)
or_left false b h = refl

or_right : (a b : Bool) → (a || b) ≡ false → b ≡ false
or_right true b h = absurd (true≢false h)
or_right false b h = h

other_way : (g n : ℕ) → (g == n) ≡ false → (n == g) ≡ false
other_way g n a = ne_eqb n g (λ same. true≢false (sym (eq-eqb g n (sym same)) ∙ a))

-- a mark that closes g alone
module _ (p g : ℕ) (m : Mark) (ms : List Mark) (closed : closes p g m ≡ true) (others : (n : ℕ) → (g == n) ≡ false → closes p n m ≡ false) where
  behind_open : (gs : List ℕ) → holds gs g ≡ false → still_open p (m ∷ ms) gs ≡ still_open p ms gs
  behind_open [] lacks = refl
  behind_open (n ∷ gs) lacks =
      ap (λ b. cond (not (b || list_any (closes p n) ms)) (n ∷ still_open p (m ∷ ms) gs) (still_open p (m ∷ ms) gs)) (others n (other_way n g (or_left (n == g) (holds gs g) lacks)))
      ∙ ap (λ rest. cond (not (list_any (closes p n) ms)) (n ∷ rest) rest) (behind_open gs (or_right (n == g) (holds gs g) lacks))

  front_lacks : (n : ℕ) (xs gs : List ℕ) → holds (xs ++ g ∷ gs) n ≡ false → (g == n) ≡ false
  front_lacks n [] gs lacks = or_left (g == n) (holds gs n) lacks
  front_lacks n (x ∷ xs) gs lacks = front_lacks n xs gs (or_right (x == n) (holds (xs ++ g ∷ gs) n) lacks)

  gone_open : (xs gs : List ℕ) → IsDistinct (xs ++ g ∷ gs) → still_open p (m ∷ ms) (xs ++ g ∷ gs) ≡ still_open p ms (xs ++ gs)
  gone_open [] gs d =
      ap (λ b. cond (not (b || list_any (closes p g) ms)) (g ∷ still_open p (m ∷ ms) gs) (still_open p (m ∷ ms) gs)) closed ∙ behind_open gs d.0
  gone_open (x ∷ xs) gs d =
      ap (λ b. cond (not (b || list_any (closes p x) ms)) (x ∷ still_open p (m ∷ ms) (xs ++ g ∷ gs)) (still_open p (m ∷ ms) (xs ++ g ∷ gs))) (others x (front_lacks x xs gs d.0))
      ∙ ap (λ rest. cond (not (list_any (closes p x) ms)) (x ∷ rest) rest) (gone_open xs gs d.1)

-- the one that goes leaves the others distinct
lacks_less : (n g : ℕ) (xs gs : List ℕ) → holds (xs ++ g ∷ gs) n ≡ false → holds (xs ++ gs) n ≡ false
lacks_less n g [] gs h = or_right (g == n) (holds gs n) h
lacks_less n g (x ∷ xs) gs h = ap (λ b. b || holds (xs ++ gs) n) (or_left (x == n) (holds (xs ++ g ∷ gs) n) h) ∙ lacks_less n g xs gs (or_right (x == n) (holds (xs ++ g ∷ gs) n) h)

distinct_less : (g : ℕ) (xs gs : List ℕ) → IsDistinct (xs ++ g ∷ gs) → IsDistinct (xs ++ gs)
distinct_less g [] gs d = d.1
distinct_less g (x ∷ xs) gs d = (lacks_less x g xs gs d.0, distinct_less g xs gs d.1)

module _ (p : ℕ) where
  -- a mark that closes nothing of p
  closes_apart : (m : Mark) → IsApart p m → (n : ℕ) → closes p n m ≡ false
  closes_apart (enter q g) a n = refl
  closes_apart (leave q g) a n = ap (λ b. b && (g == n)) a
  closes_apart (begin q g) a n = refl
  closes_apart (finish q g) a n = ap (λ b. b && (g == n)) a

  unclosed : (m : Mark) (ms : List Mark) → ((n : ℕ) → closes p n m ≡ false) → (gs : List ℕ) → still_open p (m ∷ ms) gs ≡ still_open p ms gs
  unclosed m ms none [] = refl
  unclosed m ms none (n ∷ gs) =
      ap (λ b. cond (not (b || list_any (closes p n) ms)) (n ∷ still_open p (m ∷ ms) gs) (still_open p (m ∷ ms) gs)) (none n)
      ∙ ap (λ rest. cond (not (list_any (closes p n) ms)) (n ∷ rest) rest) (unclosed m ms none gs)

  entered_apart : (m : Mark) (ms : List Mark) → IsApart p m → entered_by p (m ∷ ms) ≡ entered_by p ms
  entered_apart (enter q g) ms a = ap (λ b. cond b (g ∷ entered_by p ms) (entered_by p ms)) a
  entered_apart (leave q g) ms a = refl
  entered_apart (begin q g) ms a = refl
  entered_apart (finish q g) ms a = refl

  own_closed : (g n : ℕ) → ((p == p) && (g == n)) ≡ (g == n)
  own_closed g n = ap (λ b. b && (g == n)) (eq-eqb p p refl)

  nothing_closed : (gs : List ℕ) → still_open p [] gs ≡ gs
  nothing_closed [] = refl
  nothing_closed (g ∷ gs) = ap (λ rest. g ∷ rest) (nothing_closed gs)

  -- what is open before a mark and what comes later
  abbrev Opens : List Mark → List Part → List Part → Type 0
  Opens ms s u = IsDistinct (outside s ++ entered_by p ms) → still_open p ms (outside s ++ entered_by p ms) ≡ outside u

  entered_here : (g : ℕ) (ms : List Mark) → entered_by p (enter p g ∷ ms) ≡ g ∷ entered_by p ms
  entered_here g ms = ap (λ b. cond b (g ∷ entered_by p ms) (entered_by p ms)) (eq-eqb p p refl)

  one_behind : (gs es : List ℕ) (g : ℕ) → (gs ++ g ∷ []) ++ es ≡ gs ++ g ∷ es
  one_behind gs es g = append_assoc gs (g ∷ []) es

  opens_one : (m : Mark) (ms : List Mark) (s t u : List Part) → Moved p m s t → Opens ms t u → Opens (m ∷ ms) s u
  opens_one m ms s t u (entered g r) later d =
      let same = ap (λ es. outside r ++ es) (entered_here g ms) ∙ sym (one_behind (outside r) (entered_by p ms) g) in
      ap (still_open p (enter p g ∷ ms)) same ∙ unclosed (enter p g) ms (λ n. refl) (outside (unbegun g ∷ r) ++ entered_by p ms) ∙ later (subst IsDistinct same d)
  opens_one m ms s t u (left g r) later d =
      let same = one_behind (outside r) (entered_by p ms) g in
      ap (still_open p (leave p g ∷ ms)) same
      ∙ gone_open p g (leave p g) ms (own_closed g g ∙ eq-eqb g g refl) (λ n a. own_closed g n ∙ a) (outside r) (entered_by p ms) (subst IsDistinct same d)
      ∙ later (distinct_less g (outside r) (entered_by p ms) (subst IsDistinct same d))
  opens_one m ms s t u (began g r) later d = unclosed (begin p g) ms (λ n. refl) (outside (unbegun g ∷ r) ++ entered_by p ms) ∙ later d
  opens_one m ms s t u (finished g r) later d =
      let same = one_behind (outside r) (entered_by p ms) g in
      ap (still_open p (finish p g ∷ ms)) same
      ∙ gone_open p g (finish p g) ms (own_closed g g ∙ eq-eqb g g refl) (λ n a. own_closed g n ∙ a) (outside r) (entered_by p ms) (subst IsDistinct same d)
      ∙ later (distinct_less g (outside r) (entered_by p ms) (subst IsDistinct same d))
  opens_one m ms s t u (apart n r a) later d =
      let same = ap (λ es. outside r ++ es) (entered_apart n ms a) in
      ap (still_open p (n ∷ ms)) same ∙ unclosed n ms (closes_apart n a) (outside r ++ entered_by p ms) ∙ later (subst IsDistinct same d)

  opens : (ms : List Mark) (s u : List Part) → after_marks p ms s ≡ Some u → Opens ms s u
  opens [] s u h d = nothing_closed (outside s ++ []) ∙ append-nil (outside s) ∙ ap outside (same_Some s u h)
  opens (m ∷ ms) s u h d = let k = steps-of p m ms s u h in opens_one m ms s k.between u k.moved (opens ms k.between u k.later) d

-- ---- numbers

lacks_by : (p g : ℕ) (ms : List Mark) → holds (numbers_entered ms) g ≡ false → holds (entered_by p ms) g ≡ false
lacks_by p g [] h = refl
lacks_by p g (enter q n ∷ ms) h = by (q == p) (lacks_by p g ms (or_right (n == g) (holds (numbers_entered ms) g) h))
  where
    by : (b : Bool) → holds (entered_by p ms) g ≡ false → holds (cond b (n ∷ entered_by p ms) (entered_by p ms)) g ≡ false
    by true k = ap (λ b. b || holds (entered_by p ms) g) (or_left (n == g) (holds (numbers_entered ms) g) h) ∙ k
    by false k = k
lacks_by p g (leave q n ∷ ms) h = lacks_by p g ms h
lacks_by p g (begin q n ∷ ms) h = lacks_by p g ms h
lacks_by p g (finish q n ∷ ms) h = lacks_by p g ms h

pub distinct-by : (p : ℕ) (ms : List Mark) → IsDistinct (numbers_entered ms) → IsDistinct (entered_by p ms)
distinct-by p [] d = tt
distinct-by p (enter q n ∷ ms) d = by (q == p) (distinct-by p ms d.1)
  where
    by : (b : Bool) → IsDistinct (entered_by p ms) → IsDistinct (cond b (n ∷ entered_by p ms) (entered_by p ms))
    by true k = (lacks_by p n ms d.0, k)
    by false k = k
distinct-by p (leave q n ∷ ms) d = distinct-by p ms d
distinct-by p (begin q n ∷ ms) d = distinct-by p ms d
distinct-by p (finish q n ∷ ms) d = distinct-by p ms d

holds_last : (xs : List ℕ) (x n : ℕ) → holds xs n ≡ false → (x == n) ≡ false → holds (xs ++ x ∷ []) n ≡ false
holds_last [] x n h a = ap (λ b. b || false) a
holds_last (y ∷ xs) x n h a = ap (λ b. b || holds (xs ++ x ∷ []) n) (or_left (y == n) (holds xs n) h) ∙ holds_last xs x n (or_right (y == n) (holds xs n) h) a

distinct_last : (xs : List ℕ) (x : ℕ) → IsDistinct xs → holds xs x ≡ false → IsDistinct (xs ++ x ∷ [])
distinct_last [] x d h = (refl, tt)
distinct_last (y ∷ xs) x d h = (holds_last xs x y d.0 (other_way y x (or_left (y == x) (holds xs x) h)), distinct_last xs x d.1 (or_right (y == x) (holds xs x) h))

first_lacks : (n m : ℕ) → n ≤ m → holds (first_numbers n) m ≡ false
unfolding first_numbers
first_lacks zero m le = refl
first_lacks (suc n) m le = holds_last (first_numbers n) n m (first_lacks n m (omega (arith, le))) (ne_eqb n m (λ same. let e = same in absurd (omega (arith, le, e))))

pub first-distinct : (n : ℕ) → IsDistinct (first_numbers n)
unfolding first_numbers
first-distinct zero = tt
first-distinct (suc n) = distinct_last (first_numbers n) n (first-distinct n) (first_lacks n n (omega arith))

-- ---- the guards that p entered, and neither left nor finished

pub open-parts : (p n : ℕ) (ms : List Mark) (u : List Part) → after_marks p ms [] ≡ Some u → numbers_entered ms ≡ first_numbers n → open_guards p ms ≡ outside u
open-parts p n ms u h numbers = opens p ms [] u h (distinct-by p ms (subst IsDistinct (sym numbers) (first-distinct n)))

-- ---- each number once

enters_times : (g : ℕ) (ms : List Mark) → count_by (enters g) ms ≡ times g (numbers_entered ms)
enters_times g [] = refl
enters_times g (enter p n ∷ ms) = count-cons (enters g) (enter p n) ms ∙ ap (λ k. cond (n == g) 1 0 + k) (enters_times g ms) ∙ sym (times-cons g n (numbers_entered ms))
enters_times g (leave p n ∷ ms) = none-more (enters g) (leave p n) ms refl ∙ enters_times g ms
enters_times g (begin p n ∷ ms) = none-more (enters g) (begin p n) ms refl ∙ enters_times g ms
enters_times g (finish p n ∷ ms) = none-more (enters g) (finish p n) ms refl ∙ enters_times g ms

times_beyond : (n g : ℕ) → n ≤ g → times g (first_numbers n) ≡ 0
unfolding first_numbers
times_beyond zero g le = refl
times_beyond (suc n) g le = times-last_other n g (first_numbers n) (λ same. let e = same in absurd (omega (arith, le, e))) ∙ times_beyond n g (omega (arith, le))

times_within : (n g : ℕ) → g < n → times g (first_numbers n) ≡ 1
unfolding first_numbers
times_within zero g lt = absurd (omega (arith, lt))
times_within (suc n) g lt = ⊎_elim
    (λ same. subst (λ k. times k (first_numbers n ++ n ∷ []) ≡ 1) (sym same) (let a = times-last_here n (first_numbers n) in let b = times_beyond n n (omega arith) in omega (arith, a, b)))
    (λ a. times-last_other n g (first_numbers n) a ∙ times_within n g (let d = a in omega (arith, lt, d)))
    (cases_eq g n)

-- ---- two that entered with one number are one

same_enter : (p q g : ℕ) (m : Mark) → m ≡ enter p g → m ≡ enter q g → p ≡ q
same_enter p q g m a b = cc

one_enters : (p q g : ℕ) (ms : List Mark) → count_by (enters g) ms ≤ 1 → In (enter p g) ms → In (enter q g) ms → p ≡ q
one_enters p q g [] once a b = absurd a
one_enters p q g (m ∷ ms) once (inl a) (inl b) = same_enter p q g m a b
one_enters p q g (m ∷ ms) once (inl a) (inr b) =
    let x = one-more (enters g) m ms (ap (enters g) a ∙ eq-eqb g g refl) in let y = count-in (enters g) (enter q g) ms b (eq-eqb g g refl) in absurd (omega (arith, once, x, y))
one_enters p q g (m ∷ ms) once (inr a) (inl b) =
    let x = one-more (enters g) m ms (ap (enters g) b ∙ eq-eqb g g refl) in let y = count-in (enters g) (enter p g) ms a (eq-eqb g g refl) in absurd (omega (arith, once, x, y))
one_enters p q g (m ∷ ms) once (inr a) (inr b) = let x = count-cons (enters g) m ms in one_enters p q g ms (omega (arith, once, x)) a b

pub record IsSplitAt (m : Mark) (ms : List Mark) : Type 0 where
  pub front : List Mark
  pub later : List Mark
  pub split : ms ≡ front ++ m ∷ later

split-in : (m : Mark) (ms : List Mark) → In m ms → IsSplitAt m ms
split-in m [] h = absurd h
split-in m (n ∷ ms) (inl is) = record { front = []; later = ms; split = ap (λ x. x ∷ ms) is }
split-in m (n ∷ ms) (inr h) = let s = split-in m ms h in record { front = n ∷ s.front; later = s.later; split = ap (λ xs. n ∷ xs) s.split }

module _ (n : ℕ) (ms : List Mark) (u : ℕ → List Part) (fits : (p : ℕ) → after_marks p ms [] ≡ Some (u p)) (numbers : numbers_entered ms ≡ first_numbers n) where
  pub enters-given : (g : ℕ) → g < n → count_by (enters g) ms ≡ 1
  enters-given g lt = enters_times g ms ∙ ap (times g) numbers ∙ times_within n g lt

  pub enters-beyond : (g : ℕ) → n ≤ g → count_by (enters g) ms ≡ 0
  enters-beyond g le = enters_times g ms ∙ ap (times g) numbers ∙ times_beyond n g le

  pub enters-once : (g : ℕ) → count_by (enters g) ms ≤ 1
  enters-once g = ⊎_elim (λ lt. let a = enters-given g lt in omega (arith, a)) (λ le. let a = enters-beyond g le in omega (arith, a)) (cases_lt g n)

  pub left-entered : (xs ys : List Mark) (p g : ℕ) → ms ≡ xs ++ leave p g ∷ ys → In (enter p g) xs
  left-entered xs ys p g split = left-from p g xs ys (u p) (ap (λ zs. after_marks p zs []) (sym split) ∙ fits p)

  pub begun-entered : (xs ys : List Mark) (p g : ℕ) → ms ≡ xs ++ begin p g ∷ ys → In (enter p g) xs
  begun-entered xs ys p g split = begun-from p g xs ys (u p) (ap (λ zs. after_marks p zs []) (sym split) ∙ fits p)

  pub finished-begun : (xs ys : List Mark) (p g : ℕ) → ms ≡ xs ++ finish p g ∷ ys → In (begin p g) xs
  finished-begun xs ys p g split = finished-from p g xs ys (u p) (ap (λ zs. after_marks p zs []) (sym split) ∙ fits p)

  in_whole : (x m : Mark) (s : IsSplitAt m ms) → In x s.front → In x ms
  in_whole x m s h = subst (In x) (sym s.split) (in-front x s.front (m ∷ s.later) h)

  pub leave-enters : (p g : ℕ) → In (leave p g) ms → In (enter p g) ms
  leave-enters p g h = let s = split-in (leave p g) ms h in in_whole (enter p g) (leave p g) s (left-entered s.front s.later p g s.split)

  pub begin-enters : (p g : ℕ) → In (begin p g) ms → In (enter p g) ms
  begin-enters p g h = let s = split-in (begin p g) ms h in in_whole (enter p g) (begin p g) s (begun-entered s.front s.later p g s.split)

  pub finish-begins : (p g : ℕ) → In (finish p g) ms → In (begin p g) ms
  finish-begins p g h = let s = split-in (finish p g) ms h in in_whole (begin p g) (finish p g) s (finished-begun s.front s.later p g s.split)

  pub finish-enters : (p g : ℕ) → In (finish p g) ms → In (enter p g) ms
  finish-enters p g h = let s = split-in (finish p g) ms h in begin-enters p g (in_whole (begin p g) (finish p g) s (finished-begun s.front s.later p g s.split))

  -- all marks of a guard are of the one that entered it
  module _ (p g : ℕ) (entered_it : In (enter p g) ms) where
    pub of-one : (q : ℕ) → In (enter q g) ms → q ≡ p
    of-one q h = one_enters q p g ms (enters-once g) h entered_it

    is_one : (q k : ℕ) → k ≡ g → q ≡ p → ((q == p) && (k == g)) ≡ true
    is_one q k a b = ap (λ x. x && (k == g)) (eq-eqb q p b) ∙ eq-eqb k g a

    ends_mine : (m : Mark) → In m ms → leaves_or_begins g m ≡ true → ends_by p g m ≡ true
    ends_mine (enter q k) h is = is
    ends_mine (leave q k) h is = let e = eqb-true k g is in is_one q k e (of-one q (leave-enters q g (subst (λ x. In (leave q x) ms) e h)))
    ends_mine (begin q k) h is = let e = eqb-true k g is in is_one q k e (of-one q (begin-enters q g (subst (λ x. In (begin q x) ms) e h)))
    ends_mine (finish q k) h is = is

    finishes_mine : (m : Mark) → In m ms → finishes g m ≡ true → finishes_by p g m ≡ true
    finishes_mine (enter q k) h is = is
    finishes_mine (leave q k) h is = is
    finishes_mine (begin q k) h is = is
    finishes_mine (finish q k) h is = let e = eqb-true k g is in is_one q k e (of-one q (finish-enters q g (subst (λ x. In (finish q x) ms) e h)))

    and_right : (a b : Bool) → (a && b) ≡ true → b ≡ true
    and_right true b h = h
    and_right false b h = absurd (true≢false (sym h))

    pub enters-any : (m : Mark) → In m ms → enters_by p g m ≡ true → enters g m ≡ true
    enters-any (enter q k) h is = and_right (q == p) (k == g) is
    enters-any (leave q k) h is = is
    enters-any (begin q k) h is = is
    enters-any (finish q k) h is = is

    begins_ends : (m : Mark) → In m ms → begins_by p g m ≡ true → ends_by p g m ≡ true
    begins_ends (enter q k) h is = is
    begins_ends (leave q k) h is = absurd (true≢false (sym is))
    begins_ends (begin q k) h is = is
    begins_ends (finish q k) h is = is

    ends_few : count_by (ends_by p g) ms ≤ 1
    ends_few =
        let a = ends-count p g ms [] (u p) (fits p) in
        let b = count-more (enters_by p g) (enters g) ms enters-any in
        let c = enters-once g in
        omega (arith, a, b, c)

    pub ends-once : count_by (leaves_or_begins g) ms ≤ 1
    ends-once = let a = count-more (leaves_or_begins g) (ends_by p g) ms ends_mine in let b = ends_few in omega (arith, a, b)

    pub finishes-once : count_by (finishes g) ms ≤ 1
    finishes-once =
        let a = count-more (finishes g) (finishes_by p g) ms finishes_mine in
        let b = finishes-count p g ms [] (u p) (fits p) in
        let c = count-more (begins_by p g) (ends_by p g) ms begins_ends in
        let d = ends_few in
        omega (arith, a, b, c, d)

  ends_of : (g : ℕ) (m : Mark) → In m ms → leaves_or_begins g m ≡ true → count_by (leaves_or_begins g) ms ≤ 1
  ends_of g (enter q k) h is = absurd (true≢false (sym is))
  ends_of g (leave q k) h is = ends-once q g (leave-enters q g (subst (λ x. In (leave q x) ms) (eqb-true k g is) h))
  ends_of g (begin q k) h is = ends-once q g (begin-enters q g (subst (λ x. In (begin q x) ms) (eqb-true k g is) h))
  ends_of g (finish q k) h is = absurd (true≢false (sym is))

  finishes_of : (g : ℕ) (m : Mark) → In m ms → finishes g m ≡ true → count_by (finishes g) ms ≤ 1
  finishes_of g (enter q k) h is = absurd (true≢false (sym is))
  finishes_of g (leave q k) h is = absurd (true≢false (sym is))
  finishes_of g (begin q k) h is = absurd (true≢false (sym is))
  finishes_of g (finish q k) h is = finishes-once q g (finish-enters q g (subst (λ x. In (finish q x) ms) (eqb-true k g is) h))

pub clean-marks : (t : Trace) (u : ℕ → List Part) → ((p : ℕ) → after_marks p t.marks [] ≡ Some (u p)) → numbers_entered t.marks ≡ first_numbers t.next_guard → CleanMarks t
clean-marks t u fits numbers = record {
  entered = enters-given t.next_guard t.marks u fits numbers;
  not_given = enters-beyond t.next_guard t.marks u fits numbers;
  once = λ g. ⊎_elim (λ none. omega (arith, none)) (λ x. ends_of t.next_guard t.marks u fits numbers g x.0 x.1 x.2) (some-or-none (leaves_or_begins g) t.marks);
  left = λ xs ys p g split. contains-in (enter p g) xs (left-entered t.next_guard t.marks u fits numbers xs ys p g split);
  begun = λ xs ys p g split. contains-in (enter p g) xs (begun-entered t.next_guard t.marks u fits numbers xs ys p g split);
  finished_once = λ g. ⊎_elim (λ none. omega (arith, none)) (λ x. finishes_of t.next_guard t.marks u fits numbers g x.0 x.1 x.2) (some-or-none (finishes g) t.marks);
  finished = λ xs ys p g split. contains-in (begin p g) xs (finished-begun t.next_guard t.marks u fits numbers xs ys p g split);
}
