-- What follows of marks that are nested and whose guards are entered with numbers of their own.
use Rattle.std.proofs.Common.{◌≡◌, ◌+◌, ◌<◌, ◌≤◌, ◌==◌, ◌&&◌, ◌⊎◌, ℕ, zero, suc, Bool, true, false, cond, List, [], ◌∷◌, ◌++◌, count_by, Contains, Option, Some, None, refl, sym, ap, ◌∙◌, subst, arith, inl, inr, ⊎_elim, eqb-true, eq-eqb, true≢false}
use Rattle.std.proofs.lemmas.List.Sums.{sum_by-cons}
use Rattle.std.proofs.lemmas.Option.{none-some, same_Some}
use Rattle.sim_model.specs.Residual.{Mark, enter, leave, begin, finish}
use Rattle.laws_runs.specs.Nesting.{Part, unbegun, running, after_leave, after_begin, after_finish, after_mark, on_some, after_marks}
use Rattle.laws_runs.proofs.Nested.{marks-append}

-- ---- what a mark does that fits

abbrev pub IsApart : ℕ → Mark → Type 0
IsApart p (enter q g) = (q == p) ≡ false
IsApart p (leave q g) = (q == p) ≡ false
IsApart p (begin q g) = (q == p) ≡ false
IsApart p (finish q g) = (q == p) ≡ false

pub data Moved (p : ℕ) : Mark → List Part → List Part → Type 0 where
  entered : (g : ℕ) (s : List Part) → Moved p (enter p g) s (unbegun g ∷ s)
  left : (g : ℕ) (s : List Part) → Moved p (leave p g) (unbegun g ∷ s) s
  began : (g : ℕ) (s : List Part) → Moved p (begin p g) (unbegun g ∷ s) (running g ∷ s)
  finished : (g : ℕ) (s : List Part) → Moved p (finish p g) (running g ∷ s) s
  apart : (m : Mark) (s : List Part) → IsApart p m → Moved p m s s

module _ (p : ℕ) where
  enter_by : (b : Bool) (q g : ℕ) (s t : List Part) → (q == p) ≡ b → cond b (Some (unbegun g ∷ s)) (Some s) ≡ Some t → Moved p (enter q g) s t
  enter_by true q g s t is h = subst (λ n. Moved p (enter n g) s t) (sym (eqb-true q p is)) (subst (Moved p (enter p g) s) (same_Some (unbegun g ∷ s) t h) (entered g s))
  enter_by false q g s t is h = subst (Moved p (enter q g) s) (same_Some s t h) (apart (enter q g) s is)

  leave_top : (b : Bool) (g n : ℕ) (s t : List Part) → (n == g) ≡ b → cond b (Some s) None ≡ Some t → Moved p (leave p g) (unbegun n ∷ s) t
  leave_top true g n s t is h = subst (λ k. Moved p (leave p g) (unbegun k ∷ s) t) (sym (eqb-true n g is)) (subst (Moved p (leave p g) (unbegun g ∷ s)) (same_Some s t h) (left g s))
  leave_top false g n s t is h = absurd (none-some t h)

  leave_of : (g : ℕ) (s t : List Part) → after_leave g s ≡ Some t → Moved p (leave p g) s t
  leave_of g [] t h = absurd (none-some t h)
  leave_of g (unbegun n ∷ s) t h = leave_top (n == g) g n s t refl h
  leave_of g (running n ∷ s) t h = absurd (none-some t h)

  leave_by : (b : Bool) (q g : ℕ) (s t : List Part) → (q == p) ≡ b → cond b (after_leave g s) (Some s) ≡ Some t → Moved p (leave q g) s t
  leave_by true q g s t is h = subst (λ n. Moved p (leave n g) s t) (sym (eqb-true q p is)) (leave_of g s t h)
  leave_by false q g s t is h = subst (Moved p (leave q g) s) (same_Some s t h) (apart (leave q g) s is)

  begin_top : (b : Bool) (g n : ℕ) (s t : List Part) → (n == g) ≡ b → cond b (Some (running n ∷ s)) None ≡ Some t → Moved p (begin p g) (unbegun n ∷ s) t
  begin_top true g n s t is h =
      subst (λ k. Moved p (begin p k) (unbegun n ∷ s) t) (eqb-true n g is) (subst (Moved p (begin p n) (unbegun n ∷ s)) (same_Some (running n ∷ s) t h) (began n s))
  begin_top false g n s t is h = absurd (none-some t h)

  begin_of : (g : ℕ) (s t : List Part) → after_begin g s ≡ Some t → Moved p (begin p g) s t
  begin_of g [] t h = absurd (none-some t h)
  begin_of g (unbegun n ∷ s) t h = begin_top (n == g) g n s t refl h
  begin_of g (running n ∷ s) t h = absurd (none-some t h)

  begin_by : (b : Bool) (q g : ℕ) (s t : List Part) → (q == p) ≡ b → cond b (after_begin g s) (Some s) ≡ Some t → Moved p (begin q g) s t
  begin_by true q g s t is h = subst (λ n. Moved p (begin n g) s t) (sym (eqb-true q p is)) (begin_of g s t h)
  begin_by false q g s t is h = subst (Moved p (begin q g) s) (same_Some s t h) (apart (begin q g) s is)

  finish_top : (b : Bool) (g n : ℕ) (s t : List Part) → (n == g) ≡ b → cond b (Some s) None ≡ Some t → Moved p (finish p g) (running n ∷ s) t
  finish_top true g n s t is h = subst (λ k. Moved p (finish p g) (running k ∷ s) t) (sym (eqb-true n g is)) (subst (Moved p (finish p g) (running g ∷ s)) (same_Some s t h) (finished g s))
  finish_top false g n s t is h = absurd (none-some t h)

  finish_of : (g : ℕ) (s t : List Part) → after_finish g s ≡ Some t → Moved p (finish p g) s t
  finish_of g [] t h = absurd (none-some t h)
  finish_of g (unbegun n ∷ s) t h = absurd (none-some t h)
  finish_of g (running n ∷ s) t h = finish_top (n == g) g n s t refl h

  finish_by : (b : Bool) (q g : ℕ) (s t : List Part) → (q == p) ≡ b → cond b (after_finish g s) (Some s) ≡ Some t → Moved p (finish q g) s t
  finish_by true q g s t is h = subst (λ n. Moved p (finish n g) s t) (sym (eqb-true q p is)) (finish_of g s t h)
  finish_by false q g s t is h = subst (Moved p (finish q g) s) (same_Some s t h) (apart (finish q g) s is)

  pub moved-by : (m : Mark) (s t : List Part) → after_mark p m s ≡ Some t → Moved p m s t
  moved-by (enter q g) s t h = enter_by (q == p) q g s t refl h
  moved-by (leave q g) s t h = leave_by (q == p) q g s t refl h
  moved-by (begin q g) s t h = begin_by (q == p) q g s t refl h
  moved-by (finish q g) s t h = finish_by (q == p) q g s t refl h

-- what is true of marks that fit, one by one
pub record Steps (p : ℕ) (m : Mark) (ms : List Mark) (s u : List Part) : Type 0 where
  pub between : List Part
  pub moved : Moved p m s between
  pub later : after_marks p ms between ≡ Some u

pub steps-of : (p : ℕ) (m : Mark) (ms : List Mark) (s u : List Part) → after_marks p (m ∷ ms) s ≡ Some u → Steps p m ms s u
steps-of p m ms s u h = by (after_mark p m s) refl h
  where
    by : (o : Option (List Part)) → after_mark p m s ≡ o → on_some (after_marks p ms) o ≡ Some u → Steps p m ms s u
    by None is k = absurd (none-some u k)
    by (Some t) is k = record { between = t; moved = moved-by p m s t is; later = k }

-- ---- elements of lists

abbrev pub In : {A : Type 0} → A → List A → Type 0
In x [] = ⊥
In x (y ∷ ys) = (y ≡ x) ⊎ In x ys

pub contains-in : {A : Type 0} (x : A) (xs : List A) → In x xs → Contains xs x
contains-in x [] h = absurd h
contains-in x (y ∷ ys) (inl is) = (zero, omega arith, is)
contains-in x (y ∷ ys) (inr h) = let c = contains-in x ys h in let within = c.1 in (suc c.0, omega (arith, within), c.2)

pub in-front : {A : Type 0} (x : A) (xs ys : List A) → In x xs → In x (xs ++ ys)
in-front x [] ys h = absurd h
in-front x (y ∷ xs) ys (inl is) = inl is
in-front x (y ∷ xs) ys (inr h) = inr (in-front x xs ys h)

-- ---- what is open was entered, and what runs was begun

abbrev pub From : ℕ → List Mark → Part → Type 0
From p ms (unbegun g) = In (enter p g) ms
From p ms (running g) = In (begin p g) ms

from_later : (p : ℕ) (m : Mark) (ms : List Mark) (x : Part) → From p ms x → From p (m ∷ ms) x
from_later p m ms (unbegun g) h = inr h
from_later p m ms (running g) h = inr h

module _ (p : ℕ) where
  from_moved : (m : Mark) (ms : List Mark) (s t : List Part) (x : Part) → Moved p m s t → In x t → In x s ⊎ From p (m ∷ ms) x
  from_moved m ms s t x (entered g r) (inl is) = inr (subst (From p (enter p g ∷ ms)) is (inl refl))
  from_moved m ms s t x (entered g r) (inr h) = inl h
  from_moved m ms s t x (left g r) h = inl (inr h)
  from_moved m ms s t x (began g r) (inl is) = inr (subst (From p (begin p g ∷ ms)) is (inl refl))
  from_moved m ms s t x (began g r) (inr h) = inl (inr h)
  from_moved m ms s t x (finished g r) h = inl (inr h)
  from_moved m ms s t x (apart n r a) h = inl h

  pub from-marks : (ms : List Mark) (s u : List Part) → after_marks p ms s ≡ Some u → (x : Part) → In x u → In x s ⊎ From p ms x
  from-marks [] s u h x is = inl (subst (In x) (same_Some u s (sym h)) is)
  from-marks (m ∷ ms) s u h x is =
      let k = steps-of p m ms s u h in
      ⊎_elim (λ before. from_moved m ms s k.between x k.moved before) (λ from. inr (from_later p m ms x from)) (from-marks ms k.between u k.later x is)

  -- what stood on top where a mark came
  record Front (xs : List Mark) (m : Mark) : Type 0 where
    before : List Part
    behind : List Part
    reached : after_marks p xs [] ≡ Some before
    moved : Moved p m before behind

  front_at : (xs ys : List Mark) (m : Mark) (u : List Part) (o : Option (List Part)) → after_marks p xs [] ≡ o → on_some (after_marks p (m ∷ ys)) o ≡ Some u → Front xs m
  front_at xs ys m u None is k = absurd (none-some u k)
  front_at xs ys m u (Some t) is k = let w = steps-of p m ys t u k in record { before = t; behind = w.between; reached = is; moved = w.moved }

  front_of : (xs ys : List Mark) (m : Mark) (u : List Part) → after_marks p (xs ++ m ∷ ys) [] ≡ Some u → Front xs m
  front_of xs ys m u h = front_at xs ys m u (after_marks p xs []) refl (sym (marks-append p xs (m ∷ ys) []) ∙ h)

  same_leave : (n g : ℕ) → leave p n ≡ leave p g → n ≡ g
  same_leave n g e = cc

  same_begin : (n g : ℕ) → begin p n ≡ begin p g → n ≡ g
  same_begin n g e = cc

  same_finish : (n g : ℕ) → finish p n ≡ finish p g → n ≡ g
  same_finish n g e = cc

  not_apart : (m : Mark) → IsApart p m → (g : ℕ) → (m ≡ leave p g) ⊎ ((m ≡ begin p g) ⊎ (m ≡ finish p g)) → ⊥
  not_apart m a g (inl e) = true≢false (sym (eq-eqb p p refl) ∙ subst (IsApart p) e a)
  not_apart m a g (inr (inl e)) = true≢false (sym (eq-eqb p p refl) ∙ subst (IsApart p) e a)
  not_apart m a g (inr (inr e)) = true≢false (sym (eq-eqb p p refl) ∙ subst (IsApart p) e a)

  leave_at : (g : ℕ) (m : Mark) (s t : List Part) → Moved p m s t → m ≡ leave p g → In (unbegun g) s
  leave_at g m s t (entered n r) e = cc
  leave_at g m s t (left n r) e = inl (ap unbegun (same_leave n g e))
  leave_at g m s t (began n r) e = cc
  leave_at g m s t (finished n r) e = cc
  leave_at g m s t (apart n r a) e = absurd (not_apart m a g (inl e))

  begin_at : (g : ℕ) (m : Mark) (s t : List Part) → Moved p m s t → m ≡ begin p g → In (unbegun g) s
  begin_at g m s t (entered n r) e = cc
  begin_at g m s t (left n r) e = cc
  begin_at g m s t (began n r) e = inl (ap unbegun (same_begin n g e))
  begin_at g m s t (finished n r) e = cc
  begin_at g m s t (apart n r a) e = absurd (not_apart m a g (inr (inl e)))

  finish_at : (g : ℕ) (m : Mark) (s t : List Part) → Moved p m s t → m ≡ finish p g → In (running g) s
  finish_at g m s t (entered n r) e = cc
  finish_at g m s t (left n r) e = cc
  finish_at g m s t (began n r) e = cc
  finish_at g m s t (finished n r) e = inl (ap running (same_finish n g e))
  finish_at g m s t (apart n r a) e = absurd (not_apart m a g (inr (inr e)))

  from_start : (xs : List Mark) (m : Mark) (x : Part) → (f : Front xs m) → In x f.before → From p xs x
  from_start xs m x f is = ⊎_elim (λ n. absurd n) (λ k. k) (from-marks xs [] f.before f.reached x is)

  pub left-from : (g : ℕ) (xs ys : List Mark) (u : List Part) → after_marks p (xs ++ leave p g ∷ ys) [] ≡ Some u → In (enter p g) xs
  left-from g xs ys u h = let f = front_of xs ys (leave p g) u h in from_start xs (leave p g) (unbegun g) f (leave_at g (leave p g) f.before f.behind f.moved refl)

  pub begun-from : (g : ℕ) (xs ys : List Mark) (u : List Part) → after_marks p (xs ++ begin p g ∷ ys) [] ≡ Some u → In (enter p g) xs
  begun-from g xs ys u h = let f = front_of xs ys (begin p g) u h in from_start xs (begin p g) (unbegun g) f (begin_at g (begin p g) f.before f.behind f.moved refl)

  pub finished-from : (g : ℕ) (xs ys : List Mark) (u : List Part) → after_marks p (xs ++ finish p g ∷ ys) [] ≡ Some u → In (begin p g) xs
  finished-from g xs ys u h = let f = front_of xs ys (finish p g) u h in from_start xs (finish p g) (running g) f (finish_at g (finish p g) f.before f.behind f.moved refl)

-- ---- how often

pub count-cons : {A : Type 0} (f : A → Bool) (x : A) (xs : List A) → count_by f (x ∷ xs) ≡ cond (f x) 1 0 + count_by f xs
count-cons f x xs = sum_by-cons (λ y. cond (f y) 1 0) x xs

pub one-more : {A : Type 0} (f : A → Bool) (x : A) (xs : List A) → f x ≡ true → count_by f (x ∷ xs) ≡ 1 + count_by f xs
one-more f x xs is = count-cons f x xs ∙ ap (λ b. cond b 1 0 + count_by f xs) is

pub none-more : {A : Type 0} (f : A → Bool) (x : A) (xs : List A) → f x ≡ false → count_by f (x ∷ xs) ≡ count_by f xs
none-more f x xs is = count-cons f x xs ∙ ap (λ b. cond b 1 0 + count_by f xs) is ∙ omega arith

pub count-in : {A : Type 0} (f : A → Bool) (x : A) (xs : List A) → In x xs → f x ≡ true → 0 < count_by f xs
count-in f x [] h is = absurd h
count-in f x (y ∷ xs) (inl e) is = let a = one-more f y xs (ap f e ∙ is) in omega (arith, a)
count-in f x (y ∷ xs) (inr h) is = let a = count-cons f y xs in let b = count-in f x xs h is in omega (arith, a, b)

cond_more : (a b : Bool) → (a ≡ true → b ≡ true) → cond a 1 0 ≤ cond b 1 0
cond_more true true h = omega arith
cond_more true false h = absurd (true≢false (sym (h refl)))
cond_more false true h = omega arith
cond_more false false h = omega arith

pub count-more : {A : Type 0} (f h : A → Bool) (xs : List A) → ((x : A) → In x xs → f x ≡ true → h x ≡ true) → count_by f xs ≤ count_by h xs
count-more f h [] more = omega arith
count-more f h (x ∷ xs) more =
    let a = count-cons f x xs in let b = count-cons h x xs in let c = cond_more (f x) (h x) (more x (inl refl)) in let d = count-more f h xs (λ y is. more y (inr is)) in
    omega (arith, a, b, c, d)

-- either none passes a test, or one that does is there
pub some-or-none : {A : Type 0} (f : A → Bool) (xs : List A) → (count_by f xs ≡ 0) ⊎ ((x : A) × In x xs × (f x ≡ true))
some-or-none f [] = inl refl
some-or-none f (x ∷ xs) = by (f x) refl (some-or-none f xs)
  where
    by : (b : Bool) → f x ≡ b → (count_by f xs ≡ 0) ⊎ ((y : _) × In y xs × (f y ≡ true)) → (count_by f (x ∷ xs) ≡ 0) ⊎ ((y : _) × In y (x ∷ xs) × (f y ≡ true))
    by true is rest = inr (x, inl refl, is)
    by false is (inl none) = inl (none-more f x xs is ∙ none)
    by false is (inr some) = inr (some.0, inr some.1, some.2)

-- ---- of one instance and one guard

abbrev pub enters_by : ℕ → ℕ → Mark → Bool
enters_by p g (enter q n) = (q == p) && (n == g)
enters_by p g (leave q n) = false
enters_by p g (begin q n) = false
enters_by p g (finish q n) = false

abbrev pub ends_by : ℕ → ℕ → Mark → Bool
ends_by p g (enter q n) = false
ends_by p g (leave q n) = (q == p) && (n == g)
ends_by p g (begin q n) = (q == p) && (n == g)
ends_by p g (finish q n) = false

abbrev pub begins_by : ℕ → ℕ → Mark → Bool
begins_by p g (enter q n) = false
begins_by p g (leave q n) = false
begins_by p g (begin q n) = (q == p) && (n == g)
begins_by p g (finish q n) = false

abbrev pub finishes_by : ℕ → ℕ → Mark → Bool
finishes_by p g (enter q n) = false
finishes_by p g (leave q n) = false
finishes_by p g (begin q n) = false
finishes_by p g (finish q n) = (q == p) && (n == g)

abbrev pub waits_in : ℕ → Part → Bool
waits_in g (unbegun n) = n == g
waits_in g (running n) = false

abbrev pub runs_in : ℕ → Part → Bool
runs_in g (unbegun n) = false
runs_in g (running n) = n == g

own_test : (p n g : ℕ) → ((p == p) && (n == g)) ≡ (n == g)
own_test p n g = ap (λ b. b && (n == g)) (eq-eqb p p refl)

other_test : (p q n g : ℕ) → (q == p) ≡ false → ((q == p) && (n == g)) ≡ false
other_test p q n g is = ap (λ b. b && (n == g)) is

module _ (p g : ℕ) where
  ends_apart : (m : Mark) → IsApart p m → ends_by p g m ≡ false
  ends_apart (enter q n) a = refl
  ends_apart (leave q n) a = other_test p q n g a
  ends_apart (begin q n) a = other_test p q n g a
  ends_apart (finish q n) a = refl

  enters_apart : (m : Mark) → IsApart p m → enters_by p g m ≡ false
  enters_apart (enter q n) a = other_test p q n g a
  enters_apart (leave q n) a = refl
  enters_apart (begin q n) a = refl
  enters_apart (finish q n) a = refl

  begins_apart : (m : Mark) → IsApart p m → begins_by p g m ≡ false
  begins_apart (enter q n) a = refl
  begins_apart (leave q n) a = refl
  begins_apart (begin q n) a = other_test p q n g a
  begins_apart (finish q n) a = refl

  finishes_apart : (m : Mark) → IsApart p m → finishes_by p g m ≡ false
  finishes_apart (enter q n) a = refl
  finishes_apart (leave q n) a = refl
  finishes_apart (begin q n) a = refl
  finishes_apart (finish q n) a = other_test p q n g a

  one_zero : (n : ℕ) → cond {A = ℕ} ((p == p) && (n == g)) 1 0 ≡ cond (n == g) 1 0
  one_zero n = ap (λ b. cond {A = ℕ} b 1 0) (own_test p n g)

  -- an entered guard is left or begun, or still waits
  ends_one : (m : Mark) (s t : List Part) → Moved p m s t → cond (ends_by p g m) 1 0 + count_by (waits_in g) t ≡ cond (enters_by p g m) 1 0 + count_by (waits_in g) s
  ends_one m s t (entered n r) = let a = count-cons (waits_in g) (unbegun n) r in let b = one_zero n in omega (arith, a, b)
  ends_one m s t (left n r) = let a = count-cons (waits_in g) (unbegun n) r in let b = one_zero n in omega (arith, a, b)
  ends_one m s t (began n r) = let a = count-cons (waits_in g) (unbegun n) r in let b = one_zero n in let c = count-cons (waits_in g) (running n) r in omega (arith, a, b, c)
  ends_one m s t (finished n r) = let a = count-cons (waits_in g) (running n) r in omega (arith, a)
  ends_one m s t (apart n r a) = let b = ap (λ b. cond {A = ℕ} b 1 0) (ends_apart n a) in let c = ap (λ b. cond {A = ℕ} b 1 0) (enters_apart n a) in omega (arith, b, c)

  -- a begun unwind block is finished, or still runs
  finishes_one : (m : Mark) (s t : List Part) → Moved p m s t → cond (finishes_by p g m) 1 0 + count_by (runs_in g) t ≡ cond (begins_by p g m) 1 0 + count_by (runs_in g) s
  finishes_one m s t (entered n r) = let a = count-cons (runs_in g) (unbegun n) r in omega (arith, a)
  finishes_one m s t (left n r) = let a = count-cons (runs_in g) (unbegun n) r in omega (arith, a)
  finishes_one m s t (began n r) = let a = count-cons (runs_in g) (running n) r in let b = one_zero n in let c = count-cons (runs_in g) (unbegun n) r in omega (arith, a, b, c)
  finishes_one m s t (finished n r) = let a = count-cons (runs_in g) (running n) r in let b = one_zero n in omega (arith, a, b)
  finishes_one m s t (apart n r a) = let b = ap (λ b. cond {A = ℕ} b 1 0) (finishes_apart n a) in let c = ap (λ b. cond {A = ℕ} b 1 0) (begins_apart n a) in omega (arith, b, c)

  pub ends-count : (ms : List Mark) (s u : List Part) → after_marks p ms s ≡ Some u → count_by (ends_by p g) ms + count_by (waits_in g) u ≡ count_by (enters_by p g) ms + count_by (waits_in g) s
  ends-count [] s u h = ap (λ t. 0 + count_by (waits_in g) t) (same_Some u s (sym h))
  ends-count (m ∷ ms) s u h =
      let k = steps-of p m ms s u h in
      let a = ends_one m s k.between k.moved in
      let b = ends-count ms k.between u k.later in
      let c = count-cons (ends_by p g) m ms in
      let d = count-cons (enters_by p g) m ms in
      omega (arith, a, b, c, d)

  pub finishes-count : (ms : List Mark) (s u : List Part) → after_marks p ms s ≡ Some u → count_by (finishes_by p g) ms + count_by (runs_in g) u ≡ count_by (begins_by p g) ms + count_by (runs_in g) s
  finishes-count [] s u h = ap (λ t. 0 + count_by (runs_in g) t) (same_Some u s (sym h))
  finishes-count (m ∷ ms) s u h =
      let k = steps-of p m ms s u h in
      let a = finishes_one m s k.between k.moved in
      let b = finishes-count ms k.between u k.later in
      let c = count-cons (finishes_by p g) m ms in
      let d = count-cons (begins_by p g) m ms in
      omega (arith, a, b, c, d)
