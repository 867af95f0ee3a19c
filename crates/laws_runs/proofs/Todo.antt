-- What marks still have to end of the guards that are open.
use Rattle.std.proofs.Common.{◌≡◌, ◌==◌, ◌||◌, ℕ, Bool, true, false, cond, ◌⊎◌, List, [], ◌∷◌, ◌++◌, filter, Some, refl, sym, ap, ◌∙◌, subst, inl, inr, eq-eqb, eqb-true, true≢false, append_assoc, append-nil}
use Rattle.std.proofs.lemmas.Option.{same_Some}
use Rattle.sim_model.specs.Residual.{Residual, Mark, skip, one, batch, seq, owing, guard, try_, frame, shell, run, goal, enter, leave, begin, finish}
use Rattle.sim_model.specs.Waits.{holds}
use Rattle.sim_model.specs.Clean.{guards_of}
use Rattle.laws_runs.specs.Shapes.{IsNormal, IsUnwound, IsShaped}
use Rattle.laws_runs.specs.Marks.{IsDistinct}
use Rattle.laws_runs.specs.Nesting.{Part, unbegun, running, after_marks, parts_of}
use Rattle.laws_runs.proofs.NestingFits.{IsApart, Moved, entered, left, began, finished, apart, steps-of, In}
use Rattle.laws_runs.proofs.Opened.{number, outside}
use Rattle.laws_runs.specs.Once.{guards_below, innermost_first, is_end_of, ends_of, once_each}
use Rattle.laws_runs.proofs.Inside.{is_inside, or-left, or-right}
use Rattle.laws_runs.proofs.First.{runs}

-- ---- lists

pub filter-append : {A : Type 0} (f : A → Bool) (xs ys : List A) → filter f (xs ++ ys) ≡ filter f xs ++ filter f ys
filter-append f [] ys = refl
filter-append f (x ∷ xs) ys = by (f x) (filter-append f xs ys)
  where
    by : (b : Bool) → filter f (xs ++ ys) ≡ filter f xs ++ filter f ys → cond b (x ∷ filter f (xs ++ ys)) (filter f (xs ++ ys)) ≡ cond b (x ∷ filter f xs) (filter f xs) ++ filter f ys
    by true h = ap (λ zs. x ∷ zs) h
    by false h = h

pub filter-none : {A : Type 0} (f : A → Bool) (xs : List A) → ((x : A) → In x xs → f x ≡ true → ⊥) → filter f xs ≡ []
filter-none f [] none = refl
filter-none f (x ∷ xs) none = by (f x) refl (filter-none f xs (λ y h. none y (inr h)))
  where
    by : (b : Bool) → f x ≡ b → filter f xs ≡ [] → cond b (x ∷ filter f xs) (filter f xs) ≡ []
    by true is later = absurd (none x (inl refl) is)
    by false is later = later

-- ---- the ends that are to come, by what is open

module _ (q : ℕ) (gs : List ℕ) where
  abbrev pub todo : List Part → List Mark
  todo [] = []
  todo (unbegun g ∷ s) = cond (holds gs g) (begin q g ∷ finish q g ∷ todo s) (todo s)
  todo (running g ∷ s) = cond (holds gs g) (finish q g ∷ todo s) (todo s)

  -- a mark that q alone may make of these guards, and that enters and leaves none of them
  abbrev pub OkMark : Mark → Type 0
  OkMark (enter p g) = p ≡ q → holds gs g ≡ false
  OkMark (leave p g) = holds gs g ≡ false
  OkMark (begin p g) = holds gs g ≡ true → p ≡ q
  OkMark (finish p g) = holds gs g ≡ true → p ≡ q

  not_true : (b : Bool) → (b ≡ true → ⊥) → b ≡ false
  not_true true h = absurd (h refl)
  not_true false h = refl

  apart_not : (p : ℕ) → (p == q) ≡ false → p ≡ q → ⊥
  apart_not p a e = true≢false (sym (eq-eqb p q e) ∙ a)

  apart_end : (m : Mark) → IsApart q m → OkMark m → is_end_of gs m ≡ false
  apart_end (enter p g) a ok = refl
  apart_end (leave p g) a ok = ok
  apart_end (begin p g) a ok = not_true (holds gs g) (λ is. apart_not p a (ok is))
  apart_end (finish p g) a ok = not_true (holds gs g) (λ is. apart_not p a (ok is))

  skip_one : (m : Mark) (ms : List Mark) → is_end_of gs m ≡ false → ends_of gs (m ∷ ms) ≡ ends_of gs ms
  skip_one m ms is = ap (λ b. cond b (m ∷ ends_of gs ms) (ends_of gs ms)) is

  skip_todo : (g : ℕ) (s : List Part) → holds gs g ≡ false → todo (unbegun g ∷ s) ≡ todo s
  skip_todo g s is = ap (λ b. cond b (begin q g ∷ finish q g ∷ todo s) (todo s)) is

  began_by : (b : Bool) (g : ℕ) (r : List Part) (es rest : List Mark) → es ++ rest ≡ cond b (finish q g ∷ todo r) (todo r) → cond b (begin q g ∷ es) es ++ rest ≡ cond b (begin q g ∷ finish q g ∷ todo r) (todo r)
  began_by true g r es rest h = ap (λ zs. begin q g ∷ zs) h
  began_by false g r es rest h = h

  finished_by : (b : Bool) (g : ℕ) (r : List Part) (es rest : List Mark) → es ++ rest ≡ todo r → cond b (finish q g ∷ es) es ++ rest ≡ cond b (finish q g ∷ todo r) (todo r)
  finished_by true g r es rest h = ap (λ zs. finish q g ∷ zs) h
  finished_by false g r es rest h = h

  todo_one : (m : Mark) (ms : List Mark) (s t u : List Part) → OkMark m → Moved q m s t → ends_of gs ms ++ todo u ≡ todo t → ends_of gs (m ∷ ms) ++ todo u ≡ todo s
  todo_one m ms s t u ok (entered g r) later = later ∙ skip_todo g r (ok refl)
  todo_one m ms s t u ok (left g r) later = ap (λ es. es ++ todo u) (skip_one (leave q g) ms ok) ∙ later ∙ sym (skip_todo g r ok)
  todo_one m ms s t u ok (began g r) later = began_by (holds gs g) g r (ends_of gs ms) (todo u) later
  todo_one m ms s t u ok (finished g r) later = finished_by (holds gs g) g r (ends_of gs ms) (todo u) later
  todo_one m ms s t u ok (apart n r a) later = ap (λ es. es ++ todo u) (skip_one n ms (apart_end n a ok)) ∙ later

  pub todo-marks : (ms : List Mark) (s u : List Part) → after_marks q ms s ≡ Some u → ((m : Mark) → In m ms → OkMark m) → ends_of gs ms ++ todo u ≡ todo s
  todo-marks [] s u h ok = ap todo (sym (same_Some s u h))
  todo-marks (m ∷ ms) s u h ok = let k = steps-of q m ms s u h in todo_one m ms s k.between u (ok m (inl refl)) k.moved (todo-marks ms k.between u k.later (λ n is. ok n (inr is)))

  pub todo-append : (s t : List Part) → todo (s ++ t) ≡ todo s ++ todo t
  todo-append [] t = refl
  todo-append (unbegun g ∷ s) t = by (holds gs g) (todo-append s t)
    where
      by : (b : Bool) → todo (s ++ t) ≡ todo s ++ todo t → cond b (begin q g ∷ finish q g ∷ todo (s ++ t)) (todo (s ++ t)) ≡ cond b (begin q g ∷ finish q g ∷ todo s) (todo s) ++ todo t
      by true h = ap (λ zs. begin q g ∷ finish q g ∷ zs) h
      by false h = h
  todo-append (running g ∷ s) t = by (holds gs g) (todo-append s t)
    where
      by : (b : Bool) → todo (s ++ t) ≡ todo s ++ todo t → cond b (finish q g ∷ todo (s ++ t)) (todo (s ++ t)) ≡ cond b (finish q g ∷ todo s) (todo s) ++ todo t
      by true h = ap (λ zs. finish q g ∷ zs) h
      by false h = h

  -- nothing is to come of others
  pub todo-none : (s : List Part) → ((x : Part) → In x s → holds gs (number x) ≡ false) → todo s ≡ []
  todo-none [] others = refl
  todo-none (unbegun g ∷ s) others = ap (λ b. cond b (begin q g ∷ finish q g ∷ todo s) (todo s)) (others (unbegun g) (inl refl)) ∙ todo-none s (λ x h. others x (inr h))
  todo-none (running g ∷ s) others = ap (λ b. cond b (finish q g ∷ todo s) (todo s)) (others (running g) (inl refl)) ∙ todo-none s (λ x h. others x (inr h))

abbrev pub AllUnbegun : List Part → Type 0
AllUnbegun [] = Unit {0}
AllUnbegun (unbegun g ∷ s) = AllUnbegun s
AllUnbegun (running g ∷ s) = ⊥

abbrev pub numbers : List Part → List ℕ
numbers [] = []
numbers (x ∷ s) = number x ∷ numbers s

-- all is to come of those that are to be unwound
pub todo-all : (q : ℕ) (gs : List ℕ) (s : List Part) → AllUnbegun s → ((x : Part) → In x s → holds gs (number x) ≡ true) → todo q gs s ≡ once_each q (numbers s)
todo-all q gs [] all held = refl
todo-all q gs (unbegun g ∷ s) all held = ap (λ b. cond b (begin q g ∷ finish q g ∷ todo q gs s) (todo q gs s)) (held (unbegun g) (inl refl)) ∙ ap (λ ms. begin q g ∷ finish q g ∷ ms) (todo-all q gs s all (λ x h. held x (inr h)))
todo-all q gs (running g ∷ s) all held = absurd all

-- ---- numbers from outside in, and the other way about

innermost_last : (xs : List ℕ) (x : ℕ) → innermost_first (xs ++ x ∷ []) ≡ x ∷ innermost_first xs
innermost_last [] x = refl
innermost_last (y ∷ xs) x = ap (λ zs. zs ++ y ∷ []) (innermost_last xs x)

pub innermost-numbers : (s : List Part) → innermost_first (outside s) ≡ numbers s
innermost-numbers [] = refl
innermost-numbers (x ∷ s) = innermost_last (outside s) (number x) ∙ ap (λ ns. number x ∷ ns) (innermost-numbers s)

outside_last : (s : List Part) (x : Part) → outside (s ++ x ∷ []) ≡ number x ∷ outside s
outside_last [] x = refl
outside_last (y ∷ s) x = ap (λ gs. gs ++ number y ∷ []) (outside_last s x)

pub outside-append : (s t : List Part) → outside (s ++ t) ≡ outside t ++ outside s
outside-append [] t = sym (append-nil (outside t))
outside-append (x ∷ s) t = ap (λ gs. gs ++ number x ∷ []) (outside-append s t) ∙ append_assoc (outside t) (outside s) (number x ∷ [])

in_last : {A : Type 0} (x : A) (xs : List A) → In x (xs ++ x ∷ [])
in_last x [] = inl refl
in_last x (y ∷ xs) = inr (in_last x xs)

in_front : {A : Type 0} (x y : A) (xs : List A) → In x xs → In x (xs ++ y ∷ [])
in_front x y [] h = absurd h
in_front x y (z ∷ xs) (inl is) = inl is
in_front x y (z ∷ xs) (inr h) = inr (in_front x y xs h)

pub in-outside : (x : Part) (s : List Part) → In x s → In (number x) (outside s)
in-outside x [] h = absurd h
in-outside x (y ∷ s) (inl is) = subst (λ n. In n (outside s ++ number y ∷ [])) (ap number is) (in_last (number y) (outside s))
in-outside x (y ∷ s) (inr h) = in_front (number x) (number y) (outside s) (in-outside x s h)

or_true : (a b : Bool) → b ≡ true → (a || b) ≡ true
or_true true b h = refl
or_true false b h = h

pub in-holds : (n : ℕ) (xs : List ℕ) → In n xs → holds xs n ≡ true
in-holds n [] h = absurd h
in-holds n (x ∷ xs) (inl is) = ap (λ b. b || holds xs n) (eq-eqb x n is)
in-holds n (x ∷ xs) (inr h) = or_true (x == n) (holds xs n) (in-holds n xs h)

pub holds-in : (n : ℕ) (xs : List ℕ) → holds xs n ≡ true → In n xs
holds-in n [] h = absurd (true≢false (sym h))
holds-in n (x ∷ xs) h = by (x == n) refl h (holds-in n xs)
  where
    by : (b : Bool) → (x == n) ≡ b → (b || holds xs n) ≡ true → (holds xs n ≡ true → In n xs) → In n (x ∷ xs)
    by true is k later = inl (eqb-true x n is)
    by false is k later = inr (later k)

holds_front : (xs ys : List ℕ) (n : ℕ) → holds (xs ++ ys) n ≡ false → holds ys n ≡ false
holds_front [] ys n h = h
holds_front (x ∷ xs) ys n h = holds_front xs ys n (or-right (x == n) (holds (xs ++ ys) n) h)

pub distinct-apart : (n : ℕ) (xs ys : List ℕ) → IsDistinct (xs ++ ys) → In n xs → holds ys n ≡ false
distinct-apart n [] ys d h = absurd h
distinct-apart n (x ∷ xs) ys d (inl is) = subst (λ k. holds ys k ≡ false) is (holds_front xs ys x d.0)
distinct-apart n (x ∷ xs) ys d (inr h) = distinct-apart n xs ys d.1 h

less_held : (f : ℕ → Bool) (n : ℕ) (ys : List ℕ) → holds ys n ≡ false → holds (filter f ys) n ≡ false
less_held f n [] h = refl
less_held f n (y ∷ ys) h = keep (f y) (less_held f n ys (or-right (y == n) (holds ys n) h))
  where
    keep : (b : Bool) → holds (filter f ys) n ≡ false → holds (cond b (y ∷ filter f ys) (filter f ys)) n ≡ false
    keep true k = ap (λ b. b || holds (filter f ys) n) (or-left (y == n) (holds ys n) h) ∙ k
    keep false k = k

pub distinct-filter : (f : ℕ → Bool) (xs : List ℕ) → IsDistinct xs → IsDistinct (filter f xs)
distinct-filter f [] d = tt
distinct-filter f (x ∷ xs) d = by (f x) (distinct-filter f xs d.1)
  where
    by : (b : Bool) → IsDistinct (filter f xs) → IsDistinct (cond b (x ∷ filter f xs) (filter f xs))
    by true k = (less_held f x xs d.0, k)
    by false k = k

-- ---- the parts below a goal, and those around it

abbrev pub below_of : Residual → List Part
below_of skip = []
below_of (one s) = []
below_of (batch s qs) = []
below_of (seq r ss) = below_of r
below_of (owing r g u) = below_of r
below_of (guard r g u) = below_of r
below_of (try_ r handlers) = below_of r
below_of (frame r x) = below_of r
below_of (shell r x) = below_of r
below_of (run g r) = below_of r
below_of (goal r k) = parts_of r

abbrev pub outer_of : Residual → List Part
outer_of skip = []
outer_of (one s) = []
outer_of (batch s qs) = []
outer_of (seq r ss) = outer_of r
outer_of (owing r g u) = outer_of r ++ unbegun g ∷ []
outer_of (guard r g u) = outer_of r ++ unbegun g ∷ []
outer_of (try_ r handlers) = outer_of r
outer_of (frame r x) = outer_of r
outer_of (shell r x) = outer_of r
outer_of (run g r) = outer_of r ++ running g ∷ []
outer_of (goal r k) = []

around : (xs ys zs : List Part) (x : Part) → zs ≡ xs ++ ys → zs ++ x ∷ [] ≡ xs ++ (ys ++ x ∷ [])
around xs ys zs x h = ap (λ s. s ++ x ∷ []) h ∙ append_assoc xs ys (x ∷ [])

pub parts-split : (r : Residual) → parts_of r ≡ below_of r ++ outer_of r
parts-split skip = refl
parts-split (one s) = refl
parts-split (batch s qs) = refl
parts-split (seq r ss) = parts-split r
parts-split (owing r g u) = around (below_of r) (outer_of r) (parts_of r) (unbegun g) (parts-split r)
parts-split (guard r g u) = around (below_of r) (outer_of r) (parts_of r) (unbegun g) (parts-split r)
parts-split (try_ r handlers) = parts-split r
parts-split (frame r x) = parts-split r
parts-split (shell r x) = parts-split r
parts-split (run g r) = around (below_of r) (outer_of r) (parts_of r) (running g) (parts-split r)
parts-split (goal r k) = sym (append-nil (parts_of r))

pub outside-below : (same : (r : Residual) → outside (parts_of r) ≡ guards_of r) (r : Residual) → outside (below_of r) ≡ guards_below r
outside-below same skip = refl
outside-below same (one s) = refl
outside-below same (batch s qs) = refl
outside-below same (seq r ss) = outside-below same r
outside-below same (owing r g u) = outside-below same r
outside-below same (guard r g u) = outside-below same r
outside-below same (try_ r handlers) = outside-below same r
outside-below same (frame r x) = outside-below same r
outside-below same (shell r x) = outside-below same r
outside-below same (run g r) = outside-below same r
outside-below same (goal r k) = same r

unbegun_last : (s : List Part) (g : ℕ) → AllUnbegun s → AllUnbegun (s ++ unbegun g ∷ [])
unbegun_last [] g h = tt
unbegun_last (unbegun n ∷ s) g h = unbegun_last s g h
unbegun_last (running n ∷ s) g h = absurd h

pub idle-parts : (r : Residual) → runs r ≡ false → AllUnbegun (parts_of r)
idle-parts skip h = tt
idle-parts (one s) h = tt
idle-parts (batch s qs) h = tt
idle-parts (seq r ss) h = idle-parts r h
idle-parts (owing r g u) h = unbegun_last (parts_of r) g (idle-parts r h)
idle-parts (guard r g u) h = unbegun_last (parts_of r) g (idle-parts r h)
idle-parts (try_ r handlers) h = idle-parts r h
idle-parts (frame r x) h = idle-parts r h
idle-parts (shell r x) h = idle-parts r h
idle-parts (run g r) h = absurd (true≢false h)
idle-parts (goal r k) h = idle-parts r h

pub idle-below : (r : Residual) → runs r ≡ false → AllUnbegun (below_of r)
idle-below skip h = tt
idle-below (one s) h = tt
idle-below (batch s qs) h = tt
idle-below (seq r ss) h = idle-below r h
idle-below (owing r g u) h = idle-below r h
idle-below (guard r g u) h = idle-below r h
idle-below (try_ r handlers) h = idle-below r h
idle-below (frame r x) h = idle-below r h
idle-below (shell r x) h = idle-below r h
idle-below (run g r) h = absurd (true≢false h)
idle-below (goal r k) h = idle-parts r h

-- ---- guards that are not being unwound

in_cases : (x y : Part) (s : List Part) → In x (s ++ y ∷ []) → (y ≡ x) ⊎ In x s
in_cases x y [] (inl is) = inl is
in_cases x y [] (inr h) = absurd h
in_cases x y (z ∷ s) (inl is) = inr (inl is)
in_cases x y (z ∷ s) (inr h) = by (in_cases x y s h)
  where
    by : (y ≡ x) ⊎ In x s → (y ≡ x) ⊎ In x (z ∷ s)
    by (inl is) = inl is
    by (inr k) = inr (inr k)

-- in what is not being unwound each open guard is one
pub normal-inside : (x : Part) (r : Residual) → IsNormal r → In x (parts_of r) → is_inside (number x) r ≡ true
normal-inside x skip n h = absurd h
normal-inside x (one s) n h = absurd h
normal-inside x (batch s qs) n h = absurd h
normal-inside x (seq r ss) n h = normal-inside x r n h
normal-inside x (owing r g u) n h = absurd n
normal-inside x (guard r g u) n h = by (in_cases x (unbegun g) (parts_of r) h) (normal-inside x r n)
  where
    by : (unbegun g ≡ x) ⊎ In x (parts_of r) → (In x (parts_of r) → is_inside (number x) r ≡ true) → ((g == number x) || is_inside (number x) r) ≡ true
    by (inl is) later = ap (λ b. b || is_inside (number x) r) (eq-eqb g (number x) (ap number is))
    by (inr k) later = or_true (g == number x) (is_inside (number x) r) (later k)
normal-inside x (try_ r handlers) n h = normal-inside x r n h
normal-inside x (frame r y) n h = normal-inside x r n h
normal-inside x (shell r y) n h = absurd n
normal-inside x (run g r) n h = absurd n
normal-inside x (goal r k) n h = absurd n

unwound_inside : (g : ℕ) (r : Residual) → IsUnwound r → runs r ≡ false → is_inside g r ≡ false
unwound_inside g skip u h = refl
unwound_inside g (one s) u h = absurd u
unwound_inside g (batch s qs) u h = absurd u
unwound_inside g (seq r ss) u h = absurd u
unwound_inside g (owing r n w) u h = unwound_inside g r u h
unwound_inside g (guard r n w) u h = absurd u
unwound_inside g (try_ r handlers) u h = absurd u
unwound_inside g (frame r x) u h = absurd u
unwound_inside g (shell r x) u h = unwound_inside g r u h
unwound_inside g (run n r) u h = absurd (true≢false h)
unwound_inside g (goal r k) u h = absurd u

first_or : (b : Bool) (g n : ℕ) (c : Bool) (gs : List ℕ) → (n == g) ≡ b → (b || c) ≡ true → (c ≡ true → In g gs) → In g (n ∷ gs)
first_or true g n c gs e k later = inl (eqb-true n g e)
first_or false g n c gs e k later = inr (later k)

-- where no unwind block is begun they stand around a goal
pub inside-outer : (g : ℕ) (r : Residual) → IsShaped r → runs r ≡ false → is_inside g r ≡ true → In g (outside (outer_of r))
inside-outer g skip s h is = absurd (true≢false (sym is))
inside-outer g (one n) s h is = absurd (true≢false (sym is))
inside-outer g (batch n qs) s h is = absurd (true≢false (sym is))
inside-outer g (seq r ss) s h is = inside-outer g r s h is
inside-outer g (owing r n u) s h is = absurd s
inside-outer g (guard r n u) s h is = subst (In g) (sym (outside_last (outer_of r) (unbegun n))) (first_or (n == g) g n (is_inside g r) (outside (outer_of r)) refl is (inside-outer g r s h))
inside-outer g (try_ r handlers) s h is = inside-outer g r s h is
inside-outer g (frame r x) s h is = inside-outer g r s h is
inside-outer g (shell r x) s h is = absurd s
inside-outer g (run n r) s h is = absurd s
inside-outer g (goal r k) s h is = absurd (true≢false (sym is ∙ unwound_inside g r s h))

-- a guard that is there is open
pub inside-guards : (g : ℕ) (r : Residual) → is_inside g r ≡ true → In g (guards_of r)
inside-guards g skip is = absurd (true≢false (sym is))
inside-guards g (one n) is = absurd (true≢false (sym is))
inside-guards g (batch n qs) is = absurd (true≢false (sym is))
inside-guards g (seq r ss) is = inside-guards g r is
inside-guards g (owing r n u) is = inr (inside-guards g r is)
inside-guards g (guard r n u) is = first_or (n == g) g n (is_inside g r) (guards_of r) refl is (inside-guards g r)
inside-guards g (try_ r handlers) is = inside-guards g r is
inside-guards g (frame r x) is = inside-guards g r is
inside-guards g (shell r x) is = inside-guards g r is
inside-guards g (run n r) is = inr (inside-guards g r is)
inside-guards g (goal r k) is = inside-guards g r is

pub below-guards : (g : ℕ) (r : Residual) → In g (guards_below r) → In g (guards_of r)
below-guards g skip h = h
below-guards g (one n) h = h
below-guards g (batch n qs) h = h
below-guards g (seq r ss) h = below-guards g r h
below-guards g (owing r n u) h = inr (below-guards g r h)
below-guards g (guard r n u) h = inr (below-guards g r h)
below-guards g (try_ r handlers) h = below-guards g r h
below-guards g (frame r x) h = below-guards g r h
below-guards g (shell r x) h = below-guards g r h
below-guards g (run n r) h = inr (below-guards g r h)
below-guards g (goal r k) h = h
