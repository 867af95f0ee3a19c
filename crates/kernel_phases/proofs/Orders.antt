-- The serial at a place does not depend on the order of a list without doubles.
use Rattle.std.proofs.Common.{◌≡◌, ℕ, suc, ◌+◌, ◌<◌, ◌≤◌, Bool, true, false, cond, ◌||◌, List, [], ◌∷◌, length, filter, find, Option, Some, nat_lt, ◌==◌, refl, sym, ap, ◌∙◌, inl, inr, arith, lt-ltb, le-ltb, eq-eqb, eqb-true, true≢false}
use Rattle.std.proofs.lemmas.Bool.{cases_eq, cases_order}
use Rattle.std.proofs.lemmas.List.Sums.{sum_by-cons}
use Rattle.std.specs.Cmp.{unsigned_tied, nat_eq_equiv}
use Rattle.std.specs.Ordering.{nat_cmp, eq_by_cmp}
use Rattle.std.specs.FinSet as set
use Rattle.kernel_state.specs.ReadySet.Ready.{placed, in_order, rising}
use Rattle.kernel_state.proofs.ReadySet.Rising.{has, has-in_order, rising-in_order, same_rising}
use Rattle.kernel_state.specs.SimModel.Clean.{times}
use Rattle.kernel_state.specs.SimModel.Waits.{holds}
use Rattle.kernel_state.specs.SimModel.Runs.{less_than, at_place}

-- ---- members

holds_has : (q : ℕ) (xs : List ℕ) → holds xs q ≡ has q xs
holds_has q [] = refl
holds_has q (x ∷ xs) = ap (λ b. b || holds xs q) (nat_eq_equiv.symm x q ∙ sym (unsigned_tied q x)) ∙ ap (λ b. eq_by_cmp nat_cmp q x || b) (holds_has q xs)

-- a set's rising order is that of each list of its members
pub same_order : (s : set.FinSet nat_cmp) (xs : List ℕ) → ((q : ℕ) → set.contains s q ≡ holds xs q) → in_order xs ≡ rising s
same_order s xs alike = same_rising (in_order xs) (rising s) (rising-in_order xs) (rising-in_order (set.items s))
    (λ q. has-in_order q xs ∙ sym (holds_has q xs) ∙ sym (alike q) ∙ set.contains-items s q ∙ sym (has-in_order q (set.items s)))

-- ---- no doubles

abbrev Once : List ℕ → Type 0
Once xs = (q : ℕ) → times q xs ≤ 1

once_more : (q x : ℕ) (xs : List ℕ) → times q (x ∷ xs) ≡ cond (x == q) 1 0 + times q xs
once_more q x xs = sum_by-cons (λ y. cond (y == q) 1 0) x xs

less_then : (b : Bool) (n : ℕ) → cond b 1 0 + n ≤ 1 → n ≤ 1
less_then true n h = omega (arith, h)
less_then false n h = omega (arith, h)

times_there : (q : ℕ) (xs : List ℕ) → holds xs q ≡ true → 0 < times q xs
times_there q [] there = absurd (true≢false (sym there))
times_there q (x ∷ xs) there = by_test (x == q) refl (times_there q xs)
  where
    by_test : (b : Bool) → (x == q) ≡ b → (holds xs q ≡ true → 0 < times q xs) → 0 < times q (x ∷ xs)
    by_test true e later = let n = once_more q x xs ∙ ap (λ b. cond b 1 0 + times q xs) e in omega (arith, n)
    by_test false e later =
        let n = once_more q x xs ∙ ap (λ b. cond b 1 0 + times q xs) e in
        let m = later (sym (ap (λ b. b || holds xs q) e) ∙ there) in
        omega (arith, n, m)

not_again : (x : ℕ) (xs : List ℕ) → Once (x ∷ xs) → holds xs x ≡ false
not_again x xs once = by_test (holds xs x) refl
  where
    by_test : (b : Bool) → holds xs x ≡ b → holds xs x ≡ false
    by_test false e = e
    by_test true e =
        let n = once_more x x xs ∙ ap (λ b. cond b 1 0 + times x xs) (eq-eqb x x refl) in
        let m = times_there x xs e in
        let h = once x in
        absurd (omega (arith, n, m, h))

rest_once : (x : ℕ) (xs : List ℕ) → Once (x ∷ xs) → Once xs
rest_once x xs once q = let h = once q in let n = once_more q x xs in less_then (x == q) (times q xs) (omega (arith, h, n))

-- ---- what a list without doubles has in its order: as many, and the same one where a test finds one alone

len_cons : (b : Bool) (x : ℕ) (xs : List ℕ) → length (cond b (x ∷ xs) xs) ≡ cond b (suc (length xs)) (length xs)
len_cons true x xs = refl
len_cons false x xs = refl

swapped : (a b : Bool) (n : ℕ) → cond a (suc (cond b (suc n) n)) (cond b (suc n) n) ≡ cond b (suc (cond a (suc n) n)) (cond a (suc n) n)
swapped true true n = refl
swapped true false n = refl
swapped false b n = refl

module _ (f : ℕ → Bool) where
  one_more : (p : ℕ) (xs : List ℕ) → has p xs ≡ false → length (filter f (placed p xs)) ≡ cond (f p) (suc (length (filter f xs))) (length (filter f xs))
  one_more p [] none = len_cons (f p) p []
  one_more p (x ∷ xs) none = by_tests (nat_lt p x) (p == x) (sym (unsigned_tied p x)) (one_more p xs)
    where
      by_tests : (a b : Bool) → b ≡ eq_by_cmp nat_cmp p x → (has p xs ≡ false → length (filter f (placed p xs)) ≡ cond (f p) (suc (length (filter f xs))) (length (filter f xs)))
          → length (filter f (cond a (p ∷ x ∷ xs) (cond b (x ∷ xs) (x ∷ placed p xs)))) ≡ cond (f p) (suc (length (filter f (x ∷ xs)))) (length (filter f (x ∷ xs)))
      by_tests true b e later = len_cons (f p) p (filter f (x ∷ xs))
      by_tests false true e later = absurd (true≢false (ap (λ b. b || has p xs) e ∙ none))
      by_tests false false e later =
          len_cons (f x) x (filter f (placed p xs))
          ∙ ap (λ n. cond (f x) (suc n) n) (later (ap (λ b. b || has p xs) e ∙ none))
          ∙ swapped (f x) (f p) (length (filter f xs))
          ∙ ap (λ n. cond (f p) (suc n) n) (sym (len_cons (f x) x (filter f xs)))

  pub as_many : (xs : List ℕ) → Once xs → length (filter f (in_order xs)) ≡ length (filter f xs)
  as_many [] once = refl
  as_many (x ∷ xs) once =
      one_more x (in_order xs) (has-in_order x xs ∙ sym (holds_has x xs) ∙ not_again x xs once)
      ∙ ap (λ n. cond (f x) (suc n) n) (as_many xs (rest_once x xs once))
      ∙ sym (len_cons (f x) x (filter f xs))

  first_found : (x : ℕ) (ys : List ℕ) → has x ys ≡ false → ((q : ℕ) → has q ys ≡ true → f x ≡ true → f q ≡ true → q ≡ x) → find f (placed x ys) ≡ cond (f x) (Some x) (find f ys)
  first_found x [] none alone = refl
  first_found x (y ∷ ys) none alone = by_tests (nat_lt x y) (x == y) (sym (unsigned_tied x y)) (first_found x ys)
    where
      later_alone : (q : ℕ) → has q ys ≡ true → f x ≡ true → f q ≡ true → q ≡ x
      later_alone q there fx fq = alone q (ap (λ b. eq_by_cmp nat_cmp q y || b) there ∙ or_true (eq_by_cmp nat_cmp q y)) fx fq
        where
          or_true : (b : Bool) → (b || true) ≡ true
          or_true true = refl
          or_true false = refl

      either : (a b : Bool) (o : Option ℕ) → (a ≡ true → b ≡ true → y ≡ x) → cond a (Some y) (cond b (Some x) o) ≡ cond b (Some x) (cond a (Some y) o)
      either true true o same = ap Some (same refl refl)
      either true false o same = refl
      either false b o same = refl

      by_tests : (a b : Bool) → b ≡ eq_by_cmp nat_cmp x y
          → (has x ys ≡ false → ((q : ℕ) → has q ys ≡ true → f x ≡ true → f q ≡ true → q ≡ x) → find f (placed x ys) ≡ cond (f x) (Some x) (find f ys))
          → find f (cond a (x ∷ y ∷ ys) (cond b (y ∷ ys) (y ∷ placed x ys))) ≡ cond (f x) (Some x) (find f (y ∷ ys))
      by_tests true b e later = refl
      by_tests false true e later = absurd (true≢false (ap (λ b. b || has x ys) e ∙ none))
      by_tests false false e later =
          ap (λ o. cond (f y) (Some y) o) (later (ap (λ b. b || has x ys) e ∙ none) later_alone)
          ∙ either (f y) (f x) (find f ys) (λ fy fx. alone y (ap (λ b. b || has y ys) (unsigned_tied y y ∙ eq-eqb y y refl)) fx fy)

  pub found_alike : (xs : List ℕ) → Once xs → ((p q : ℕ) → f p ≡ true → f q ≡ true → holds xs p ≡ true → holds xs q ≡ true → q ≡ p) → find f (in_order xs) ≡ find f xs
  found_alike [] once alone = refl
  found_alike (x ∷ xs) once alone =
      first_found x (in_order xs) (has-in_order x xs ∙ sym (holds_has x xs) ∙ not_again x xs once)
      (λ q there fx fq. alone x q fx fq (ap (λ b. b || holds xs x) (eq-eqb x x refl)) (behind q x (holds_has q xs ∙ sym (has-in_order q xs) ∙ there)))
      ∙ ap (λ o. cond (f x) (Some x) o) (found_alike xs (rest_once x xs once) (λ p q fp fq hp hq. alone p q fp fq (behind p x hp) (behind q x hq)))
    where
      or_true : (b : Bool) → (b || true) ≡ true
      or_true true = refl
      or_true false = refl

      behind : (q y : ℕ) → holds xs q ≡ true → holds (y ∷ xs) q ≡ true
      behind q y there = ap (λ b. (y == q) || b) there ∙ or_true (y == q)

-- ---- so many are less than one alone

len_le : (a b : Bool) (m n : ℕ) → (a ≡ true → b ≡ true) → m ≤ n → cond a (suc m) m ≤ cond b (suc n) n
len_le true true m n h le = omega (arith, le)
len_le true false m n h le = absurd (true≢false (sym (h refl)))
len_le false true m n h le = omega (arith, le)
len_le false false m n h le = le

module _ (p q : ℕ) (lt : p < q) where
  less_too : (x : ℕ) → nat_lt x p ≡ true → nat_lt x q ≡ true
  less_too x h = lt-ltb x q (let g = Rattle.std.proofs.lemmas.Bool.ltb-true x p h in omega (arith, g, lt))

  steps : (x : ℕ) (xs : List ℕ) (r : ℕ) → less_than (x ∷ xs) r ≡ cond (nat_lt x r) (suc (less_than xs r)) (less_than xs r)
  steps x xs r = len_cons (nat_lt x r) x (filter (λ y. nat_lt y r) xs)

  not_more : (xs : List ℕ) → less_than xs p ≤ less_than xs q
  not_more [] = omega arith
  not_more (x ∷ xs) = let a = steps x xs p in let b = steps x xs q in let h = len_le (nat_lt x p) (nat_lt x q) (less_than xs p) (less_than xs q) (less_too x) (not_more xs) in omega (arith, a, b, h)

  more : (xs : List ℕ) → holds xs p ≡ true → less_than xs p < less_than xs q
  more [] there = absurd (true≢false (sym there))
  more (x ∷ xs) there = by_test (x == p) refl (more xs)
    where
      by_test : (b : Bool) → (x == p) ≡ b → (holds xs p ≡ true → less_than xs p < less_than xs q) → less_than (x ∷ xs) p < less_than (x ∷ xs) q
      by_test true e later =
          let same : x ≡ p = eqb-true x p e in
          let a = steps x xs p ∙ ap (λ b. cond b (suc (less_than xs p)) (less_than xs p)) (le-ltb x p (omega (arith, same))) in
          let b = steps x xs q ∙ ap (λ b. cond b (suc (less_than xs q)) (less_than xs q)) (lt-ltb x q (omega (arith, same, lt))) in
          let h = not_more xs in
          omega (arith, a, b, h)
      by_test false e later =
          let g = later (sym (ap (λ b. b || holds xs p) e) ∙ there) in
          let a = steps x xs p in
          let b = steps x xs q in
          let h = len_le (nat_lt x p) (nat_lt x q) (suc (less_than xs p)) (less_than xs q) (less_too x) g in
          let c = raised (nat_lt x p) (less_than xs p) in
          omega (arith, a, b, h, c)
        where
          raised : (b : Bool) (n : ℕ) → cond b (suc (suc n)) (suc n) ≡ suc (cond b (suc n) n)
          raised true n = refl
          raised false n = refl

-- no two are at one place
pub one_there : (xs : List ℕ) (k p q : ℕ) → (less_than xs p == k) ≡ true → (less_than xs q == k) ≡ true → holds xs p ≡ true → holds xs q ≡ true → q ≡ p
one_there xs k p q hp hq tp tq = elim (cases_order q p) [
  | inl same ↦ same
  | inr (inl h) ↦ let m = more q p h xs tq in let a = eqb-true (less_than xs p) k hp in let b = eqb-true (less_than xs q) k hq in absurd (omega (arith, m, a, b))
  | inr (inr h) ↦ let m = more p q h xs tp in let a = eqb-true (less_than xs p) k hp in let b = eqb-true (less_than xs q) k hq in absurd (omega (arith, m, a, b))
]

pub any_order : (xs : List ℕ) → Once xs → (k : ℕ) → at_place (in_order xs) k ≡ at_place xs k
any_order xs once k =
    (λ i. find (λ p. as_many (λ y. nat_lt y p) xs once i == k) (in_order xs))
    ∙ found_alike (λ p. less_than xs p == k) xs once (one_there xs k)

-- ---- lengths

all_of : (xs : List ℕ) → length (filter (λ _. true) xs) ≡ length xs
all_of [] = refl
all_of (x ∷ xs) = ap suc (all_of xs)

pub same_length : (xs : List ℕ) → Once xs → length (in_order xs) ≡ length xs
same_length xs once = sym (all_of (in_order xs)) ∙ as_many (λ _. true) xs once ∙ all_of xs
