-- Marks over places: what setting one of them adds to a sum, and takes from it; and what doubles a list has.
use Rattle.std.proofs.Common.{◌≡◌, ◌<◌, ◌≤◌, ◌+◌, ℕ, zero, suc, Bool, true, false, List, [], ◌∷◌, ◌++◌, replicate, Some, refl, ap, ◌∙◌, subst, arith, add-zero, zero-add, eq-eqb}
use Rattle.std.specs.Prelude.{◌==◌, ◌||◌, slice_get, slice_set}
use Rattle.std.specs.List.{list_any}
use Rattle.std.proofs.lemmas.Bool.{eqb-true}
use Rattle.std.proofs.lemmas.Bool.Decides.{nat_tests}
use Rattle.design_rules.specs.BindingFaults.{has_twice}
use Rattle.binding.specs.Twice.{if_so, times, sum_at}

module _ (f : ℕ → ℕ) where
  pub sum_marked : (s : ℕ) (bs : List Bool) (i : ℕ) → slice_get bs i ≡ Some false → sum_at f s (slice_set bs i true) ≡ sum_at f s bs + f (s + i)
  sum_marked s [] i h = cc
  sum_marked s (b ∷ bs) zero h = grind arith
  sum_marked s (b ∷ bs) (suc i) h = let rest = sum_marked (s + 1) bs i h in grind (arith, rest)

  pub sum_cleared : (s : ℕ) (bs : List Bool) (i : ℕ) → slice_get bs i ≡ Some true → sum_at f s (slice_set bs i false) + f (s + i) ≡ sum_at f s bs
  sum_cleared s [] i h = cc
  sum_cleared s (b ∷ bs) zero h = grind arith
  sum_cleared s (b ∷ bs) (suc i) h = let rest = sum_cleared (s + 1) bs i h in grind (arith, rest)

  pub sum_within : (s : ℕ) (bs : List Bool) (i : ℕ) → slice_get bs i ≡ Some true → f (s + i) ≤ sum_at f s bs
  sum_within s [] i h = cc
  sum_within s (b ∷ bs) zero h = grind arith
  sum_within s (b ∷ bs) (suc i) h = let rest = sum_within (s + 1) bs i h in grind (arith, rest)

pub times-append : (c : ℕ) (xs ys : List ℕ) → times c (xs ++ ys) ≡ times c xs + times c ys
times-append c [] ys = omega arith
times-append c (x ∷ xs) ys = let rest = times-append c xs ys in omega arith

-- marks at places that f counts where they are c: at most one of them is
module _ (f : ℕ → ℕ) (c : ℕ) where
  abbrev Counts : ℕ → List Bool → Type 0
  Counts s bs = (i : ℕ) → slice_get bs i ≡ Some true → f (s + i) ≡ if_so 1 (s + i == c)

  counts_next : (s : ℕ) (b : Bool) (bs : List Bool) → Counts s (b ∷ bs) → Counts (s + 1) bs
  counts_next s b bs h i at = let e : s + suc i ≡ s + 1 + i = omega arith in subst (λ n. f n ≡ if_so 1 (n == c)) e (h (suc i) at)

  counts_first : (s : ℕ) (bs : List Bool) → Counts s (true ∷ bs) → f s ≡ if_so 1 (s == c)
  counts_first s bs h = subst (λ n. f n ≡ if_so 1 (n == c)) (add-zero s) (h 0 refl)

  none_past : (s : ℕ) (bs : List Bool) → c < s → Counts s bs → sum_at f s bs ≡ 0
  none_past s [] past h = refl
  none_past s (true ∷ bs) past h =
      let first = counts_first s bs h in
      let other : (s == c) ≡ false = grind (arith, nat_tests) in
      let nothing = ap (if_so 1) other in
      let rest = none_past (s + 1) bs (omega arith) (counts_next s true bs h) in
      omega (arith, first, nothing, rest)
  none_past s (false ∷ bs) past h = zero-add (sum_at f (s + 1) bs) ∙ none_past (s + 1) bs (omega arith) (counts_next s false bs h)

  first_or : (s : ℕ) (bs : List Bool) (b : Bool) → (s == c) ≡ b → f s ≡ if_so 1 b → Counts (s + 1) bs → sum_at f (s + 1) bs ≤ 1 → f s + sum_at f (s + 1) bs ≤ 1
  first_or s bs true same first h few =
      let at = eqb-true s c same in
      let rest = none_past (s + 1) bs (omega arith) h in
      omega (arith, first, rest)
  first_or s bs false same first h few = omega (arith, first, few)

  pub sum_few : (s : ℕ) (bs : List Bool) → Counts s bs → sum_at f s bs ≤ 1
  sum_few s [] h = omega arith
  sum_few s (true ∷ bs) h = first_or s bs (s == c) refl (counts_first s bs h) (counts_next s true bs h) (sum_few (s + 1) bs (counts_next s true bs h))
  sum_few s (false ∷ bs) h = let rest = sum_few (s + 1) bs (counts_next s false bs h) in omega (arith, rest)

pub sum_none : (f : ℕ → ℕ) (s n : ℕ) → sum_at f s (replicate n false) ≡ 0
sum_none f s zero = refl
sum_none f s (suc n) = zero-add (sum_at f (s + 1) (replicate n false)) ∙ sum_none f (s + 1) n

or-true : (b : Bool) → (b || true) ≡ true
or-true true = refl
or-true false = refl

-- a list with a number twice, by how often each stands in it
some_or : (c : ℕ) (xs : List ℕ) (b : Bool) → (1 ≤ times c xs → list_any (λ y. y == c) xs ≡ true) → 1 ≤ if_so 1 b + times c xs → (b || list_any (λ y. y == c) xs) ≡ true
some_or c xs true rest h = refl
some_or c xs false rest h = rest (omega arith)

times_some : (c : ℕ) (xs : List ℕ) → 1 ≤ times c xs → list_any (λ y. y == c) xs ≡ true
times_some c [] h = absurd (omega arith)
times_some c (x ∷ xs) h = some_or c xs (x == c) (times_some c xs) h

none_or : (c : ℕ) (xs : List ℕ) (b : Bool) → (times c xs ≡ 0 → list_any (λ y. y == c) xs ≡ false) → if_so 1 b + times c xs ≡ 0 → (b || list_any (λ y. y == c) xs) ≡ false
none_or c xs true rest h = absurd (omega arith)
none_or c xs false rest h = rest (omega arith)

times_none : (c : ℕ) (xs : List ℕ) → times c xs ≡ 0 → list_any (λ y. y == c) xs ≡ false
times_none c [] h = refl
times_none c (x ∷ xs) h = none_or c xs (x == c) (times_none c xs) h

twice_or : (c x : ℕ) (xs : List ℕ) (b : Bool) → (x == c) ≡ b → (2 ≤ times c xs → has_twice xs ≡ true) → 2 ≤ if_so 1 b + times c xs → has_twice (x ∷ xs) ≡ true
twice_or c x xs true same rest h =
    ap (λ a. a || has_twice xs) (ap (λ z. list_any (λ y. y == z) xs) (eqb-true x c same) ∙ times_some c xs (omega arith))
twice_or c x xs false same rest h = ap (λ a. list_any (λ y. y == x) xs || a) (rest (omega arith)) ∙ or-true (list_any (λ y. y == x) xs)

pub twice_from : (c : ℕ) (xs : List ℕ) → 2 ≤ times c xs → has_twice xs ≡ true
twice_from c [] h = absurd (omega arith)
twice_from c (x ∷ xs) h = twice_or c x xs (x == c) refl (twice_from c xs) h

pub once_from : (xs : List ℕ) → ((c : ℕ) → times c xs ≤ 1) → has_twice xs ≡ false
once_from [] h = refl
once_from (x ∷ xs) h =
    let own = ap (if_so 1) (eq-eqb x x refl) in
    let first = h x in
    let none : times x xs ≡ 0 = omega (arith, own, first) in
    ap (λ a. a || has_twice xs) (times_none x xs none) ∙ once_from xs (λ c. let few = h c in omega (arith, few))
