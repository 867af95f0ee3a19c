-- Marks that spread: what is reached is marked, and waits once.
use Rattle.std.proofs.Common.{◌≡◌, ◌==◌, ◌<◌, ◌+◌, ◌||◌, ◌&&◌, ◌⊎◌, ◌++◌, ℕ, zero, suc, Bool, true, false, List, [], ◌∷◌, length, replicate, refl, sym, ap, ◌∙◌, subst, inl, inr, arith}
use Rattle.std.specs.Prelude.{slice_set}
use Rattle.std.specs.List.{list_all}
use Rattle.std.proofs.lemmas.List.{length-set, length-append, length-replicate}
use Rattle.std.proofs.lemmas.List.Folds.{list_any-append}
use Rattle.std.proofs.lemmas.Bool.{eq-eqb, eqb-true}
use Rattle.check_reach.specs.Edges.{is_marked}
use Rattle.check_reach.specs.Spreading.{Spreading, reach_if, reach, reach_all, is_waiting, row_of, one_if_not, unmarked, Holds, IsUnderWay}

-- tests

pub and_true : (a b : Bool) → (a && b) ≡ true → (a ≡ true) × (b ≡ true)
and_true true b h = (refl, h)
and_true false b h = cc

pub and_both : (a b : Bool) → a ≡ true → b ≡ true → (a && b) ≡ true
and_both true b h k = k
and_both false b h k = cc

pub or_cases : (a b : Bool) → (a || b) ≡ true → (a ≡ true) ⊎ (b ≡ true)
or_cases true b h = inl refl
or_cases false b h = inr h

or_left : (a b : Bool) → a ≡ true → (a || b) ≡ true
or_left true b h = refl
or_left false b h = cc

or_right : (a b : Bool) → b ≡ true → (a || b) ≡ true
or_right true b h = refl
or_right false b h = h

same : (n : ℕ) → (n == n) ≡ true
same n = eq-eqb n n refl

-- all that pass one test pass another
all_more : (p q : ℕ → Bool) → ((n : ℕ) → p n ≡ true → q n ≡ true) → (ns : List ℕ) → list_all p ns ≡ true → list_all q ns ≡ true
all_more p q f [] h = refl
all_more p q f (n ∷ ns) h =
    let both = and_true (p n) (list_all p ns) h in
    and_both (q n) (list_all q ns) (f n both.0) (all_more p q f ns both.1)

-- one number more is marked

set_marked : (marks : List Bool) (n : ℕ) → is_marked (slice_set marks n true) n ≡ true
set_marked [] n = refl
set_marked (b ∷ bs) zero = refl
set_marked (b ∷ bs) (suc n) = set_marked bs n

set_still : (marks : List Bool) (n k : ℕ) → is_marked marks k ≡ true → is_marked (slice_set marks n true) k ≡ true
set_still [] n k h = refl
set_still (b ∷ bs) zero zero h = refl
set_still (b ∷ bs) zero (suc k) h = h
set_still (b ∷ bs) (suc n) zero h = h
set_still (b ∷ bs) (suc n) (suc k) h = set_still bs n k h

set_only : (marks : List Bool) (n k : ℕ) → is_marked (slice_set marks n true) k ≡ true → (is_marked marks k ≡ true) ⊎ (k ≡ n)
set_only [] n k h = inl h
set_only (b ∷ bs) zero zero h = inr refl
set_only (b ∷ bs) zero (suc k) h = inl h
set_only (b ∷ bs) (suc n) zero h = inl h
set_only (b ∷ bs) (suc n) (suc k) h = elim (set_only bs n k h) [ inl there ↦ inl there | inr is ↦ inr (ap suc is) ]

set_counted : (marks : List Bool) (n : ℕ) → is_marked marks n ≡ false → unmarked (slice_set marks n true) + 1 ≡ unmarked marks
set_counted [] n h = cc
set_counted (b ∷ bs) zero h = let none = ap one_if_not h in omega (arith, none)
set_counted (b ∷ bs) (suc n) h = let rest = set_counted bs n h in omega (arith, rest)

-- what waits

at_end : (waiting : List ℕ) (n k : ℕ) → is_waiting (waiting ++ n ∷ []) k ≡ (is_waiting waiting k || ((n == k) || false))
at_end waiting n k = list_any-append (λ i. i == k) waiting (n ∷ [])

or_none : (b : Bool) → (b || false) ≡ b
or_none true = refl
or_none false = refl

waits_end : (waiting : List ℕ) (n : ℕ) → is_waiting (waiting ++ n ∷ []) n ≡ true
waits_end waiting n = at_end waiting n n ∙ or_right (is_waiting waiting n) ((n == n) || false) (or_left (n == n) false (same n))

waits_still : (waiting : List ℕ) (n k : ℕ) → is_waiting waiting k ≡ true → is_waiting (waiting ++ n ∷ []) k ≡ true
waits_still waiting n k h = at_end waiting n k ∙ or_left (is_waiting waiting k) ((n == k) || false) h

waits_only : (waiting : List ℕ) (n k : ℕ) → is_waiting (waiting ++ n ∷ []) k ≡ true → (is_waiting waiting k ≡ true) ⊎ (k ≡ n)
waits_only waiting n k h =
    elim (or_cases (is_waiting waiting k) ((n == k) || false) (sym (at_end waiting n k) ∙ h)) [
      | inl there ↦ inl there
      | inr is ↦ inr (sym (eqb-true n k (sym (or_none (n == k)) ∙ is)))
    ]

-- a number is reached

module _ (n : ℕ) (s : Spreading) where
  marked_if : (b : Bool) → is_marked s.0 n ≡ b → is_marked (reach_if b n s).0 n ≡ true
  marked_if true e = e
  marked_if false e = set_marked s.0 n

  still_if : (b : Bool) (k : ℕ) → is_marked s.0 k ≡ true → is_marked (reach_if b n s).0 k ≡ true
  still_if true k h = h
  still_if false k h = set_still s.0 n k h

  waits_if : (b : Bool) (k : ℕ) → is_waiting s.1 k ≡ true → is_waiting (reach_if b n s).1 k ≡ true
  waits_if true k h = h
  waits_if false k h = waits_still s.1 n k h

  new_if : (b : Bool) (k : ℕ) → is_marked (reach_if b n s).0 k ≡ true → (is_marked s.0 k ≡ true) ⊎ (is_waiting (reach_if b n s).1 k ≡ true)
  new_if true k h = inl h
  new_if false k h = elim (set_only s.0 n k h) [ inl there ↦ inl there | inr is ↦ inr (subst (λ i. is_waiting (s.1 ++ n ∷ []) i ≡ true) (sym is) (waits_end s.1 n)) ]

  length_if : (b : Bool) → length (reach_if b n s).0 ≡ length s.0
  length_if true = refl
  length_if false = length-set s.0 n true

  work_if : (b : Bool) → is_marked s.0 n ≡ b → unmarked (reach_if b n s).0 + length (reach_if b n s).1 ≡ unmarked s.0 + length s.1
  work_if true e = refl
  work_if false e = let one = set_counted s.0 n e in let more = length-append s.1 (n ∷ []) in omega (arith, one, more)

  holds_if : (other : ℕ → Bool) → other n ≡ true → (b : Bool) → Holds other s → Holds other (reach_if b n s)
  holds_if other here true h = h
  holds_if other here false h = (
    λ k below marked. elim (set_only s.0 n k marked) [
      | inl there ↦ h.0 k (subst (λ i. k < i) (length-set s.0 n true) below) there
      | inr is ↦ subst (λ i. other i ≡ true) (sym is) here
    ],
    λ k waits. elim (waits_only s.1 n k waits) [
      | inl there ↦ h.1 k there
      | inr is ↦ subst (λ i. other i ≡ true) (sym is) here
    ],
  )

-- numbers are reached in their order

still : (ns : List ℕ) (s : Spreading) (k : ℕ) → is_marked s.0 k ≡ true → is_marked (reach_all ns s).0 k ≡ true
still [] s k h = h
still (n ∷ ns) s k h = still ns (reach n s) k (still_if n s (is_marked s.0 n) k h)

waits : (ns : List ℕ) (s : Spreading) (k : ℕ) → is_waiting s.1 k ≡ true → is_waiting (reach_all ns s).1 k ≡ true
waits [] s k h = h
waits (n ∷ ns) s k h = waits ns (reach n s) k (waits_if n s (is_marked s.0 n) k h)

pub all_marked : (ns : List ℕ) (s : Spreading) → list_all (is_marked (reach_all ns s).0) ns ≡ true
all_marked [] s = refl
all_marked (n ∷ ns) s =
    and_both (is_marked (reach_all ns (reach n s)).0 n) (list_all (is_marked (reach_all ns (reach n s)).0) ns)
    (still ns (reach n s) n (marked_if n s (is_marked s.0 n) refl)) (all_marked ns (reach n s))

new_waits : (ns : List ℕ) (s : Spreading) (k : ℕ) → is_marked (reach_all ns s).0 k ≡ true → (is_marked s.0 k ≡ true) ⊎ (is_waiting (reach_all ns s).1 k ≡ true)
new_waits [] s k h = inl h
new_waits (n ∷ ns) s k h =
    elim (new_waits ns (reach n s) k h) [
      | inl there ↦ elim (new_if n s (is_marked s.0 n) k there) [ inl before ↦ inl before | inr new ↦ inr (waits ns (reach n s) k new) ]
      | inr new ↦ inr new
    ]

pub as_long : (ns : List ℕ) (s : Spreading) → length (reach_all ns s).0 ≡ length s.0
as_long [] s = refl
as_long (n ∷ ns) s = as_long ns (reach n s) ∙ length_if n s (is_marked s.0 n)

pub as_much : (ns : List ℕ) (s : Spreading) → unmarked (reach_all ns s).0 + length (reach_all ns s).1 ≡ unmarked s.0 + length s.1
as_much [] s = refl
as_much (n ∷ ns) s = as_much ns (reach n s) ∙ work_if n s (is_marked s.0 n) refl

holds : (other : ℕ → Bool) (ns : List ℕ) (s : Spreading) → list_all other ns ≡ true → Holds other s → Holds other (reach_all ns s)
holds other [] s all h = h
holds other (n ∷ ns) s all h =
    let both = and_true (other n) (list_all other ns) all in
    holds other ns (reach n s) both.1 (holds_if n s other both.0 (is_marked s.0 n) h)

-- what waited last is followed
module _ (count : ℕ) (rows : List (List ℕ)) (roots : List ℕ) (marks : List Bool) (waiting : List ℕ) (n : ℕ) (u : IsUnderWay count rows roots (marks, waiting ++ n ∷ [])) where
  abbrev after : Spreading
  after = reach_all (row_of rows n) (marks, waiting)

  more_marked : (ns : List ℕ) → list_all (is_marked marks) ns ≡ true → list_all (is_marked after.0) ns ≡ true
  more_marked ns h = all_more (is_marked marks) (is_marked after.0) (λ k m. still (row_of rows n) (marks, waiting) k m) ns h

  was_followed : (k : ℕ) → (is_waiting (waiting ++ n ∷ []) k || list_all (is_marked marks) (row_of rows k)) ≡ true → (is_waiting after.1 k || list_all (is_marked after.0) (row_of rows k)) ≡ true
  was_followed k h =
      elim (or_cases (is_waiting (waiting ++ n ∷ []) k) (list_all (is_marked marks) (row_of rows k)) h) [
        | inl waited ↦ elim (waits_only waiting n k waited) [
          | inl there ↦ or_left (is_waiting after.1 k) (list_all (is_marked after.0) (row_of rows k)) (waits (row_of rows n) (marks, waiting) k there)
          | inr is ↦
              or_right (is_waiting after.1 k) (list_all (is_marked after.0) (row_of rows k))
              (subst (λ i. list_all (is_marked after.0) (row_of rows i) ≡ true) (sym is) (all_marked (row_of rows n) (marks, waiting)))
        ]
        | inr all ↦ or_right (is_waiting after.1 k) (list_all (is_marked after.0) (row_of rows k)) (more_marked (row_of rows k) all)
      ]

  pub one_followed : IsUnderWay count rows roots after
  one_followed = record {
    as_many = as_long (row_of rows n) (marks, waiting) ∙ u.as_many;
    has_roots = more_marked roots u.has_roots;
    followed = λ k below marked. elim (new_waits (row_of rows n) (marks, waiting) k marked) [
      | inl before ↦ was_followed k (u.followed k below before)
      | inr new ↦ or_left (is_waiting after.1 k) (list_all (is_marked after.0) (row_of rows k)) new
    ];
    least = λ other has closed.
        let h = u.least other has closed in
        holds other (row_of rows n) (marks, waiting) (closed n (h.1 n (waits_end waiting n))) (h.0, λ k w. h.1 k (waits_still waiting n k w));
  }

-- the roots wait
none_marked : (count k : ℕ) → k < count → is_marked (replicate count false) k ≡ true → ⊥
none_marked zero k below h = omega (arith, below)
none_marked (suc count) zero below h = cc
none_marked (suc count) (suc k) below h = none_marked count k (omega (arith, below)) h

pub begins : (count : ℕ) (rows : List (List ℕ)) (roots : List ℕ) → IsUnderWay count rows roots (reach_all roots (replicate count false, []))
begins count rows roots =
    let s : Spreading = (replicate count false, []) in
    let long : length (reach_all roots s).0 ≡ count = as_long roots s ∙ length-replicate count false in
    record {
      as_many = long;
      has_roots = all_marked roots s;
      followed = λ k below marked. elim (new_waits roots s k marked) [
        | inl before ↦ absurd (none_marked count k below before)
        | inr new ↦ or_left (is_waiting (reach_all roots s).1 k) (list_all (is_marked (reach_all roots s).0) (row_of rows k)) new
      ];
      least = λ other has closed. holds other roots s has (
        λ k below marked. absurd (none_marked count k (subst (λ i. k < i) (length-replicate count false) below) marked),
        λ k waits. cc,
      );
    }
