-- Two lists of numbers that do not fall, and have each number as often as the other, are the same.
use Rattle.std.proofs.Common.{◌≡◌, ◌≢◌, ℕ, zero, suc, ◌+◌, ◌<◌, ◌≤◌, Bool, cond, List, [], ◌∷◌, ◌++◌, length, get_or, take, drop, refl, sym, ap, ◌∙◌, ⊎_elim, arith, eq-eqb, ne_eqb}
use Rattle.std.specs.Prelude.{count_by, ◌==◌, map as map_list}
use Rattle.std.specs.List.Sorted.{IsNonDecreasing, IsSorted, IsPermutation}
use Rattle.std.proofs.lemmas.Bool.{cases_eq}
use Rattle.std.proofs.lemmas.List.{take-append-drop}
use Rattle.std.proofs.Math.Seq.{take-append_seam, drop-append_seam}
use Rattle.std.proofs.lemmas.List.Sums.{sum_by-cons}
use Rattle.std.proofs.lemmas.List.Sorted.{IsNonDecreasingBy-from_sort, sum_by-IsPermutation}
use Rattle.std.specs.declared.cmp.Ordering.TheVariants.{Less}
use Rattle.std.specs.Ordering.{nat_cmp}
use Rattle.std.specs.Cmp.{nat_cmp_total, ranked}
use Rattle.std.specs.FinMap as maps
use Rattle.room_map.specs.Entries.{IsRising, AllAbove}
use Rattle.room_map.proofs.Maps.{rising-entries}

abbrev bit : Bool → ℕ
bit b = cond b 1 0

abbrev times : ℕ → List ℕ → ℕ
times p xs = count_by (λ x. x == p) xs

times_cons : (p x : ℕ) (xs : List ℕ) → times p (x ∷ xs) ≡ cond (x == p) 1 0 + times p xs
times_cons p x xs = sum_by-cons (λ y. cond (y == p) 1 0) x xs

times_same : (p x : ℕ) (xs : List ℕ) → x ≡ p → times p (x ∷ xs) ≡ 1 + times p xs
times_same p x xs same = times_cons p x xs ∙ ap (λ b. cond b 1 0 + times p xs) (eq-eqb x p same)

times_other : (p x : ℕ) (xs : List ℕ) → x ≢ p → times p (x ∷ xs) ≡ times p xs
times_other p x xs apart = let e = times_cons p x xs ∙ ap (λ b. cond b 1 0 + times p xs) (ne_eqb x p apart) in omega (arith, e)

-- no number of the rest is below the first one, and so on
abbrev IsUp : List ℕ → Type 0
IsUp [] = Unit {0}
IsUp (x ∷ xs) = ((y : ℕ) → 0 < times y xs → x ≤ y) × IsUp xs

index_of : (y : ℕ) (xs : List ℕ) → 0 < times y xs → (k : ℕ) × (k < length xs) × (get_or xs k 0 ≡ y)
index_of y [] some = absurd (omega (arith, some))
index_of y (x ∷ xs) some = ⊎_elim
    (λ (same : x ≡ y). (zero, omega arith, same))
    (λ (apart : x ≢ y).
    let e = times_other y x xs apart in
    let rest = index_of y xs (omega (arith, e, some)) in
    (suc rest.0, (let l = rest.1 in omega (arith, l)), rest.2))
    (cases_eq x y)

up_sorted : (xs : List ℕ) → IsNonDecreasing xs → IsUp xs
up_sorted [] sorted = tt
up_sorted (x ∷ xs) sorted = (
  (λ y some. let at = index_of y xs some in let l = at.1 in let e = at.2 in let most : x ≤ get_or xs at.0 0 = sorted zero (suc at.0) 0 (omega arith) (omega (arith, l)) in omega (arith, most, e)),
  up_sorted xs (λ i j d le less. sorted (suc i) (suc j) d (omega (arith, le)) (omega (arith, less))),
)

above_up : {X : Type 0} (k y : ℕ) (es : List (ℕ × X)) → AllAbove nat_cmp k es → 0 < times y (map_list (λ e. e.0) es) → k ≤ y
above_up k y [] above some = absurd (omega (arith, some))
above_up k y (e ∷ es) above some = ⊎_elim
    (λ (same : e.0 ≡ y). let less : k < e.0 = ranked k e.0 Less (sym above.0) in omega (arith, less, same))
    (λ (apart : e.0 ≢ y). let f = times_other y e.0 (map_list (λ e. e.0) es) apart in above_up k y es above.1 (omega (arith, f, some)))
    (cases_eq e.0 y)

up_keys : {X : Type 0} (es : List (ℕ × X)) → IsRising nat_cmp es → IsUp (map_list (λ e. e.0) es)
up_keys [] rises = tt
up_keys (e ∷ es) rises = ((λ y some. above_up e.0 y es rises.0 some), up_keys es rises.1)

first-le : (x y : ℕ) (xs ys : List ℕ) → IsUp (x ∷ xs) → times y (x ∷ xs) ≡ times y (y ∷ ys) → x ≤ y
first-le x y xs ys up same = ⊎_elim
    (λ (e : x ≡ y). omega (arith, e))
    (λ (apart : x ≢ y). let a = times_other y x xs apart in let b = times_same y y ys refl in up.0 y (omega (arith, a, b, same)))
    (cases_eq x y)

same_up : (xs ys : List ℕ) → IsUp xs → IsUp ys → ((p : ℕ) → times p xs ≡ times p ys) → xs ≡ ys
same_up [] [] up up' same = refl
same_up [] (y ∷ ys) up up' same = let a = same y in let b = times_same y y ys refl in absurd (omega (arith, a, b))
same_up (x ∷ xs) [] up up' same = let a = same x in let b = times_same x x xs refl in absurd (omega (arith, a, b))
same_up (x ∷ xs) (y ∷ ys) up up' same =
    let one : x ≤ y = first-le x y xs ys up (same y) in
    let two : y ≤ x = first-le y x ys xs up' (sym (same x)) in
    let e : x ≡ y = omega (arith, one, two) in
    let rest : xs ≡ ys = same_up xs ys up.1 up'.1 (λ p.
    let a = times_cons p x xs in let b = times_cons p y ys in let d : bit (x == p) ≡ bit (y == p) = ap (λ z. bit (z == p)) e in let s = same p in omega (arith, a, b, d, s)) in
    (λ i. e i ∷ rest i)

-- a sorted list with each key once is the keys in order
pub sorted_keys : {X : Type 0} (m : maps.FinMap nat_cmp X) (xs : List ℕ) → IsSorted nat_cmp xs → ((p : ℕ) → count_by (λ x. x == p) xs ≡ count_by (λ x. x == p) (maps.keys m)) → xs ≡ maps.keys m
sorted_keys m xs sorted same = same_up xs (maps.keys m) (up_sorted xs (IsNonDecreasingBy-from_sort (λ x. x) xs sorted)) (up_keys (maps.entries m) (rising-entries nat_cmp_total m)) same

pub count_permuted : (p : ℕ) (xs ys : List ℕ) → IsPermutation xs ys → count_by (λ x. x == p) ys ≡ count_by (λ x. x == p) xs
count_permuted p xs ys moved = sum_by-IsPermutation (λ x. cond (x == p) 1 0) xs ys moved

-- what stands behind the old list is sorted
pub tail_sorted : (os mid new added : List ℕ) (had : ℕ) → had ≡ length os → mid ≡ os ++ added → take had new ≡ take had mid → IsPermutation (drop had mid) (drop had new)
    → (new ≡ os ++ drop had new) × ((p : ℕ) → count_by (λ x. x == p) (drop had new) ≡ count_by (λ x. x == p) added)
tail_sorted os mid new added had len behind front moved =
    let before : take had mid ≡ os = (λ i. take (len i) (behind i)) ∙ take-append_seam os added in
    let after : drop had mid ≡ added = (λ i. drop (len i) (behind i)) ∙ drop-append_seam os added in (
      sym (take-append-drop had new) ∙ ap (λ xs. xs ++ drop had new) (front ∙ before),
      λ p. count_permuted p (drop had mid) (drop had new) moved ∙ ap (λ xs. count_by (λ x. x == p) xs) after,
    )
