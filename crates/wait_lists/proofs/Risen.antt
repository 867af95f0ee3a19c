-- What is sorted and has no number twice rises.
use Rattle.std.proofs.Common.{◌≡◌, ℕ, zero, suc, ◌+◌, ◌<◌, ◌≤◌, Bool, cond, List, [], ◌∷◌, ◌++◌, length, get_or, take, drop, refl, sym, ap, ◌∙◌, subst, arith, ⊎_elim, append-nil}
use Rattle.std.specs.Prelude.{◌==◌}
use Rattle.std.specs.Ordering.{nat_cmp}
use Rattle.std.specs.List.Sorted.{IsStrictlyIncreasing, IsPermutation, IsSorted}
use Rattle.std.proofs.lemmas.Bool.{cases_eq}
use Rattle.std.proofs.lemmas.List.{drop_at, take_at, length-append}
use Rattle.std.proofs.lemmas.List.Sorted.{IsNonDecreasingBy-from_sort, sum_by-IsPermutation, length_permutation}
use Rattle.wait_lists.specs.Waits.{AddsEach}
use Rattle.wait_lists.proofs.Counted.{times, times-same, times-other}
use Rattle.wait_lists.proofs.MetLemmas.{at_most_one}

grows : (p x : ℕ) (xs : List ℕ) → times p xs ≤ times p (x ∷ xs)
grows p x xs = ⊎_elim (λ (e : x ≡ p). omega (arith, times-same p x xs e)) (λ apart. omega (arith, times-other p x xs apart)) (cases_eq x p)

twice : (xs : List ℕ) (k : ℕ) → k + 1 < length xs → get_or xs k 0 ≡ get_or xs (k + 1) 0 → 2 ≤ times (get_or xs k 0) xs
twice [] k inside same = absurd (omega arith)
twice (x ∷ []) k inside same = absurd (omega arith)
twice (x ∷ y ∷ ys) zero inside same = let again : y ≡ x = sym same in omega (arith, times-same x x (y ∷ ys) refl, times-same x y ys again)
twice (x ∷ y ∷ ys) (suc k) inside same =
    let next : suc (k + 1) ≡ suc k + 1 = omega arith in
    omega (arith, grows (get_or (y ∷ ys) k 0) x (y ∷ ys), twice (y ∷ ys) k (omega arith) (same ∙ ap (λ j. get_or (x ∷ y ∷ ys) j 0) (sym next)))

pub strictly : (xs : List ℕ) → IsSorted nat_cmp xs → ((p : ℕ) → times p xs ≤ 1) → IsStrictlyIncreasing xs
strictly xs sorted once k inside =
    let le = IsNonDecreasingBy-from_sort (λ x. x) xs sorted k (k + 1) 0 (omega arith) inside in
    ⊎_elim
    (λ (e : get_or xs k 0 ≡ get_or xs (k + 1) 0). absurd (omega (arith, twice xs k inside e, once (get_or xs k 0))))
    (λ apart. omega (arith, le, apart))
    (cases_eq (get_or xs k 0) (get_or xs (k + 1) 0))

-- behind the whole of a list nothing stands
pub none-behind : (xs : List ℕ) (n : ℕ) → n ≡ length xs → IsStrictlyIncreasing (drop n xs)
none-behind xs n is =
    let P : List ℕ → Type 0 = λ l. IsStrictlyIncreasing l in
    subst P (sym (ap (drop n) (sym (append-nil xs)) ∙ drop_at xs [] n (sym is))) (λ k inside. absurd (omega arith))

-- behind it one alone rises
pub one-behind : (xs : List ℕ) (x n : ℕ) → n ≡ length xs → IsStrictlyIncreasing (drop n (xs ++ x ∷ []))
one-behind xs x n is =
    let P : List ℕ → Type 0 = λ l. IsStrictlyIncreasing l in
    subst P (sym (drop_at xs (x ∷ []) n (sym is))) (λ k inside. absurd (omega arith))

-- the numbers that were added, in another order
pub adds-sorted : (old new sorted : List ℕ) (test : ℕ → Bool) (adds : AddsEach old new test) → IsPermutation adds.added sorted → AddsEach old (old ++ sorted) test
adds-sorted old new sorted test adds moved = record {
  added = sorted;
  behind = refl;
  once = λ p. sum_by-IsPermutation (λ x. cond (x == p) 1 0) adds.added sorted moved ∙ adds.once p;
}

pub rises-behind : (old new sorted : List ℕ) (test : ℕ → Bool) (adds : AddsEach old new test) → IsPermutation adds.added sorted → IsSorted nat_cmp sorted → (n : ℕ) → n ≡ length old → IsStrictlyIncreasing (drop n (old ++ sorted))
rises-behind old new sorted test adds moved up n is =
    let P : List ℕ → Type 0 = λ l. IsStrictlyIncreasing l in
    subst P (sym (drop_at old sorted n (sym is)))
    (strictly sorted up (λ p. omega (arith, sum_by-IsPermutation (λ x. cond (x == p) 1 0) adds.added sorted moved, adds.once p, at_most_one (test p))))

-- what a sort of a part leaves of the whole list
pub whole : (old new sorted part : List ℕ) (test : ℕ → Bool) (adds : AddsEach old new test) → IsPermutation adds.added sorted → part ≡ old ++ sorted → (n : ℕ) → n ≡ length new → (rest : List ℕ) → take n (part ++ rest) ≡ old ++ sorted
whole old new sorted part test adds moved is n len rest =
    take_at part rest n (omega (
      arith,
      len,
      ap length is,
      length-append old sorted,
      length_permutation adds.added sorted moved,
      ap length adds.behind,
      length-append old adds.added,
    ))
    ∙ is
