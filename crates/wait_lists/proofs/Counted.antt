-- Numbers that stand once.
use Rattle.std.proofs.Common.{◌≡◌, ℕ, ◌+◌, ◌≤◌, ◌≢◌, true, false, true≢false, cond, ◌||◌, List, [], ◌∷◌, length, refl, sym, ap, ◌∙◌, arith, eq-eqb, ne_eqb, ⊎_elim}
use Rattle.std.specs.Prelude.{count_by, ◌==◌}
use Rattle.std.specs.List.{list_any, IsDistinct, AllByRecursion}
use Rattle.std.specs.Ordering.{nat_cmp, eq_by_cmp}
use Rattle.std.specs.FinMap as maps
use Rattle.std.specs.Cmp.{nat_cmp_total, eq_by_cmp_equiv}
use Rattle.std.proofs.lemmas.Bool.{cases_eq}
use Rattle.std.proofs.lemmas.List.{length-map}
use Rattle.std.proofs.lemmas.List.Sums.{sum_by-cons}
use Rattle.std.proofs.lemmas.Map.Made.{length-le_from_is_member}
use Rattle.numbered_slots.proofs.MapLemmas.{ties_no_other}

-- how often it stands there
abbrev pub times : ℕ → List ℕ → ℕ
times p xs = count_by (λ x. x == p) xs

times-cons : (p x : ℕ) (xs : List ℕ) → times p (x ∷ xs) ≡ cond (x == p) 1 0 + times p xs
times-cons p x xs = sum_by-cons (λ y. cond (y == p) 1 0) x xs

pub times-same : (p x : ℕ) (xs : List ℕ) → x ≡ p → times p (x ∷ xs) ≡ 1 + times p xs
times-same p x xs same = times-cons p x xs ∙ ap (λ b. cond b 1 0 + times p xs) (eq-eqb x p same)

pub times-other : (p x : ℕ) (xs : List ℕ) → x ≢ p → times p (x ∷ xs) ≡ times p xs
times-other p x xs apart = times-cons p x xs ∙ ap (λ b. cond b 1 0 + times p xs) (ne_eqb x p apart) ∙ omega arith

none_there : (p : ℕ) (xs : List ℕ) → times p xs ≡ 0 → AllByRecursion (λ y. eq_by_cmp nat_cmp p y ≡ false) xs
none_there p [] none = tt
none_there p (x ∷ xs) none = ⊎_elim
    (λ (e : x ≡ p). absurd (omega (arith, times-same p x xs e)))
    (λ apart. (ties_no_other p x (λ e. apart (sym e)), none_there p xs (sym (times-other p x xs apart) ∙ none)))
    (cases_eq x p)

distinct : (xs : List ℕ) → ((p : ℕ) → times p xs ≤ 1) → IsDistinct (eq_by_cmp nat_cmp) xs
unfolding IsDistinct
distinct [] once = tt
distinct (x ∷ xs) once = (
  none_there x xs (omega (arith, once x, times-same x x xs refl)),
  distinct xs (λ p. ⊎_elim
      (λ (e : x ≡ p). omega (arith, once p, times-same p x xs e))
      (λ apart. omega (arith, once p, times-other p x xs apart))
      (cases_eq x p)),
)

stands : (p : ℕ) (xs : List ℕ) → list_any (eq_by_cmp nat_cmp p) xs ≡ true → 1 ≤ times p xs
stands p [] is = absurd (true≢false (sym is))
stands p (x ∷ xs) is = ⊎_elim
    (λ (e : x ≡ p). omega (arith, times-same p x xs e))
    (λ apart. omega (arith, times-other p x xs apart, stands p xs (ap (λ b. b || list_any (eq_by_cmp nat_cmp p) xs) (sym (ties_no_other p x (λ e. apart (sym e)))) ∙ is)))
    (cases_eq x p)

-- no more numbers than keys, where each is a key and stands once
pub length-le_keys : {X : Type 0} (m : maps.FinMap nat_cmp X) (xs : List ℕ) → ((p : ℕ) → times p xs ≤ 1) → ((p : ℕ) → 1 ≤ times p xs → maps.contains_key m p ≡ true) → length xs ≤ maps.len m
length-le_keys {X} m xs once keys = omega (
  arith,
  length-le_from_is_member (eq_by_cmp_equiv nat_cmp_total) xs (maps.keys m) (distinct xs once) (λ p member. sym (maps.contains_key-keys m p) ∙ keys p (stands p xs member)),
  length-map (maps.entries m) (λ (e : ℕ × X). e.0),
  maps.len-entries m,
)
