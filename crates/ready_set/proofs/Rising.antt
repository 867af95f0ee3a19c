-- Lists of numbers that rise: what they have, and that their members determine them.
use Rattle.std.proofs.Common.{◌≡◌, ℕ, ◌≢◌, ◌<◌, Bool, true, false, cond, ◌||◌, List, [], ◌∷◌, inl, inr, refl, sym, ap, ◌∙◌, subst, ⊎_elim, arith, eq-eqb, ne_eqb, true≢false}
use Rattle.std.specs.Prelude.{filter, ◌==◌}
use Rattle.std.specs.List.{list_any}
use Rattle.std.proofs.lemmas.Bool.{cases_eq, cases_order, lt-ltb, le-ltb}
use Rattle.std.specs.Ordering.{nat_cmp, eq_by_cmp}
use Rattle.std.specs.Cmp.{unsigned_tied}
use Rattle.ready_set.specs.Ready.{placed, in_order}
use Rattle.ready_set.specs.Layout.{AllAbove, IsRising}

-- whether q is in the list
abbrev pub has : ℕ → List ℕ → Bool
has q xs = list_any (eq_by_cmp nat_cmp q) xs

pub same_ties : (q p : ℕ) → q ≡ p → eq_by_cmp nat_cmp q p ≡ true
same_ties q p same = unsigned_tied q p ∙ eq-eqb q p same

pub other_ties_not : (q p : ℕ) → q ≢ p → eq_by_cmp nat_cmp q p ≡ false
other_ties_not q p apart = unsigned_tied q p ∙ ne_eqb q p apart

pub tied : (q p : ℕ) → eq_by_cmp nat_cmp q p ≡ true → q ≡ p
tied q p is = ⊎_elim (λ same. same) (λ apart. absurd (true≢false (sym is ∙ other_ties_not q p apart))) (cases_eq q p)

has-here : (q x : ℕ) (xs : List ℕ) → q ≡ x → has q (x ∷ xs) ≡ true
has-here q x xs same = ap (λ b. b || has q xs) (same_ties q x same)

has-there : (q x : ℕ) (xs : List ℕ) → q ≢ x → has q (x ∷ xs) ≡ has q xs
has-there q x xs apart = ap (λ b. b || has q xs) (other_ties_not q x apart)

pub above_all : (q : ℕ) (xs : List ℕ) → AllAbove q xs → has q xs ≡ false
above_all q [] above = refl
above_all q (x ∷ xs) above = let h = above.0 in has-there q x xs (λ same. absurd (omega (arith, same, h))) ∙ above_all q xs above.1

above_less : (p q : ℕ) (xs : List ℕ) → p < q → AllAbove q xs → AllAbove p xs
above_less p q [] h above = tt
above_less p q (x ∷ xs) h above = let g = above.0 in (omega (arith, h, g), above_less p q xs h above.1)

-- ---- a number put in its place

-- p is first, is there, or comes later
module _ (p x : ℕ) (xs : List ℕ) where
  placed-first : p < x → placed p (x ∷ xs) ≡ p ∷ x ∷ xs
  placed-first h = ap (λ b. cond b (p ∷ x ∷ xs) (cond (p == x) (x ∷ xs) (x ∷ placed p xs))) (lt-ltb p x h)

  placed-there : p ≡ x → placed p (x ∷ xs) ≡ x ∷ xs
  placed-there same = ap (λ b. cond b (p ∷ x ∷ xs) (cond (p == x) (x ∷ xs) (x ∷ placed p xs))) (le-ltb p x (omega (arith, same)))
      ∙ ap (λ b. cond b (x ∷ xs) (x ∷ placed p xs)) (eq-eqb p x same)

  placed-later : x < p → placed p (x ∷ xs) ≡ x ∷ placed p xs
  placed-later h = ap (λ b. cond b (p ∷ x ∷ xs) (cond (p == x) (x ∷ xs) (x ∷ placed p xs))) (le-ltb p x (omega (arith, h)))
      ∙ ap (λ b. cond b (x ∷ xs) (x ∷ placed p xs)) (ne_eqb p x (λ same. absurd (omega (arith, same, h))))

  pub by_place : (P : List ℕ → Type 0) → (p < x → P (p ∷ x ∷ xs)) → (p ≡ x → P (x ∷ xs)) → (x < p → P (x ∷ placed p xs)) → P (placed p (x ∷ xs))
  by_place P before here behind = elim (cases_order p x) [
    | inl same ↦ subst P (sym (placed-there same)) (here same)
    | inr (inl h) ↦ subst P (sym (placed-first h)) (before h)
    | inr (inr h) ↦ subst P (sym (placed-later h)) (behind h)
  ]

or_same : (a b : Bool) → (b || (a || b)) ≡ (a || b)
or_same true true = refl
or_same true false = refl
or_same false true = refl
or_same false false = refl

or_swap : (a b c : Bool) → (a || (b || c)) ≡ (b || (a || c))
or_swap true true c = refl
or_swap true false c = refl
or_swap false b c = refl

or_twice : (a b : Bool) → (a || b) ≡ (a || (a || b))
or_twice true b = refl
or_twice false b = refl

pub has-placed : (q p : ℕ) (xs : List ℕ) → has q (placed p xs) ≡ (eq_by_cmp nat_cmp q p || has q xs)
has-placed q p [] = refl
has-placed q p (x ∷ xs) = by_place p x xs (λ ys. has q ys ≡ (eq_by_cmp nat_cmp q p || has q (x ∷ xs)))
    (λ h. refl)
    (λ same. or_twice (eq_by_cmp nat_cmp q x) (has q xs) ∙ ap (λ n. eq_by_cmp nat_cmp q n || has q (x ∷ xs)) (sym same))
    (λ h. ap (λ b. eq_by_cmp nat_cmp q x || b) (has-placed q p xs) ∙ or_swap (eq_by_cmp nat_cmp q x) (eq_by_cmp nat_cmp q p) (has q xs))

above-placed : (b p : ℕ) (xs : List ℕ) → b < p → AllAbove b xs → AllAbove b (placed p xs)
above-placed b p [] h above = (h, tt)
above-placed b p (x ∷ xs) h above = by_place p x xs (AllAbove b) (λ _. (h, above)) (λ _. above) (λ _. (above.0, above-placed b p xs h above.1))

pub rising-placed : (p : ℕ) (xs : List ℕ) → IsRising xs → IsRising (placed p xs)
rising-placed p [] rises = (tt, tt)
rising-placed p (x ∷ xs) rises = by_place p x xs IsRising
    (λ h. ((h, above_less p x xs h rises.0), rises)) (λ _. rises) (λ h. (above-placed x p xs h rises.0, rising-placed p xs rises.1))

pub has-in_order : (q : ℕ) (xs : List ℕ) → has q (in_order xs) ≡ has q xs
has-in_order q [] = refl
has-in_order q (x ∷ xs) = has-placed q x (in_order xs) ∙ ap (λ b. eq_by_cmp nat_cmp q x || b) (has-in_order q xs)

pub rising-in_order : (xs : List ℕ) → IsRising (in_order xs)
rising-in_order [] = tt
rising-in_order (x ∷ xs) = rising-placed x (in_order xs) (rising-in_order xs)

-- ---- a list after a filter

module _ (P : List ℕ → Type 0) where
  by_cond : (b : Bool) (xs ys : List ℕ) → P xs → P ys → P (cond b xs ys)
  by_cond true xs ys h g = h
  by_cond false xs ys h g = g

above-filter : (b : ℕ) (p : ℕ → Bool) (xs : List ℕ) → AllAbove b xs → AllAbove b (filter p xs)
above-filter b p [] above = tt
above-filter b p (x ∷ xs) above = let rest = above-filter b p xs above.1 in by_cond (AllAbove b) (p x) (x ∷ filter p xs) (filter p xs) (above.0, rest) rest

pub rising-filter : (p : ℕ → Bool) (xs : List ℕ) → IsRising xs → IsRising (filter p xs)
rising-filter p [] rises = tt
rising-filter p (x ∷ xs) rises = let rest = rising-filter p xs rises.1 in by_cond IsRising (p x) (x ∷ filter p xs) (filter p xs) (above-filter x p xs rises.0, rest) rest

-- ---- two lists that rise

not_first : (x y : ℕ) (xs ys : List ℕ) → x < y → AllAbove y ys → has x (x ∷ xs) ≡ has x (y ∷ ys) → ⊥
not_first x y xs ys h above alike = true≢false (sym (has-here x x xs refl) ∙ alike ∙ above_all x (y ∷ ys) (h, above_less x y ys h above))

tails : (x : ℕ) (xs ys : List ℕ) → AllAbove x xs → AllAbove x ys → ((q : ℕ) → has q (x ∷ xs) ≡ has q (x ∷ ys)) → (q : ℕ) → has q xs ≡ has q ys
tails x xs ys above above' alike q = ⊎_elim
    (λ same. ap (λ n. has n xs) same ∙ above_all x xs above ∙ sym (above_all x ys above') ∙ ap (λ n. has n ys) (sym same))
    (λ apart. sym (has-there q x xs apart) ∙ alike q ∙ has-there q x ys apart)
    (cases_eq q x)

-- lists that rise and have the same members are the same
pub same_rising : (xs ys : List ℕ) → IsRising xs → IsRising ys → ((q : ℕ) → has q xs ≡ has q ys) → xs ≡ ys
same_rising [] [] rises rises' alike = refl
same_rising [] (y ∷ ys) rises rises' alike = absurd (true≢false (sym (has-here y y ys refl) ∙ sym (alike y)))
same_rising (x ∷ xs) [] rises rises' alike = absurd (true≢false (sym (has-here x x xs refl) ∙ alike x))
same_rising (x ∷ xs) (y ∷ ys) rises rises' alike =
    let e : x ≡ y = ⊎_elim (λ same. same) (λ other. ⊎_elim
    (λ h. absurd (not_first x y xs ys h rises'.0 (alike x)))
    (λ h. absurd (not_first y x ys xs h rises.0 (sym (alike y)))) other) (cases_order x y) in
    let here = subst (λ n. AllAbove n ys) (sym e) rises'.0 in
    let alike' : (q : ℕ) → has q (x ∷ xs) ≡ has q (x ∷ ys) = λ q. alike q ∙ ap (λ n. has q (n ∷ ys)) (sym e) in
    (λ i. e i ∷ same_rising xs ys rises.1 rises'.1 (tails x xs ys rises.0 here alike') i)
