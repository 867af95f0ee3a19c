-- Lists of numbers that rise: their members determine them.
use Rattle.std.proofs.Common.{◌≡◌, ℕ, zero, suc, ◌≢◌, ◌+◌, ◌<◌, Bool, true, false, ◌||◌, List, [], ◌∷◌, get_or, refl, sym, ap, ◌∙◌, subst, ⊎_elim, arith, true≢false}
use Rattle.std.specs.Prelude.{◌==◌}
use Rattle.std.specs.List.{list_any}
use Rattle.std.specs.List.Sorted.{IsStrictlyIncreasing}
use Rattle.std.proofs.lemmas.Bool.{cases_eq, cases_order, eq-eqb, ne_eqb}

-- whether q is in the list
abbrev pub has : ℕ → List ℕ → Bool
has q xs = list_any (λ x. x == q) xs

abbrev pub AllAbove : ℕ → List ℕ → Type 0
AllAbove b [] = Unit {0}
AllAbove b (x ∷ xs) = (b < x) × AllAbove b xs

abbrev pub Rises : List ℕ → Type 0
Rises [] = Unit {0}
Rises (x ∷ xs) = AllAbove x xs × Rises xs

above_less : (p q : ℕ) (xs : List ℕ) → p < q → AllAbove q xs → AllAbove p xs
above_less p q [] h above = tt
above_less p q (x ∷ xs) h above = let g = above.0 in (omega (arith, h, g), above_less p q xs h above.1)

pub increasing_from_rises : (xs : List ℕ) → Rises xs → IsStrictlyIncreasing xs
increasing_from_rises [] rises k h = absurd (omega (arith, h))
increasing_from_rises (x ∷ []) rises k h = absurd (omega (arith, h))
increasing_from_rises (x ∷ y ∷ ys) rises zero h = rises.0.0
increasing_from_rises (x ∷ y ∷ ys) rises (suc k) h =
    let e : suc (k + 1) ≡ suc k + 1 = omega arith in
    subst (λ j. get_or (y ∷ ys) k 0 < get_or (x ∷ y ∷ ys) j 0) e (increasing_from_rises (y ∷ ys) rises.1 k (omega (arith, h)))

pub rises_from_increasing : (xs : List ℕ) → IsStrictlyIncreasing xs → Rises xs
rises_from_increasing [] inc = tt
rises_from_increasing (x ∷ []) inc = (tt, tt)
rises_from_increasing (x ∷ y ∷ ys) inc =
    let first : x < y = inc 0 (omega arith) in
    let rest : Rises (y ∷ ys) = rises_from_increasing (y ∷ ys) (λ k h.
    let e : suc k + 1 ≡ suc (k + 1) = omega arith in
    subst (λ j. get_or (y ∷ ys) k 0 < get_or (x ∷ y ∷ ys) j 0) e (inc (suc k) (omega (arith, h)))) in
    ((first, above_less x y ys first rest.0), rest)

has-here : (q x : ℕ) (xs : List ℕ) → q ≡ x → has q (x ∷ xs) ≡ true
has-here q x xs same = ap (λ b. b || has q xs) (eq-eqb x q (sym same))

has-there : (q x : ℕ) (xs : List ℕ) → q ≢ x → has q (x ∷ xs) ≡ has q xs
has-there q x xs apart = ap (λ b. b || has q xs) (ne_eqb x q (λ same. apart (sym same)))

pub above_all : (q : ℕ) (xs : List ℕ) → AllAbove q xs → has q xs ≡ false
above_all q [] above = refl
above_all q (x ∷ xs) above = let h = above.0 in has-there q x xs (λ same. absurd (omega (arith, same, h))) ∙ above_all q xs above.1

not_first : (x y : ℕ) (xs ys : List ℕ) → x < y → AllAbove y ys → has x (x ∷ xs) ≡ has x (y ∷ ys) → ⊥
not_first x y xs ys h above alike = true≢false (sym (has-here x x xs refl) ∙ alike ∙ above_all x (y ∷ ys) (h, above_less x y ys h above))

tails : (x : ℕ) (xs ys : List ℕ) → AllAbove x xs → AllAbove x ys → ((q : ℕ) → has q (x ∷ xs) ≡ has q (x ∷ ys)) → (q : ℕ) → has q xs ≡ has q ys
tails x xs ys above above' alike q = ⊎_elim
    (λ same. ap (λ n. has n xs) same ∙ above_all x xs above ∙ sym (above_all x ys above') ∙ ap (λ n. has n ys) (sym same))
    (λ apart. sym (has-there q x xs apart) ∙ alike q ∙ has-there q x ys apart)
    (cases_eq q x)

-- lists that rise and have the same members are the same
pub same_rising : (xs ys : List ℕ) → Rises xs → Rises ys → ((q : ℕ) → has q xs ≡ has q ys) → xs ≡ ys
same_rising [] [] rises rises' alike = refl
same_rising [] (y ∷ ys) rises rises' alike = absurd (true≢false (sym (has-here y y ys refl) ∙ sym (alike y)))
same_rising (x ∷ xs) [] rises rises' alike = absurd (true≢false (sym (has-here x x xs refl) ∙ alike x))
same_rising (x ∷ xs) (y ∷ ys) rises rises' alike =
    let e : x ≡ y = ⊎_elim (λ same. same) (λ other. ⊎_elim
    (λ h. absurd (not_first x y xs ys h rises'.0 (alike x)))
    (λ h. absurd (not_first y x ys xs h rises.0 (sym (alike y)))) other) (cases_order x y) in
    let here = subst (λ n. AllAbove n ys) (sym e) rises'.0 in
    let alike' : (q : ℕ) → has q (x ∷ xs) ≡ has q (x ∷ ys) = λ q. alike q ∙ ap (λ n. has q (n ∷ ys)) (sym e) in
    (λ i. e i ∷ same_rising xs ys rises.1 rises'.1 (tails x xs ys rises.0 here alike') i)
