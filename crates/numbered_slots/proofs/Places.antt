-- The marked places: which they are, their order, how many, and the first of them.
use Rattle.std.proofs.Common.{◌≡◌, ℕ, zero, suc, ◌+◌, ◌<◌, Bool, true, false, cond, ◌||◌, List, [], ◌∷◌, length, get_or, set, slice_get, unwrap_or, count_by, refl, sym, ap, ◌∙◌, arith, true≢false}
use Rattle.std.specs.List.{list_any}
use Rattle.std.specs.List.Sorted.{IsStrictlyIncreasing}
use Rattle.std.proofs.lemmas.Bool.{eq-eqb, ne_eqb}
use Rattle.std.proofs.lemmas.List.Sums.{sum_by-cons}
use Rattle.std.proofs.lemmas.Option.{unwrap_or-slice_get}
use Rattle.numbered_slots.specs.Places.{places_from, marked_places}
use Rattle.numbered_slots.proofs.Rising.{has, AllAbove, Rises, increasing_from_rises, rises_from_increasing, same_rising}

-- ---- which places

none_below : (b m : ℕ) (marks : List Bool) → m < b → has m (places_from b marks) ≡ false
none_below b m [] h = refl
none_below b m (true ∷ marks) h =
    ap (λ t. t || has m (places_from (b + 1) marks)) (ne_eqb b m (λ e. absurd (omega (arith, e, h)))) ∙ none_below (b + 1) m marks (omega (arith, h))
none_below b m (false ∷ marks) h = none_below (b + 1) m marks (omega (arith, h))

has-places_from : (b n : ℕ) (marks : List Bool) → has (b + n) (places_from b marks) ≡ get_or marks n false
has-places_from b n [] = refl
has-places_from b zero (true ∷ marks) = ap (λ t. t || has (b + 0) (places_from (b + 1) marks)) (eq-eqb b (b + 0) (omega arith))
has-places_from b zero (false ∷ marks) = none_below (b + 1) (b + 0) marks (omega arith)
has-places_from b (suc n) (true ∷ marks) =
    let e : b + suc n ≡ b + 1 + n = omega arith in
    ap (λ t. t || has (b + suc n) (places_from (b + 1) marks)) (ne_eqb b (b + suc n) (λ same. absurd (omega (arith, same))))
    ∙ ap (λ m. has m (places_from (b + 1) marks)) e ∙ has-places_from (b + 1) n marks
has-places_from b (suc n) (false ∷ marks) =
    let e : b + suc n ≡ b + 1 + n = omega arith in
    ap (λ m. has m (places_from (b + 1) marks)) e ∙ has-places_from (b + 1) n marks

-- a number is a marked place where its mark is true
pub has-marked_places : (marks : List Bool) (n : ℕ) → has n (marked_places marks) ≡ unwrap_or (slice_get marks n) false
has-marked_places marks n = let e : n ≡ 0 + n = omega arith in ap (λ m. has m (marked_places marks)) e ∙ has-places_from 0 n marks ∙ sym (unwrap_or-slice_get marks n false)

-- ---- their order

above-places_from : (a b : ℕ) (marks : List Bool) → a < b → AllAbove a (places_from b marks)
above-places_from a b [] h = tt
above-places_from a b (true ∷ marks) h = (h, above-places_from a (b + 1) marks (omega (arith, h)))
above-places_from a b (false ∷ marks) h = above-places_from a (b + 1) marks (omega (arith, h))

rises-places_from : (b : ℕ) (marks : List Bool) → Rises (places_from b marks)
rises-places_from b [] = tt
rises-places_from b (true ∷ marks) = (above-places_from b (b + 1) marks (omega arith), rises-places_from (b + 1) marks)
rises-places_from b (false ∷ marks) = rises-places_from (b + 1) marks

pub increasing-marked_places : (marks : List Bool) → IsStrictlyIncreasing (marked_places marks)
increasing-marked_places marks = increasing_from_rises (marked_places marks) (rises-places_from 0 marks)

-- no other list has these members and rises
pub only_places : (marks : List Bool) (places : List ℕ) → IsStrictlyIncreasing places → ((n : ℕ) → has n places ≡ unwrap_or (slice_get marks n) false) → places ≡ marked_places marks
only_places marks places inc members = same_rising places (marked_places marks) (rises_from_increasing places inc) (rises-places_from 0 marks)
    (λ n. members n ∙ sym (has-marked_places marks n))

-- ---- how many

length-places_from : (b : ℕ) (marks : List Bool) → length (places_from b marks) ≡ count_by (λ mark. mark) marks
length-places_from b [] = refl
length-places_from b (true ∷ marks) = omega (arith, length-places_from (b + 1) marks, sum_by-cons (λ mark. cond mark 1 0) true marks)
length-places_from b (false ∷ marks) = omega (arith, length-places_from (b + 1) marks, sum_by-cons (λ mark. cond mark 1 0) false marks)

pub length-marked_places : (marks : List Bool) → length (marked_places marks) ≡ count_by (λ mark. mark) marks
length-marked_places marks = length-places_from 0 marks

pub none_counted : (marks : List Bool) → count_by (λ mark. mark) marks ≡ 0 → list_any (λ mark. mark) marks ≡ false
none_counted [] h = refl
none_counted (true ∷ marks) h = absurd (omega (arith, h, sum_by-cons (λ mark. cond mark 1 0) true marks))
none_counted (false ∷ marks) h = none_counted marks (omega (arith, h, sum_by-cons (λ mark. cond mark 1 0) false marks))

pub count_of_none : (marks : List Bool) → list_any (λ mark. mark) marks ≡ false → count_by (λ mark. mark) marks ≡ 0
count_of_none [] h = refl
count_of_none (true ∷ marks) h = absurd (true≢false h)
count_of_none (false ∷ marks) h = omega (arith, count_of_none marks h, sum_by-cons (λ mark. cond mark 1 0) false marks)

-- ---- the first

first_from : (b n : ℕ) (marks : List Bool) → get_or marks n false ≡ true → ((m : ℕ) → m < n → get_or marks m false ≡ false)
    → places_from b marks ≡ (b + n) ∷ places_from b (set marks n false)
first_from b n [] there below = absurd (true≢false (sym there))
first_from b zero (true ∷ marks) there below = let e : b ≡ b + 0 = omega arith in ap (λ m. m ∷ places_from (b + 1) marks) e
first_from b zero (false ∷ marks) there below = absurd (true≢false (sym there))
first_from b (suc n) (true ∷ marks) there below = absurd (true≢false (below 0 (omega arith)))
first_from b (suc n) (false ∷ marks) there below =
    let e : b + 1 + n ≡ b + suc n = omega arith in
    first_from (b + 1) n marks there (λ m h. below (suc m) (omega (arith, h))) ∙ ap (λ m. m ∷ places_from (b + 1) (set marks n false)) e

-- the first marked place, and then those without it
pub first_place : (n : ℕ) (marks : List Bool) → get_or marks n false ≡ true → ((m : ℕ) → m < n → get_or marks m false ≡ false)
    → marked_places marks ≡ n ∷ marked_places (set marks n false)
first_place n marks there below = let e : 0 + n ≡ n = omega arith in first_from 0 n marks there below ∙ ap (λ m. m ∷ marked_places (set marks n false)) e
