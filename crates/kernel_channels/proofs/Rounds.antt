-- Marks that count in the present round alone.
use Rattle.std.proofs.Common.{◌≡◌, ℕ, zero, suc, ◌+◌, ◌<◌, ◌≤◌, true, false, List, [], ◌∷◌, Some, None, length, get_or, set, replicate, slice_get, unwrap_or, refl, ap, ◌∙◌, arith}
use Rattle.std.specs.Prelude.{◌==◌}
use Rattle.std.proofs.lemmas.Bool.{eq-eqb, ne_eqb}
use Rattle.std.proofs.lemmas.List.{map-set}
use Rattle.kernel_channels.specs.UpdateMarks.{marked_in, IsPresent, AllZero}

-- ---- in a round in which none was marked

none_in : (round : ℕ) (rounds : List ℕ) → ((k : ℕ) → get_or rounds k 0 < round) → marked_in round rounds ≡ replicate (length rounds) false
none_in round [] below = refl
none_in round (r ∷ rounds) below =
    let h : r < round = below 0 in
    λ i. ne_eqb r round (λ same. absurd (omega (arith, same, h))) i ∷ none_in round rounds (λ k. below (suc k)) i

module _ (round : ℕ) (rounds : List ℕ) (present : IsPresent round rounds) where
  pub present_next : IsPresent (round + 1) rounds
  present_next = record {
    begun = omega arith;
    past = λ k. let h = present.past k in omega (arith, h);
  }

  pub none_next : marked_in (round + 1) rounds ≡ replicate (length rounds) false
  none_next = none_in (round + 1) rounds (λ k. let h = present.past k in omega (arith, h))

module _ (rounds : List ℕ) (zeros : AllZero rounds) where
  pub present_first : IsPresent 1 rounds
  present_first = record {
    begun = omega arith;
    past = λ k. let h = zeros k in omega (arith, h);
  }

  pub none_first : marked_in 1 rounds ≡ replicate (length rounds) false
  none_first = none_in 1 rounds (λ k. let h = zeros k in omega (arith, h))

pub zeros_of : (n : ℕ) → AllZero (replicate n 0)
zeros_of zero zero = refl
zeros_of zero (suc k) = refl
zeros_of (suc n) zero = refl
zeros_of (suc n) (suc k) = zeros_of n k

-- ---- one that is marked

pub set_in : (round : ℕ) (rounds : List ℕ) (n : ℕ) → marked_in round (set rounds n round) ≡ set (marked_in round rounds) n true
set_in round rounds n = map-set (λ (r : ℕ). r == round) rounds n round ∙ ap (set (marked_in round rounds) n) (eq-eqb round round refl)

past_set : (round : ℕ) (rounds : List ℕ) (n k : ℕ) → ((j : ℕ) → get_or rounds j 0 ≤ round) → get_or (set rounds n round) k 0 ≤ round
past_set round [] zero k past = past k
past_set round [] (suc n) k past = past k
past_set round (r ∷ rounds) zero zero past = omega arith
past_set round (r ∷ rounds) zero (suc k) past = past (suc k)
past_set round (r ∷ rounds) (suc n) zero past = past 0
past_set round (r ∷ rounds) (suc n) (suc k) past = past_set round rounds n k (λ j. past (suc j))

pub present_set : (round : ℕ) (rounds : List ℕ) (n : ℕ) → IsPresent round rounds → IsPresent round (set rounds n round)
present_set round rounds n present = record {
  begun = present.begun;
  past = λ k. past_set round rounds n k present.past;
}

-- ---- whether one is marked

pub told_in : (round : ℕ) (rounds : List ℕ) (n r : ℕ) → slice_get rounds n ≡ Some r → unwrap_or (slice_get (marked_in round rounds) n) false ≡ (r == round)
told_in round [] zero r is = absurd cc
told_in round [] (suc n) r is = absurd cc
told_in round (x ∷ rounds) zero r is = let same : x ≡ r = cc in ap (λ (y : ℕ). y == round) same
told_in round (x ∷ rounds) (suc n) r is = told_in round rounds n r is

pub untold_in : (round : ℕ) (rounds : List ℕ) (n : ℕ) → slice_get rounds n ≡ None → unwrap_or (slice_get (marked_in round rounds) n) false ≡ false
untold_in round [] zero is = refl
untold_in round [] (suc n) is = refl
untold_in round (x ∷ rounds) zero is = absurd cc
untold_in round (x ∷ rounds) (suc n) is = untold_in round rounds n is
