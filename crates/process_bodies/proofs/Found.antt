-- One more mark, and one more serial that is found or not.
use Rattle.std.proofs.Common.{◌≡◌, ◌≤◌, ◌<◌, ◌+◌, ◌-◌, ◌==◌, ◌||◌, ◌⊎◌, inl, inr, ℕ, zero, suc, Bool, true, false, List, [], ◌∷◌, ◌++◌, length, slice_get, Option, Some, None, refl, sym, ap, ◌∙◌, subst, arith, ⊎_elim}
use Rattle.std.specs.Prelude.{nat_lt, unwrap_or, if◌then◌else◌}
use Rattle.std.proofs.lemmas.Bool.{cases_eq, cases_lt, lt-ltb, le-ltb, eq-eqb, ne_eqb}
use Rattle.std.proofs.lemmas.Option.{slice_get_past}
use Rattle.kernel_bodies.specs.SimModel.Waits.{holds}
use Rattle.kernel_bodies.specs.SimModel.Control.{found_with}
use Rattle.process_bodies.specs.Marks.{marked, marked_if, with_if, Agree}

at_end : {A : Type 0} (xs : List A) (x : A) → slice_get (xs ++ x ∷ []) (length xs) ≡ Some x
at_end [] x = refl
at_end (y ∷ ys) x = at_end ys x

at_other : {A : Type 0} (xs : List A) (x : A) (k : ℕ) → (k ≡ length xs → ⊥) → slice_get (xs ++ x ∷ []) k ≡ slice_get xs k
at_other [] x zero apart = absurd (apart refl)
at_other [] x (suc k) apart = refl
at_other (y ∷ ys) x zero apart = refl
at_other (y ∷ ys) x (suc k) apart = at_other ys x k (λ same. apart (ap suc same))

before_q : (marks : List Bool) (q n : ℕ) → n < q → marked marks q n ≡ false
before_q marks q n less = ap (λ b. if b then false else unwrap_or (slice_get marks (n - q)) false) (lt-ltb n q less)

from_q : (marks : List Bool) (q n : ℕ) → q ≤ n → marked marks q n ≡ unwrap_or (slice_get marks (n - q)) false
from_q marks q n more = ap (λ b. if b then false else unwrap_or (slice_get marks (n - q)) false) (le-ltb n q more)

-- the first one

first_from : (q n : ℕ) → q ≤ n → (n ≡ q → ⊥) → slice_get (true ∷ []) (n - q) ≡ None
first_from q n more apart = slice_get_past (true ∷ []) (n - q) (let some : 1 ≤ n - q = by_case (cases_lt q n) in some)
  where
    by_case : (q < n) ⊎ (n ≤ q) → 1 ≤ n - q
    by_case (inl less) = omega (arith, less)
    by_case (inr not) = absurd (apart (omega (arith, more, not)))

holds_other : (found : List ℕ) (m n : ℕ) → (n ≡ m → ⊥) → holds (m ∷ found) n ≡ holds found n
holds_other found m n apart = ap (λ b. b || holds found n) (ne_eqb m n (λ same. apart (sym same)))

holds_here : (found : List ℕ) (m n : ℕ) → n ≡ m → holds (m ∷ found) n ≡ true
holds_here found m n same = ap (λ b. b || holds found n) (eq-eqb m n (sym same))

pub first_agree : (q : ℕ) → Agree (true ∷ []) q (q ∷ [])
first_agree q n = ⊎_elim
    (λ same. from_q (true ∷ []) q n (omega (arith, same)) ∙ ap (λ k. unwrap_or (slice_get (true ∷ []) k) false) (let none : n - q ≡ 0 = omega (arith, same) in none) ∙ sym (holds_here [] q n same))
    (λ apart. ⊎_elim
    (λ less. before_q (true ∷ []) q n less)
    (λ more. from_q (true ∷ []) q n more ∙ ap (λ (o : Option Bool). unwrap_or o false) (first_from q n more apart))
    (cases_lt n q) ∙ sym (holds_other [] q n apart))
    (cases_eq n q)

-- one more

module _ (marks : List Bool) (q place : ℕ) (found : List ℕ) (size : q + length marks ≡ place) (agree : Agree marks q found) where
  was_free : (n : ℕ) → n ≡ place → holds found n ≡ false
  was_free n same =
      let behind : length marks ≤ n - q = omega (arith, same, size) in
      let from : q ≤ n = omega (arith, same, size) in
      sym (agree n) ∙ from_q marks q n from ∙ ap (λ (o : Option Bool). unwrap_or o false) (slice_get_past marks (n - q) behind)

  holds_place : (b : Bool) (n : ℕ) → n ≡ place → holds (with_if b place found) n ≡ b
  holds_place true n same = holds_here found place n same
  holds_place false n same = was_free n same

  holds_apart : (b : Bool) (n : ℕ) → (n ≡ place → ⊥) → holds (with_if b place found) n ≡ holds found n
  holds_apart true n apart = holds_other found place n apart
  holds_apart false n apart = refl

  marked_place : (b : Bool) (n : ℕ) → n ≡ place → marked (marks ++ b ∷ []) q n ≡ b
  marked_place b n same =
      let at : n - q ≡ length marks = omega (arith, same, size) in
      let from : q ≤ n = omega (arith, same, size) in
      from_q (marks ++ b ∷ []) q n from ∙ ap (λ k. unwrap_or (slice_get (marks ++ b ∷ []) k) false) at ∙ ap (λ (o : Option Bool). unwrap_or o false) (at_end marks b)

  marked_apart : (b : Bool) (n : ℕ) → (n ≡ place → ⊥) → marked (marks ++ b ∷ []) q n ≡ marked marks q n
  marked_apart b n apart = ⊎_elim
      (λ less. before_q (marks ++ b ∷ []) q n less ∙ sym (before_q marks q n less))
      (λ more.
      from_q (marks ++ b ∷ []) q n more
      ∙ ap (λ (o : Option Bool). unwrap_or o false) (at_other marks b (n - q) (λ at. apart (omega (arith, at, more, size))))
      ∙ sym (from_q marks q n more))
      (cases_lt n q)

  pub more_agree : (b : Bool) → Agree (marks ++ b ∷ []) q (with_if b place found)
  more_agree b n = ⊎_elim
      (λ same. marked_place b n same ∙ sym (holds_place b n same))
      (λ apart. marked_apart b n apart ∙ agree n ∙ sym (holds_apart b n apart))
      (cases_eq n place)

  one_with : (p : ℕ) (b : Bool) → holds found p ≡ b → with_if b place found ≡ found_with place (Some p) found
  one_with p true e = sym (ap (λ b. if b then place ∷ found else found) e)
  one_with p false e = sym (ap (λ b. if b then place ∷ found else found) e)

  -- a serial is found where its parent has a mark
  pub found_more : (parent : Option ℕ) → with_if (marked_if marks q parent) place found ≡ found_with place parent found
  found_more None = refl
  found_more (Some p) = one_with p (marked marks q p) (sym (agree p))
