-- Fronts of bytes of one kind.
use Rattle.std.proofs.Common.{◌≡◌, ℕ, zero, suc, ◌+◌, ◌<◌, ◌≤◌, Bool, true, false, List, [], ◌∷◌, length, take, Some, ◌∙◌, refl, ap, ⊎_elim, arith}
use Rattle.std.specs.Prelude.{slice_get}
use Rattle.std.specs.List.{list_all, prefix_len}
use Rattle.std.proofs.Math.Numerals.{one-add}
use Rattle.std.proofs.lemmas.Bool.{cases_Bool, eqb-true, eq-eqb, and_parts}
use Rattle.model_lexer.specs.Forms.{closes}

pub all_front : (p : ℕ → Bool) (xs : List ℕ) → list_all p (take (prefix_len p xs) xs) ≡ true
all_front p [] = refl
all_front p (x ∷ xs) =
    ⊎_elim
    (λ (t : p x ≡ true). rw (t, one-add) (rw (t, all_front p xs) refl))
    (λ (f : p x ≡ false). rw f refl)
    (cases_Bool (p x))

pub past_front : (p : ℕ → Bool) (xs : List ℕ) (m : ℕ) → prefix_len p xs < m → m ≤ length xs → list_all p (take m xs) ≡ false
past_front p [] m h k = absurd (omega arith)
past_front p (x ∷ xs) zero h k = absurd (omega arith)
past_front p (x ∷ xs) (suc m) h k =
    ⊎_elim
    (λ (t : p x ≡ true). let g : 1 + prefix_len p xs < suc m = rw t at h in rw (t, past_front p xs m (omega arith) (omega arith)) refl)
    (λ (f : p x ≡ false). rw f refl)
    (cases_Bool (p x))

-- the byte behind a run of bytes between quotes is the quote: then the run is closed there
pub closes_at : (p : ℕ → Bool) (quote : ℕ) (xs : List ℕ) → slice_get xs (prefix_len p xs) ≡ Some quote → closes p quote (take (suc (prefix_len p xs)) xs) ≡ true
closes_at p quote [] h = cc
closes_at p quote (x ∷ []) h =
    ⊎_elim
    (λ (t : p x ≡ true). let k : slice_get (x ∷ []) (1 + 0) ≡ Some quote = rw t at h in cc)
    (λ (f : p x ≡ false). let k : slice_get (x ∷ []) 0 ≡ Some quote = rw f at h in let e : x ≡ quote = cc in rw f (eq-eqb x quote e))
    (cases_Bool (p x))
closes_at p quote (x ∷ y ∷ ys) h =
    ⊎_elim
    (λ (t : p x ≡ true).
    let k : slice_get (x ∷ y ∷ ys) (suc (prefix_len p (y ∷ ys))) ≡ Some quote = rw (t, one-add) at h in
    rw (t, one-add) (rw t (closes_at p quote (y ∷ ys) k)))
    (λ (f : p x ≡ false). let k : slice_get (x ∷ y ∷ ys) 0 ≡ Some quote = rw f at h in let e : x ≡ quote = cc in rw f (eq-eqb x quote e))
    (cases_Bool (p x))

-- and it is closed nowhere else
pub closes_only : (p : ℕ → Bool) (quote : ℕ) → p quote ≡ false → (xs : List ℕ) (m : ℕ) → m ≤ length xs → closes p quote (take m xs) ≡ true → (m ≡ suc (prefix_len p xs)) × (slice_get xs (prefix_len p xs) ≡ Some quote)
closes_only p quote q [] zero k h = cc
closes_only p quote q [] (suc m) k h = cc
closes_only p quote q (x ∷ xs) zero k h = cc
closes_only p quote q (x ∷ xs) (suc zero) k h =
    let e : x ≡ quote = eqb-true x quote h in
    let f : p x ≡ false = ap p e ∙ q in
    rw f (refl, ap Some e)
closes_only p quote q (x ∷ []) (suc (suc m)) k h = absurd (omega arith)
closes_only p quote q (x ∷ y ∷ ys) (suc (suc m)) k h =
    let both = and_parts (p x) (closes p quote (y ∷ take m ys)) h in
    let t : p x ≡ true = both.0 in
    let next = closes_only p quote q (y ∷ ys) (suc m) (omega arith) both.1 in
    rw (t, one-add) (ap suc next.0, next.1)
