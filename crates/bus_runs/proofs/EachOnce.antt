-- What stands in a list once, among those of it that pass a test.
use Rattle.std.proofs.Common.{◌≡◌, ◌≢◌, ℕ, zero, suc, ◌<◌, Bool, true, false, cond, List, [], ◌∷◌, length, get_or, refl, sym, ap, ◌∙◌, inl, inr, arith}
use Rattle.std.specs.Prelude.{◌==◌, filter, Contains}
use Rattle.std.proofs.lemmas.Bool.{cases_eq, false≢true, eq-eqb, eqb-true}
use Rattle.std.proofs.lemmas.List.{get_or_default}

-- those that are k
abbrev pub only : ℕ → List ℕ → List ℕ
only k ks = filter (λ j. j == k) ks

pub not_equal : (x k : ℕ) → x ≢ k → (x == k) ≡ false
not_equal x k apart = by_test (x == k) refl
  where
    by_test : (b : Bool) → (x == k) ≡ b → b ≡ false
    by_test false is = refl
    by_test true is = absurd (apart (eqb-true x k is))

-- ---- behind a test

module _ (p : ℕ → Bool) (k : ℕ) where
  pass_step : (x : ℕ) (rest also : List ℕ) (b : Bool) → (b ≡ false → (x == k) ≡ false) → only k rest ≡ also → only k (cond b (x ∷ rest) rest) ≡ cond (x == k) (x ∷ also) also
  pass_step x rest also true apart is = ap (λ l. cond (x == k) (x ∷ l) l) is
  pass_step x rest also false apart is = is ∙ sym (ap (λ c. cond c (x ∷ also) also) (apart refl))

  pub passes : p k ≡ true → (ks : List ℕ) → only k (filter p ks) ≡ only k ks
  passes pass [] = refl
  passes pass (x ∷ ks) = pass_step x (filter p ks) (only k ks) (p x) (λ fail. not_equal x k (λ e. false≢true (sym fail ∙ ap p e ∙ pass))) (passes pass ks)

  fail_step : (x : ℕ) (rest : List ℕ) (b : Bool) → (b ≡ true → (x == k) ≡ false) → only k rest ≡ [] → only k (cond b (x ∷ rest) rest) ≡ []
  fail_step x rest true apart is = ap (λ c. cond c (x ∷ only k rest) (only k rest)) (apart refl) ∙ is
  fail_step x rest false apart is = is

  pub fails : p k ≡ false → (ks : List ℕ) → only k (filter p ks) ≡ []
  fails fail [] = refl
  fails fail (x ∷ ks) = fail_step x (filter p ks) (p x) (λ pass. not_equal x k (λ e. false≢true (sym fail ∙ ap p (sym e) ∙ pass))) (fails fail ks)

-- ---- in a list

abbrev pub AreDistinct : List ℕ → Type 0
AreDistinct ks = (i j : ℕ) → i < j → j < length ks → get_or ks i 0 ≢ get_or ks j 0

later : (x k : ℕ) (ks : List ℕ) → Contains ks k → Contains (x ∷ ks) k
later x k ks (i, below, is) = (suc i, omega arith, is)

skip : (x k : ℕ) (ks : List ℕ) → x ≢ k → only k (x ∷ ks) ≡ only k ks
skip x k ks apart = ap (λ c. cond c (x ∷ only k ks) (only k ks)) (not_equal x k apart)

pub none_of : (k : ℕ) (ks : List ℕ) → (Contains ks k → ⊥) → only k ks ≡ []
none_of k [] lacks = refl
none_of k (x ∷ ks) lacks = skip x k ks (λ e. lacks (0, omega arith, e)) ∙ none_of k ks (λ held. lacks (later x k ks held))

pub once_of : (k : ℕ) (ks : List ℕ) → AreDistinct ks → Contains ks k → only k ks ≡ k ∷ []
once_of k [] distinct (i, below, is) = absurd (omega arith)
once_of k (x ∷ ks) distinct held = elim (cases_eq x k) [
  | inl e ↦
      ap (λ c. cond c (x ∷ only k ks) (only k ks)) (eq-eqb x k e)
      ∙ ap (λ l. x ∷ l) (none_of k ks (λ again. distinct 0 (suc again.0) (omega arith) (let below = again.1 in omega arith) (e ∙ sym (get_or_default ks again.0 0 k again.1 ∙ again.2))))
      ∙ ap (λ n. n ∷ []) e
  | inr apart ↦ skip x k ks apart ∙ once_of k ks (λ i j less below. distinct (suc i) (suc j) (omega arith) (omega arith)) (behind held apart)
]
  where
    behind : Contains (x ∷ ks) k → x ≢ k → Contains ks k
    behind (zero, below, is) apart = absurd (apart is)
    behind (suc i, below, is) apart = (i, omega arith, is)
