-- What drivers make of one wire is told by how many drive 0, how many 1, and how many what is unknown.
use Rattle.std.proofs.Common.{◌≡◌, ◌==◌, ℕ, Bool, true, false, List, [], ◌∷◌, sum_by, IsPermutation, refl, sym, ap, ◌∙◌, arith}
use Rattle.std.proofs.lemmas.Bool.{ne_eqb}
use Rattle.std.proofs.lemmas.List.Sums.{sum_by-cons}
use Rattle.std.proofs.lemmas.List.Sorted.{length_permutation, sum_by-IsPermutation}
use Rattle.sim_model.specs.LogicValues.declared.kinds.Digit.{Digit}
use Rattle.sim_model.specs.LogicValues.declared.kinds.Digit.TheVariants as digit
use Rattle.sim_model.specs.LogicValues.LogicTables.{resolved, resolved_pair}
use Rattle.sim_model.specs.SignalChannel.Drivers.{resolution}

abbrev zeros : Digit → ℕ
zeros digit.Zero = 1
zeros digit.One = 0
zeros digit.Z = 0
zeros digit.X = 0

abbrev ones : Digit → ℕ
ones digit.Zero = 0
ones digit.One = 1
ones digit.Z = 0
ones digit.X = 0

abbrev unknowns : Digit → ℕ
unknowns digit.Zero = 0
unknowns digit.One = 0
unknowns digit.Z = 0
unknowns digit.X = 1

-- by whether none of them is unknown, none 0, none 1
abbrev made : Bool → Bool → Bool → Digit
made false a b = digit.X
made true true true = digit.Z
made true true false = digit.One
made true false true = digit.Zero
made true false false = digit.X

made_zero : (c a b : Bool) → resolved_pair digit.Zero (made c a b) ≡ made c false b
made_zero false a b = refl
made_zero true true true = refl
made_zero true true false = refl
made_zero true false true = refl
made_zero true false false = refl

made_one : (c a b : Bool) → resolved_pair digit.One (made c a b) ≡ made c a false
made_one false a b = refl
made_one true true true = refl
made_one true true false = refl
made_one true false true = refl
made_one true false false = refl

made_unknown : (c a b : Bool) → resolved_pair digit.X (made c a b) ≡ digit.X
made_unknown false a b = refl
made_unknown true true true = refl
made_unknown true true false = refl
made_unknown true false true = refl
made_unknown true false false = refl

made_same : (c a b d e f : Bool) → c ≡ d → a ≡ e → b ≡ f → made c a b ≡ made d e f
made_same c a b d e f one two three = ap (λ (x : Bool). made x a b) one ∙ ap (λ (x : Bool). made d x b) two ∙ ap (λ (x : Bool). made d e x) three

kept : (f : Digit → ℕ) (d : Digit) (ds : List Digit) → f d ≡ 0 → (sum_by f (d ∷ ds) == 0) ≡ (sum_by f ds == 0)
kept f d ds is =
    let more = sum_by-cons f d ds in
    let same : sum_by f (d ∷ ds) ≡ sum_by f ds = omega (arith, more, is) in
    ap (λ (n : ℕ). n == 0) same

added : (f : Digit → ℕ) (d : Digit) (ds : List Digit) → f d ≡ 1 → (sum_by f (d ∷ ds) == 0) ≡ false
added f d ds is = let more = sum_by-cons f d ds in ne_eqb (sum_by f (d ∷ ds)) 0 (λ none. omega (arith, more, is, none))

abbrev counted : List Digit → Digit
counted ds = made (sum_by unknowns ds == 0) (sum_by zeros ds == 0) (sum_by ones ds == 0)

one_more : (d : Digit) (ds : List Digit) → resolved_pair d (counted ds) ≡ counted (d ∷ ds)
one_more digit.Zero ds =
    made_zero (sum_by unknowns ds == 0) (sum_by zeros ds == 0) (sum_by ones ds == 0)
    ∙ sym (made_same _ _ _ _ _ _ (kept unknowns digit.Zero ds refl) (added zeros digit.Zero ds refl) (kept ones digit.Zero ds refl))
one_more digit.One ds =
    made_one (sum_by unknowns ds == 0) (sum_by zeros ds == 0) (sum_by ones ds == 0)
    ∙ sym (made_same _ _ _ _ _ _ (kept unknowns digit.One ds refl) (kept zeros digit.One ds refl) (added ones digit.One ds refl))
one_more digit.Z ds = sym (made_same _ _ _ _ _ _ (kept unknowns digit.Z ds refl) (kept zeros digit.Z ds refl) (kept ones digit.Z ds refl))
one_more digit.X ds =
    made_unknown (sum_by unknowns ds == 0) (sum_by zeros ds == 0) (sum_by ones ds == 0)
    ∙ sym (made_same _ _ _ _ _ _ (added unknowns digit.X ds refl) (kept zeros digit.X ds refl) (kept ones digit.X ds refl))

resolved-counted : (ds : List Digit) → resolved ds ≡ counted ds
resolved-counted [] = refl
resolved-counted (d ∷ ds) = ap (resolved_pair d) (resolved-counted ds) ∙ one_more d ds

pub resolution-permuted : (ds es : List Digit) → IsPermutation ds es → resolution es ≡ resolution ds
resolution-permuted [] [] h = refl
resolution-permuted [] (e ∷ es) h = let many = length_permutation [] (e ∷ es) h in absurd (omega (arith, many))
resolution-permuted (d ∷ ds) [] h = let many = length_permutation (d ∷ ds) [] h in absurd (omega (arith, many))
resolution-permuted (d ∷ ds) (e ∷ es) h =
    resolved-counted (e ∷ es) ∙ made_same _ _ _ _ _ _ (same unknowns) (same zeros) (same ones) ∙ sym (resolved-counted (d ∷ ds))
  where
    same : (f : Digit → ℕ) → (sum_by f (e ∷ es) == 0) ≡ (sum_by f (d ∷ ds) == 0)
    same f = ap (λ (n : ℕ). n == 0) (sum_by-IsPermutation f (d ∷ ds) (e ∷ es) h)
