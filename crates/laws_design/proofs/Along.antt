-- What objects give along their order: where it stands, and where it comes from.
use Rattle.std.proofs.Common.{◌≡◌, ◌<◌, ◌≤◌, ℕ, zero, suc, ◌+◌, ◌-◌, List, [], ◌∷◌, ◌++◌, length, take, Some, refl, sym, ap, ◌∙◌, subst, inl, inr, arith}
use Rattle.std.specs.Prelude.{slice_get, unwrap_or}
use Rattle.std.proofs.lemmas.Bool.{cases_lt}
use Rattle.std.proofs.lemmas.Option.{slice_get_within}
use Rattle.elaborate_objects.specs.FlatDesign.declared.objects.Object.{Object}
use Rattle.elaborate_objects.specs.FlatDesign.declared.objects.ObjectForm.{ObjectForm}
use Rattle.elaborate_objects.specs.DesignRules.declared.counts.Counts.{Counts}
use Rattle.elaborate_objects.specs.DesignRules.Counting.{behind, along, counted, nothing_before}

pub same_some : {A : Type 0} (x y : A) → Some x ≡ Some y → x ≡ y
same_some x y h = ap (λ o. unwrap_or o x) h

slice_left : {A : Type 0} (xs ys : List A) (k : ℕ) → k < length xs → slice_get (xs ++ ys) k ≡ slice_get xs k
slice_left [] ys k h = absurd (omega (arith, h))
slice_left (x ∷ xs) ys zero h = refl
slice_left (x ∷ xs) ys (suc k) h = slice_left xs ys k (omega (arith, h))

slice_right : {A : Type 0} (xs ys : List A) (k : ℕ) → slice_get (xs ++ ys) (length xs + k) ≡ slice_get ys k
slice_right [] ys k = ap (slice_get ys) (let e : 0 + k ≡ k = omega arith in e)
slice_right (x ∷ xs) ys k = ap (slice_get (x ∷ xs ++ ys)) (let e : length (x ∷ xs) + k ≡ suc (length xs + k) = omega arith in e) ∙ slice_right xs ys k

-- what comes before the object of this number
abbrev pub before : List Object → ℕ → Counts
before os k = counted nothing_before (take k os)

-- a number that never falls
module _ (number : Counts → ℕ) (grows : (n : Counts) (f : ObjectForm) → number n ≤ number (behind n f)) where
  pub counted_more : (n : Counts) (os : List Object) → number n ≤ number (counted n os)
  counted_more n [] = omega arith
  counted_more n (o ∷ os) = let a = grows n o.form in let b = counted_more (behind n o.form) os in omega (arith, a, b)

  pub within_total : (n : Counts) (os : List Object) (k : ℕ) (o : Object) → slice_get os k ≡ Some o → number (behind (counted n (take k os)) o.form) ≤ number (counted n os)
  within_total n [] k o found = cc
  within_total n (x ∷ os) zero o found = subst (λ (y : Object). number (behind n y.form) ≤ number (counted (behind n x.form) os)) (same_some x o found) (counted_more (behind n x.form) os)
  within_total n (x ∷ os) (suc k) o found = within_total (behind n x.form) os k o found

module _ {A : Type 0} (given : Counts → Object → List A) (number : Counts → ℕ) (step : (n : Counts) (o : Object) → number (behind n o.form) ≡ number n + length (given n o)) where
  rises : (n : Counts) (os : List Object) → number n ≤ number (counted n os)
  rises n [] = omega arith
  rises n (o ∷ os) = let a = step n o in let b = rises (behind n o.form) os in omega (arith, a, b)

  pub at_place : (n : Counts) (os : List Object) (k : ℕ) (o : Object) → slice_get os k ≡ Some o → (i : ℕ) (x : A) → slice_get (given (counted n (take k os)) o) i ≡ Some x
      → (j : ℕ) → number n + j ≡ number (counted n (take k os)) + i → slice_get (along given n os) j ≡ Some x
  at_place n [] k o found i x there j e = cc
  at_place n (y ∷ os) zero o found i x there j e =
      let here = ap (λ (z : Object). slice_get (given n z) i) (same_some y o found) ∙ there in
      let same : j ≡ i = omega (arith, e) in
      ap (slice_get (along given n (y ∷ os))) same ∙ slice_left (given n y) (along given (behind n y.form) os) i (slice_get_within (given n y) i x here) ∙ here
  at_place n (y ∷ os) (suc k) o found i x there j e =
      let s = step n y in
      let up = rises (behind n y.form) (take k os) in
      let z : length (given n y) + (j - length (given n y)) ≡ j = omega (arith, s, up, e) in
      sym (ap (slice_get (along given n (y ∷ os))) z)
      ∙ slice_right (given n y) (along given (behind n y.form) os) (j - length (given n y))
      ∙ at_place (behind n y.form) os k o found i x there (j - length (given n y)) (omega (arith, s, up, e))

  -- what stands there comes from an object
  pub record IsFrom (n : Counts) (os : List Object) (j : ℕ) (x : A) : Type 0 where
    pub place : ℕ
    pub object : Object
    pub index : ℕ
    pub found : slice_get os place ≡ Some object
    pub gives : slice_get (given (counted n (take place os)) object) index ≡ Some x
    pub number_is : number n + j ≡ number (counted n (take place os)) + index

  pub from_place : (n : Counts) (os : List Object) (j : ℕ) (x : A) → slice_get (along given n os) j ≡ Some x → IsFrom n os j x
  from_place n [] j x h = cc
  from_place n (y ∷ os) j x h =
      elim (cases_lt j (length (given n y))) [
        | inl short ↦ record { place = 0; object = y; index = j; found = refl; gives = sym (slice_left (given n y) (along given (behind n y.form) os) j short) ∙ h; number_is = refl }
        | inr long ↦
            let s = step n y in
            let z : length (given n y) + (j - length (given n y)) ≡ j = omega (arith, long) in
            let r =
            from_place (behind n y.form) os (j - length (given n y)) x
            (sym (slice_right (given n y) (along given (behind n y.form) os) (j - length (given n y))) ∙ ap (slice_get (along given n (y ∷ os))) z ∙ h) in
            let e = r.number_is in
            record { place = suc r.place; object = r.object; index = r.index; found = r.found; gives = r.gives; number_is = omega (arith, s, e, long) }
      ]
