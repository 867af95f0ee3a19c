-- What a process drives, whoever drives before it.
use Rattle.std.proofs.Common.{◌≡◌, ◌≢◌, ◌==◌, ◌||◌, ◌+◌, ◌*◌, ◌<◌, ℕ, zero, suc, Bool, true, false, cond, List, [], ◌∷◌, length, zip, slice_set, sum_by, Option, Some, None, option_map, refl, sym, ap, ◌∙◌, subst, arith, eqb-true, ne_eqb}
use Rattle.std.specs.Prelude.{position, nat_lt}
use Rattle.std.specs.List.{position_or_len}
use Rattle.std.proofs.lemmas.Bool.{eqb-false}
use Rattle.std.proofs.lemmas.Bool.Decides.{nat_tests}
use Rattle.std.proofs.lemmas.List.Sums.{sum_by-cons}
use Rattle.std.proofs.lemmas.List.Sorted.{sum_by-IsPermutation, IsPermutation-refl, IsPermutation-sym, IsPermutation-trans}
use Rattle.sim_model.specs.LogicValues.declared.kinds.Digit.{Digit}
use Rattle.sim_model.specs.LogicValues.declared.kinds.Digit.TheVariants as digit
use Rattle.sim_model.specs.SignalChannel.Drivers.{Driven, driven_at, driven_by}
use Rattle.sim_model.specs.Waits.{holds}
use Rattle.laws_runs.specs.Marks.{IsDistinct}
use Rattle.laws_order.specs.Same.{HasOwnDrivers, SameDriven}
use Rattle.laws_order.proofs.Permuting.{sums-same, from-sums}

-- ---- a writer and its driver as a number

abbrev of_digit : Digit → ℕ
of_digit digit.Zero = 0
of_digit digit.One = 1
of_digit digit.Z = 2
of_digit digit.X = 3

abbrev to_digit : ℕ → Digit
to_digit zero = digit.Zero
to_digit (suc zero) = digit.One
to_digit (suc (suc zero)) = digit.Z
to_digit (suc (suc (suc n))) = digit.X

digit_back : (d : Digit) → to_digit (of_digit d) ≡ d
digit_back digit.Zero = refl
digit_back digit.One = refl
digit_back digit.Z = refl
digit_back digit.X = refl

of_few : (d : Digit) → of_digit d < 4
of_few digit.Zero = omega arith
of_few digit.One = omega arith
of_few digit.Z = omega arith
of_few digit.X = omega arith

abbrev number : ℕ × Digit → ℕ
number z = 4 * z.0 + of_digit z.1

number_back : (a b : ℕ × Digit) → number a ≡ number b → a ≡ b
number_back a b same =
    let one = of_few a.1 in
    let two = of_few b.1 in
    let first : a.0 ≡ b.0 = omega (arith, same, one, two) in
    let then : of_digit a.1 ≡ of_digit b.1 = omega (arith, same, one, two) in
    ap (λ (n : ℕ). (n, a.1)) first ∙ ap (λ (d : Digit). (b.0, d)) (sym (digit_back a.1) ∙ ap to_digit then ∙ digit_back b.1)

-- ---- the place of a writer, from the front on

within_more : (n : ℕ) → nat_lt 0 (suc n) ≡ true
within_more n = grind (arith, nat_tests)

more_within : (m n : ℕ) → nat_lt (1 + m) (suc n) ≡ nat_lt m n
more_within m n = grind (arith, nat_tests)

some_if : (b : Bool) (n : ℕ) → cond b (Some (1 + n)) None ≡ option_map (λ (m : ℕ). 1 + m) (cond b (Some n) None)
some_if true n = refl
some_if false n = refl

at_first : (p : ℕ → Bool) (x : ℕ) (xs : List ℕ) (b : Bool) → p x ≡ b → position p (x ∷ xs) ≡ cond b (Some 0) (option_map (λ (n : ℕ). 1 + n) (position p xs))
at_first p x xs true h = rw h (ap (λ b. cond b (Some 0) None) (within_more (length xs)))
at_first p x xs false h =
    rw h (ap (λ b. cond b (Some (1 + position_or_len p xs)) None) (more_within (position_or_len p xs) (length xs)) ∙ some_if (nat_lt (position_or_len p xs) (length xs)) (position_or_len p xs))

or_false : (a b : Bool) → a || b ≡ false → (a ≡ false) × (b ≡ false)
or_false true b h = (h, or_true b h)
  where
    or_true : (b : Bool) → true ≡ false → b ≡ false
    or_true true h = h
    or_true false h = refl
or_false false b h = (refl, h)

-- ---- what one process drives

module _ (p : ℕ) (d v : Digit) where
  abbrev made : List ℕ → List Digit → Driven
  made ws ds = driven_by p d (record { writers = ws; drivers = ds; value = v })

  abbrev before : ℕ → Digit → Driven → Driven
  before w e r = record { writers = w ∷ r.writers; drivers = e ∷ r.drivers; value = r.value }

  shifted : (w : ℕ) (e : Digit) (ws : List ℕ) (ds : List Digit) (o : Option ℕ)
      → driven_at p d (record { writers = w ∷ ws; drivers = e ∷ ds; value = v }) (option_map (λ (n : ℕ). 1 + n) o) ≡ before w e (driven_at p d (record { writers = ws; drivers = ds; value = v }) o)
  shifted w e ws ds None = refl
  shifted w e ws ds (Some i) = let one : 1 + i ≡ suc i = omega arith in ap (λ n. record { writers = w ∷ ws; drivers = slice_set (e ∷ ds) n d; value = v }) one

  at_head : (w : ℕ) (e : Digit) (ws : List ℕ) (ds : List Digit) → (w == p) ≡ true → made (w ∷ ws) (e ∷ ds) ≡ record { writers = w ∷ ws; drivers = d ∷ ds; value = v }
  at_head w e ws ds is = ap (driven_at p d (record { writers = w ∷ ws; drivers = e ∷ ds; value = v })) (at_first (λ k. k == p) w ws true is)

  past_head : (w : ℕ) (e : Digit) (ws : List ℕ) (ds : List Digit) → (w == p) ≡ false → made (w ∷ ws) (e ∷ ds) ≡ before w e (made ws ds)
  past_head w e ws ds is = ap (driven_at p d (record { writers = w ∷ ws; drivers = e ∷ ds; value = v })) (at_first (λ k. k == p) w ws false is) ∙ shifted w e ws ds (position (λ k. k == p) ws)

  -- ---- each has one driver of its own

  record OwnStill (ws : List ℕ) (r : Driven) : Type 0 where
    once : IsDistinct r.writers
    many : length r.drivers ≡ length r.writers
    others : (q : ℕ) → q ≢ p → holds r.writers q ≡ holds ws q

  own_made : (ws : List ℕ) (ds : List Digit) → IsDistinct ws → length ds ≡ length ws → OwnStill ws (made ws ds)
  own_made [] [] once many = record { once = (refl, tt); many = refl; others = λ q apart. ap (λ b. b || false) (ne_eqb p q (λ e. apart (sym e))) }
  own_made [] (e ∷ ds) once many = absurd (omega (arith, many))
  own_made (w ∷ ws) [] once many = absurd (omega (arith, many))
  own_made (w ∷ ws) (e ∷ ds) once many = by (w == p) refl (own_made ws ds once.1 (omega (arith, many)))
    where
      by : (b : Bool) → (w == p) ≡ b → OwnStill ws (made ws ds) → OwnStill (w ∷ ws) (made (w ∷ ws) (e ∷ ds))
      by true is rest = subst (OwnStill (w ∷ ws)) (sym (at_head w e ws ds is)) (record { once = once; many = many; others = λ q apart. refl })
      by false is rest =
          subst (OwnStill (w ∷ ws)) (sym (past_head w e ws ds is))
          (record { once = (rest.others w (eqb-false w p is) ∙ once.0, rest.once); many = (let m = rest.many in omega (arith, m)); others = λ q apart. ap (λ b. (w == q) || b) (rest.others q apart) })

  -- ---- and all others have what they had

  abbrev but : (ℕ × Digit → ℕ) → ℕ × Digit → ℕ
  but g z = cond (z.0 == p) 0 (g z)

  absent : (g : ℕ × Digit → ℕ) (ws : List ℕ) (ds : List Digit) → holds ws p ≡ false → sum_by (but g) (zip ws ds) ≡ sum_by g (zip ws ds)
  absent g [] ds none = refl
  absent g (w ∷ ws) [] none = refl
  absent g (w ∷ ws) (e ∷ ds) none =
      let parts = or_false (w == p) (holds ws p) none in
      let rest = absent g ws ds parts.1 in
      let one : but g (w, e) ≡ g (w, e) = ap (λ b. cond b 0 (g (w, e))) parts.0 in
      let here = sum_by-cons (but g) (w, e) (zip ws ds) in
      let there = sum_by-cons g (w, e) (zip ws ds) in
      omega (arith, rest, one, here, there)

  abbrev zipped : Driven → List (ℕ × Digit)
  zipped r = zip r.writers r.drivers

  sum_made : (g : ℕ × Digit → ℕ) (ws : List ℕ) (ds : List Digit) → IsDistinct ws → length ds ≡ length ws → sum_by g (zipped (made ws ds)) ≡ g (p, d) + sum_by (but g) (zip ws ds)
  sum_made g [] [] once many = sum_by-cons g (p, d) []
  sum_made g [] (e ∷ ds) once many = absurd (omega (arith, many))
  sum_made g (w ∷ ws) [] once many = absurd (omega (arith, many))
  sum_made g (w ∷ ws) (e ∷ ds) once many = by (w == p) refl (sum_made g ws ds once.1 (omega (arith, many)))
    where
      here : sum_by (but g) ((w, e) ∷ zip ws ds) ≡ but g (w, e) + sum_by (but g) (zip ws ds)
      here = sum_by-cons (but g) (w, e) (zip ws ds)

      by : (b : Bool) → (w == p) ≡ b → sum_by g (zipped (made ws ds)) ≡ g (p, d) + sum_by (but g) (zip ws ds) → sum_by g (zipped (made (w ∷ ws) (e ∷ ds))) ≡ g (p, d) + sum_by (but g) ((w, e) ∷ zip ws ds)
      by true is later =
          let same = eqb-true w p is in
          let one : but g (w, e) ≡ 0 = ap (λ b. cond b 0 (g (w, e))) is in
          let rest = absent g ws ds (subst (λ k. holds ws k ≡ false) same once.0) in
          let there : sum_by g ((w, d) ∷ zip ws ds) ≡ g (w, d) + sum_by g (zip ws ds) = sum_by-cons g (w, d) (zip ws ds) in
          let first : g (w, d) ≡ g (p, d) = ap (λ (k : ℕ). g (k, d)) same in
          ap (λ r. sum_by g (zipped r)) (at_head w e ws ds is) ∙ omega (arith, one, rest, there, first, here)
      by false is later =
          let one : but g (w, e) ≡ g (w, e) = ap (λ b. cond b 0 (g (w, e))) is in
          let there : sum_by g ((w, e) ∷ zipped (made ws ds)) ≡ g (w, e) + sum_by g (zipped (made ws ds)) = sum_by-cons g (w, e) (zipped (made ws ds)) in
          ap (λ r. sum_by g (zipped r)) (past_head w e ws ds is) ∙ omega (arith, one, later, there, here)

value_at : (p : ℕ) (d : Digit) (r : Driven) (o : Option ℕ) → (driven_at p d r o).value ≡ r.value
value_at p d r None = refl
value_at p d r (Some i) = refl

value_kept : (p : ℕ) (d : Digit) (r : Driven) → (driven_by p d r).value ≡ r.value
value_kept p d r = value_at p d r (position (λ w. w == p) r.writers)

pub own-driven : (p : ℕ) (d : Digit) (r : Driven) → HasOwnDrivers r → HasOwnDrivers (driven_by p d r)
own-driven p d r h = let still = own_made p d r.value r.writers r.drivers h.once h.many in record { once = still.once; many = still.many }

abbrev all_of : Driven → List (ℕ × Digit)
all_of r = zip r.writers r.drivers

abbrev others_than : ℕ → (ℕ × Digit → ℕ) → ℕ × Digit → ℕ
others_than p g z = cond (z.0 == p) 0 (g z)

sum_driven : (p : ℕ) (d : Digit) (g : ℕ × Digit → ℕ) (r : Driven) → HasOwnDrivers r → sum_by g (all_of (driven_by p d r)) ≡ g (p, d) + sum_by (others_than p g) (all_of r)
sum_driven p d g r h = sum_made p d r.value g r.writers r.drivers h.once h.many

-- ---- in two resolved signals that are the same

pub driven-itself : (r : Driven) → HasOwnDrivers r → SameDriven r r
driven-itself r h = record { value = refl; drivers = IsPermutation-refl (all_of r); here = h; there = h }

pub driven-flip : (r s : Driven) → SameDriven r s → SameDriven s r
driven-flip r s h = record { value = sym h.value; drivers = IsPermutation-sym (all_of r) (all_of s) h.drivers; here = h.there; there = h.here }

pub driven-trans : (r s t : Driven) → SameDriven r s → SameDriven s t → SameDriven r t
driven-trans r s t h k = record { value = k.value ∙ h.value; drivers = IsPermutation-trans (all_of r) (all_of s) (all_of t) h.drivers k.drivers; here = h.here; there = k.there }

pub driven-same : (p : ℕ) (d : Digit) (r s : Driven) → SameDriven r s → SameDriven (driven_by p d r) (driven_by p d s)
driven-same p d r s h = record {
  value = value_kept p d s ∙ h.value ∙ sym (value_kept p d r);
  drivers =
      from-sums number number_back (all_of (driven_by p d r)) (all_of (driven_by p d s))
      (λ g. sum_driven p d g s h.there ∙ ap (λ n. g (p, d) + n) (sum_by-IsPermutation (others_than p g) (all_of r) (all_of s) h.drivers) ∙ sym (sum_driven p d g r h.here));
  here = own-driven p d r h.here;
  there = own-driven p d s h.there;
}

either_than : (p q : ℕ) (g : ℕ × Digit → ℕ) (z : ℕ × Digit) → others_than p (others_than q g) z ≡ others_than q (others_than p g) z
either_than p q g z = by (z.0 == p) (z.0 == q)
  where
    by : (a b : Bool) → cond a 0 (cond b 0 (g z)) ≡ cond b 0 (cond a 0 (g z))
    by true true = refl
    by true false = refl
    by false true = refl
    by false false = refl

both_driven : (p q : ℕ) → p ≢ q → (d e : Digit) (g : ℕ × Digit → ℕ) (r : Driven) → HasOwnDrivers r → sum_by g (all_of (driven_by q e (driven_by p d r))) ≡ g (q, e) + (g (p, d) + sum_by (others_than p (others_than q g)) (all_of r))
both_driven p q apart d e g r h =
    sum_driven q e g (driven_by p d r) (own-driven p d r h)
    ∙ ap (λ n. g (q, e) + n) (sum_driven p d (others_than q g) r h ∙ ap (λ b. cond b 0 (g (p, d)) + sum_by (others_than p (others_than q g)) (all_of r)) (ne_eqb p q apart))

-- two processes, in either order
pub driven-either : (p q : ℕ) → p ≢ q → (d e : Digit) (r s : Driven) → SameDriven r s → SameDriven (driven_by q e (driven_by p d r)) (driven_by p d (driven_by q e s))
driven-either p q apart d e r s h = record {
  value = value_kept p d (driven_by q e s) ∙ value_kept q e s ∙ h.value ∙ sym (value_kept q e (driven_by p d r) ∙ value_kept p d r);
  drivers = from-sums number number_back (all_of (driven_by q e (driven_by p d r))) (all_of (driven_by p d (driven_by q e s))) sums;
  here = own-driven q e (driven_by p d r) (own-driven p d r h.here);
  there = own-driven p d (driven_by q e s) (own-driven q e s h.there);
}
  where
    sums : (g : ℕ × Digit → ℕ) → sum_by g (all_of (driven_by p d (driven_by q e s))) ≡ sum_by g (all_of (driven_by q e (driven_by p d r)))
    sums g =
        let here = both_driven p q apart d e g r h.here in
        let there = both_driven q p (λ same. apart (sym same)) e d g s h.there in
        let same = sum_by-IsPermutation (others_than q (others_than p g)) (all_of r) (all_of s) h.drivers in
        let each = sums-same (others_than q (others_than p g)) (others_than p (others_than q g)) (either_than p q g) (all_of r) in
        omega (arith, here, there, same, each)
