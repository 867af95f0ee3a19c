-- Values that are the same by `is_same` are equal, and equal ones are the same.
use Rattle.std.proofs.Common.{◌≡◌, ◌↔◌, ◌&&◌, ℕ, Bool, true, false, nat_eq, Option, Some, None, refl, sym, ap, ◌∙◌, subst, eq-eqb}
use Rattle.std.proofs.lemmas.Bool.{eqb-true, and_parts}
use Rattle.std.specs.Cmp.Derive.{both_true}
use Rattle.logic_values.specs.declared.kinds.Digit.{Digit}
use Rattle.logic_values.specs.declared.kinds.Digit.TheVariants as digit
use Rattle.logic_values.specs.declared.kinds.Value.{Value}
use Rattle.logic_values.specs.declared.kinds.Value.TheVariants as value
use Rattle.logic_values.specs.declared.planes.Lv.{Lv}
use Rattle.logic_values.specs.SameValue.{digit_number, is_same_truth, is_same_handle, is_same}
use Rattle.logic_values.proofs.VectorLaws.{same_fields}

-- ---- what is the same is equal

equal_truths : (a b : Bool) → is_same_truth a b ≡ true → a ≡ b
equal_truths true b h = sym h
equal_truths false false h = refl
equal_truths false true h = h

equal_digits : (a b : Digit) → nat_eq (digit_number a) (digit_number b) ≡ true → a ≡ b
equal_digits digit.Zero digit.Zero h = refl
equal_digits digit.One digit.One h = refl
equal_digits digit.Z digit.Z h = refl
equal_digits digit.X digit.X h = refl
equal_digits a b h = cc

equal_handles : (a b : Option ℕ) → is_same_handle a b ≡ true → a ≡ b
equal_handles None None h = refl
equal_handles (Some a) (Some b) h = ap Some (eqb-true a b h)
equal_handles None (Some b) h = cc
equal_handles (Some a) None h = cc

equal_vectors : (a b : Lv) → (nat_eq a.width b.width && (nat_eq a.ones b.ones && nat_eq a.unknown b.unknown)) ≡ true → a ≡ b
equal_vectors a b h =
    let w = and_parts (nat_eq a.width b.width) (nat_eq a.ones b.ones && nat_eq a.unknown b.unknown) h in
    let p = and_parts (nat_eq a.ones b.ones) (nat_eq a.unknown b.unknown) w.1 in
    same_fields a b (eqb-true a.width b.width w.0) (eqb-true a.ones b.ones p.0) (eqb-true a.unknown b.unknown p.1)

-- an integer is its width and its bits
equal_integers : (I : ℕ → ℕ → Value) (v a w b : ℕ) → (nat_eq v w && nat_eq a b) ≡ true → I v a ≡ I w b
equal_integers I v a w b h =
    let p = and_parts (nat_eq v w) (nat_eq a b) h in
    ap (λ n. I n a) (eqb-true v w p.0) ∙ ap (λ n. I w n) (eqb-true a b p.1)

pub same_are_equal : (a b : Value) → is_same a b ≡ true → a ≡ b
same_are_equal (value.Bool a) (value.Bool b) h = ap value.Bool (equal_truths a b h)
same_are_equal (value.Int v a) (value.Int w b) h = equal_integers value.Int v a w b h
same_are_equal (value.Uint v a) (value.Uint w b) h = equal_integers value.Uint v a w b h
same_are_equal (value.Logic a) (value.Logic b) h = ap value.Logic (equal_digits a b h)
same_are_equal (value.Vector a) (value.Vector b) h = ap value.Vector (equal_vectors a b h)
same_are_equal (value.Moment a) (value.Moment b) h = ap value.Moment (eqb-true a b h)
same_are_equal (value.Handle a) (value.Handle b) h = ap value.Handle (equal_handles a b h)
same_are_equal (value.Pay a) (value.Pay b) h = ap value.Pay (equal_handles a b h)
same_are_equal a b h = cc

-- ---- a value is the same as itself

same_number : (n : ℕ) → nat_eq n n ≡ true
same_number n = eq-eqb n n refl

same_truth : (a : Bool) → is_same_truth a a ≡ true
same_truth true = refl
same_truth false = refl

same_handle : (a : Option ℕ) → is_same_handle a a ≡ true
same_handle None = refl
same_handle (Some a) = same_number a

pub same_as_itself : (a : Value) → is_same a a ≡ true
same_as_itself (value.Bool a) = same_truth a
same_as_itself (value.Int v a) = both_true (same_number v) (same_number a)
same_as_itself (value.Uint v a) = both_true (same_number v) (same_number a)
same_as_itself (value.Logic a) = same_number (digit_number a)
same_as_itself (value.Vector a) = both_true (same_number a.width) (both_true (same_number a.ones) (same_number a.unknown))
same_as_itself (value.Moment a) = same_number a
same_as_itself (value.Handle a) = same_handle a
same_as_itself (value.Pay a) = same_handle a

pub same_exactly_equal : (a b : Value) → (is_same a b ≡ true) ↔ (a ≡ b)
same_exactly_equal a b = (same_are_equal a b, λ e. subst (λ x. is_same a x ≡ true) e (same_as_itself a))
