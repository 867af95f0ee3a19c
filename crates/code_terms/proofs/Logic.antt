-- The value of a logic literal of more digits than one.
use Rattle.std.proofs.Common.{◌≡◌, ℕ, ◌≤◌, ◌/◌, suc, zero, List, [], ◌∷◌, length, refl, ap, ◌∙◌, sym, arith}
use Rattle.code_rules.specs.LogicValues.declared.kinds.Digit.{Digit}
use Rattle.code_rules.specs.LogicValues.declared.kinds.Value.TheVariants as value
use Rattle.code_rules.specs.LogicValues.declared.planes.Lv.{Lv}
use Rattle.code_rules.specs.LogicValues.Digits.{digits, digits_in}
use Rattle.code_rules.specs.LogicValues.Planes.{lv_of}
use Rattle.code_rules.specs.Terms.{logic_value}

length_digits : (n u o : ℕ) → length (digits_in n u o) ≡ n
length_digits zero u o = refl
length_digits (suc n) u o = ap (λ m. suc m) (length_digits n (u / 2) (o / 2))

long_value : (v : Lv) (ds : List Digit) → v ≡ lv_of ds → 1 ≤ length ds → (length ds ≡ 1 → ⊥) → value.Vector v ≡ logic_value ds
long_value v [] e h k = absurd (omega arith)
long_value v (d ∷ []) e h k = absurd (k refl)
long_value v (d ∷ f ∷ ds) e h k = ap (λ w. value.Vector w) e

pub vector_value : (v : Lv) → v ≡ lv_of (digits v) → (v.width ≡ 1 → ⊥) → value.Vector v ≡ logic_value (digits v)
vector_value v h k =
    let e = length_digits v.width v.unknown v.ones in
    long_value v (digits v) h (omega (arith, e, v.not_empty)) (λ n. k (sym e ∙ n))
