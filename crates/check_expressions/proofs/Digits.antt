-- The type of a logic literal by its width.
use Rattle.std.proofs.Common.{◌≡◌, ℕ, ◌≤◌, ◌/◌, suc, zero, List, [], ◌∷◌, length, refl, ap, ◌∙◌, sym, arith}
use Rattle.check_names.specs.LogicValues.declared.kinds.Digit.{Digit}
use Rattle.check_names.specs.LogicValues.declared.planes.Lv.{Lv}
use Rattle.check_names.specs.LogicValues.Digits.{digits, digits_in}
use Rattle.check_names.specs.ModelRules.Types.{logic_type}
use Rattle.check_names.specs.ModelRules.declared.meanings.ExpressionType.TheVariants as t

length_digits : (n u o : ℕ) → length (digits_in n u o) ≡ n
length_digits zero u o = refl
length_digits (suc n) u o = ap (λ m. suc m) (length_digits n (u / 2) (o / 2))

long_type : (ds : List Digit) → 1 ≤ length ds → (length ds ≡ 1 → ⊥) → t.Vector (length ds) ≡ logic_type ds
long_type [] h k = absurd (omega arith)
long_type (d ∷ []) h k = absurd (k refl)
long_type (d ∷ e ∷ ds) h k = refl

pub vector_type : (v : Lv) → (v.width ≡ 1 → ⊥) → t.Vector v.width ≡ logic_type (digits v)
vector_type v k =
    let e = length_digits v.width v.unknown v.ones in
    ap (λ n. t.Vector n) (sym e) ∙ long_type (digits v) (omega (arith, e, v.not_empty)) (λ h. k (sym e ∙ h))
