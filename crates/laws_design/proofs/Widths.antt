-- Types that are known have widths in range, and first values of their types.
use Rattle.std.proofs.Common.{◌≡◌, ◌≤◌, ℕ, zero, suc, Bool, true, false, cond, List, [], ◌∷◌, length, replicate, take, Option, Some, None, refl, sym, ap, ◌∙◌, subst, arith}
use Rattle.std.specs.Prelude.{⊤, nat_le, nat_lt, ◌&&◌, if◌then◌else◌, unwrap_or}
use Rattle.std.proofs.lemmas.Bool.{and_parts, leb-true}
use Rattle.std.proofs.lemmas.Bool.Decides.{nat_tests}
use Rattle.std.proofs.lemmas.List.{length-take}
use Rattle.elaborate_objects.specs.LogicValues.Planes.{clipped}
use Rattle.elaborate_objects.specs.LogicValues.declared.kinds.Digit.{Digit}
use Rattle.elaborate_objects.specs.LogicValues.declared.kinds.Digit.TheVariants as digit
use Rattle.elaborate_objects.specs.ModelTree.declared.types.TypeForm.{TypeForm}
use Rattle.elaborate_objects.specs.ModelTree.declared.types.TypeForm.TheVariants as form
use Rattle.elaborate_objects.specs.ModelTree.declared.types.VarType.{VarType}
use Rattle.elaborate_objects.specs.ModelTree.declared.types.VarType.TheVariants as var_type
use Rattle.elaborate_objects.specs.FlatDesign.ValueTypes.{type_of_value, default_value}
use Rattle.elaborate_objects.specs.FlatDesign.declared.value_types.ValueType.{ValueType}
use Rattle.elaborate_objects.specs.FlatDesign.declared.value_types.ValueType.TheVariants as type
use Rattle.elaborate_objects.specs.ModelRules.Meanings.{is_width, form_type, variable_type}

-- a vector has from 1 to 64 digits
abbrev pub HasWidth : ValueType → Type 0
HasWidth type.Bool = ⊤
HasWidth (type.Int width) = ⊤
HasWidth (type.Uint width) = ⊤
HasWidth type.Logic = ⊤
HasWidth (type.Vector width) = (1 ≤ width) × (width ≤ 64)
HasWidth type.Time = ⊤
HasWidth type.Process = ⊤
HasWidth type.Payload = ⊤

same_some : {A : Type 0} (x y : A) → Some x ≡ Some y → x ≡ y
same_some x y h = ap (λ o. unwrap_or o x) h

width_is : (width : ℕ) (t u : ValueType) (b : Bool) → is_width width ≡ b → (if b then Some t else None) ≡ Some u → (is_width width ≡ true) × (t ≡ u)
width_is width t u true e h = (e, same_some t u h)
width_is width t u false e h = cc

pub form_has : (f : TypeForm) (t : ValueType) → form_type f ≡ Some t → HasWidth t
form_has form.Bool t e = subst HasWidth (same_some type.Bool t e) tt
form_has form.Logic t e = subst HasWidth (same_some type.Logic t e) tt
form_has (form.Int width) t e = subst HasWidth (width_is width (type.Int width) t (is_width width) refl e).1 tt
form_has (form.Uint width) t e = subst HasWidth (width_is width (type.Uint width) t (is_width width) refl e).1 tt
form_has (form.Vector width) t e =
    let w = width_is width (type.Vector width) t (is_width width) refl e in
    let p = and_parts (nat_le 1 width) (nat_le width 64) w.0 in
    subst HasWidth w.1 (leb-true 1 width p.0, leb-true width 64 p.1)

pub variable_has : (v : VarType) (t : ValueType) → variable_type v ≡ Some t → HasWidth t
variable_has (var_type.Plain s) t e = form_has s.form t e
variable_has var_type.Time t e = subst HasWidth (same_some type.Time t e) tt
variable_has var_type.Process t e = subst HasWidth (same_some type.Process t e) tt
variable_has var_type.Payload t e = subst HasWidth (same_some type.Payload t e) tt

clipped_all : (ds : List Digit) → 1 ≤ length ds → length ds ≤ 64 → length (clipped ds) ≡ length ds
clipped_all [] some most = absurd (omega (arith, some))
clipped_all (d ∷ ds) some most = omega (arith, length-take 63 ds, most)

replicate_all : (n : ℕ) (x : Digit) → length (replicate n x) ≡ n
replicate_all zero x = refl
replicate_all (suc n) x = ap suc (replicate_all n x)

within_64 : (width : ℕ) → width ≤ 64 → cond (nat_lt 64 width) 64 width ≡ width
within_64 width most = grind (arith, nat_tests)

unknown_type : (n width : ℕ) → n ≡ width → 1 ≤ width → width ≤ 64 → length (clipped (replicate n digit.X)) ≡ width
unknown_type n width e some most =
    let many = replicate_all n digit.X in
    clipped_all (replicate n digit.X) (omega (arith, many, e, some)) (omega (arith, many, e, most)) ∙ many ∙ e

pub default_type : (t : ValueType) → HasWidth t → type_of_value (default_value t) ≡ t
default_type type.Bool h = refl
default_type (type.Int width) h = refl
default_type (type.Uint width) h = refl
default_type type.Logic h = refl
default_type (type.Vector width) h = ap type.Vector (unknown_type (cond (nat_lt 64 width) 64 width) width (within_64 width h.1) h.0 h.1)
default_type type.Time h = refl
default_type type.Process h = refl
default_type type.Payload h = refl
