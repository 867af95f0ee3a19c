-- Types are known where no width is out of range: of declarations, of local variables and of parameters.
use Rattle.std.proofs.Common.{◌≡◌, ℕ, Bool, true, false, cond, not, List, [], ◌∷◌, Option, Some, None, refl, subst}
use Rattle.std.specs.Prelude.{is_some, option_map, find, if◌then◌else◌}
use Rattle.std.specs.Option.{option_or}
use Rattle.std.proofs.lemmas.List.Folds.{find-append}
use Rattle.code_rules.specs.ModelTree.declared.types.TypeForm.{TypeForm}
use Rattle.code_rules.specs.ModelTree.declared.types.TypeForm.TheVariants as form
use Rattle.code_rules.specs.ModelTree.declared.types.SignalType.{SignalType}
use Rattle.code_rules.specs.ModelTree.declared.types.VarType.{VarType}
use Rattle.code_rules.specs.ModelTree.declared.types.VarType.TheVariants as var_type
use Rattle.code_rules.specs.FlatDesign.declared.value_types.ValueType.{ValueType}
use Rattle.code_rules.specs.FlatDesign.declared.value_types.ValueType.TheVariants as type
use Rattle.code_rules.specs.ModelRules.Meanings.{Declared, declarations, is_width, form_type, signal_type, variable_type}
use Rattle.code_rules.specs.ModelRules.Scopes.{Scope, Local, is_local, is_declared, local_named, with_local}
use Rattle.code_rules.specs.ModelRules.declared.meanings.Meaning.{Meaning}
use Rattle.code_rules.specs.ModelRules.declared.meanings.Meaning.TheVariants as meaning
use Rattle.code_rules.specs.ModelRules.Sites as part
use Rattle.code_rules.specs.ModelRules.Sites.{site, type_site, variable_type_sites}
use Rattle.code_rules.specs.ModelRules.Values.{is_wide}
use Rattle.code_rules.specs.ModelRules.Passes.{constructs, fault_of}
use Rattle.laws_code.specs.Known.{is_type_known, TypesAreKnown}
use Rattle.laws_code.proofs.FaultlessConstructs.{keeps}
use Rattle.laws_code.proofs.Coded.{same_some}
use Rattle.laws_code.proofs.Typed.{not_named, head_none}

-- a written type
width_known : (b : Bool) (t : ValueType) → not b ≡ false → is_some (if b then Some t else None) ≡ true
width_known true t h = refl
width_known false t h = cc

form_known : (f : TypeForm) → is_wide f ≡ false → is_some (form_type f) ≡ true
form_known form.Bool h = refl
form_known form.Logic h = refl
form_known (form.Int width) h = width_known (is_width width) (type.Int width) h
form_known (form.Uint width) h = width_known (is_width width) (type.Uint width) h
form_known (form.Vector width) h = width_known (is_width width) (type.Vector width) h

pub type_known : (s : Scope) (t : SignalType) → fault_of constructs (type_site s t) ≡ None → is_some (signal_type t) ≡ true
type_known s t h =
    let k = keeps (site s t.line (part.of_type t)) (head_none (site s t.line (part.of_type t)) [] h).0 in
    form_known t.form (not_named (is_wide t.form) s.around k.widths)

pub variable_known : (s : Scope) (t : VarType) → fault_of constructs (variable_type_sites s t) ≡ None → is_some (variable_type t) ≡ true
variable_known s (var_type.Plain t) h = type_known s t h
variable_known s var_type.Time h = refl
variable_known s var_type.Process h = refl
variable_known s var_type.Payload h = refl

-- behind a declaration
abbrev as_variable : Option Local → Option Meaning
as_variable o = option_map (λ (l : Local). meaning.Variable l.value_type) o

behind_local : (o : Option Local) (b : Bool) (new : Local) (d : Option Meaning) (m : Meaning) → is_some new.value_type ≡ true → (option_or (as_variable o) d ≡ Some m → is_type_known m ≡ true)
    → option_or (as_variable (option_or o (cond b (Some new) None))) d ≡ Some m → is_type_known m ≡ true
behind_local (Some l) b new d m k rest h = rest h
behind_local None true new d m k rest h = subst (λ x. is_type_known x ≡ true) (same_some (meaning.Variable new.value_type) m h) k
behind_local None false new d m k rest h = rest h

pub local_known : (s : Scope) (name : List ℕ) (t : VarType) → TypesAreKnown s → is_some (variable_type t) ≡ true → TypesAreKnown (with_local s name t)
local_known s name t known k x m h =
    behind_local (local_named s x) (is_local x (record { name = name; number = s.count; value_type = variable_type t })) (record { name = name; number = s.count; value_type = variable_type t })
    (option_map (λ (d : Declared). d.meaning) (find (is_declared x) (declarations s.items))) m k (known x m)
    (subst (λ o. option_or (as_variable o) (option_map (λ (d : Declared). d.meaning) (find (is_declared x) (declarations s.items))) ≡ Some m)
    (find-append (is_local x) s.locals ((record { name = name; number = s.count; value_type = variable_type t }) ∷ [])) h)
