-- What the names of a clocked thread stand for, at each place of it.
use Rattle.std.proofs.Common.{◌≡◌, ◌||◌, ℕ, Bool, true, false, cond, List, [], ◌∷◌, Option, Some, None, option_map, refl, sym, ap, ◌∙◌}
use Rattle.std.specs.Prelude.{find, position, bytes_eq}
use Rattle.std.specs.Option.{option_or}
use Rattle.std.proofs.lemmas.List.Folds.{find-append}
use Rattle.std.proofs.lemmas.Slice.Eq.{bytes_eq-Decides}
use Rattle.code_rules.specs.ModelTree.declared.types.VarType.{VarType}
use Rattle.code_rules.specs.FlatDesign.declared.names.NameUse.TheVariants as name_use
use Rattle.code_rules.specs.ModelRules.Meanings.{Declared, declarations, variable_type}
use Rattle.code_rules.specs.ModelRules.Scopes.{Scope, Local, is_local, is_declared, local_named, meaning_of, use_of, with_local}
use Rattle.code_rules.specs.ModelRules.declared.meanings.Meaning.TheVariants as meaning
use Rattle.expanded_text.specs.Clocked.{count_name, again_name, reset_name, is_kept}

-- ---- names that are none of the three

pub none_left : (b c : Bool) → b || c ≡ false → b ≡ false
none_left true c e = cc
none_left false c e = refl

pub none_right : (b c : Bool) → b || c ≡ false → c ≡ false
none_right true c e = cc
none_right false c e = e

pub not_count : (x : List ℕ) → is_kept x ≡ false → bytes_eq x count_name ≡ false
not_count x e = none_left (bytes_eq x count_name) _ e

pub not_reset : (x : List ℕ) → is_kept x ≡ false → bytes_eq x reset_name ≡ false
not_reset x e = none_right (bytes_eq x again_name) _ (none_right (bytes_eq x count_name) _ e)

pub not_again : (x : List ℕ) → is_kept x ≡ false → bytes_eq x again_name ≡ false
not_again x e = none_left (bytes_eq x again_name) _ (none_right (bytes_eq x count_name) _ e)

pub not_so : (b : Bool) → (b ≡ true → ⊥) → b ≡ false
not_so true h = absurd (h refl)
not_so false h = refl

pub turned : (x y : List ℕ) → bytes_eq x y ≡ false → bytes_eq y x ≡ false
turned x y e = not_so (bytes_eq y x) (λ k. let same : bytes_eq x y ≡ true = (bytes_eq-Decides x y).1 (sym ((bytes_eq-Decides y x).0 k)) in let apart : true ≡ false = sym same ∙ e in cc)

-- ---- local variables

-- behind its declaration
abbrev pub declared_as : Scope → List ℕ → VarType → Local
declared_as s x t = record { name = x; number = s.count; value_type = variable_type t }

or_none : {A : Type 0} (o : Option A) → option_or o None ≡ o
or_none None = refl
or_none (Some x) = refl

pub behind-other : (s : Scope) (x name : List ℕ) (t : VarType) → bytes_eq x name ≡ false → local_named (with_local s x t) name ≡ local_named s name
behind-other s x name t e =
    let l = declared_as s x t in
    let apart : find (is_local name) (l ∷ []) ≡ None = ap (λ b. cond b (Some l) None) e in
    find-append (is_local name) s.locals (l ∷ []) ∙ ap (λ o. option_or (local_named s name) o) apart ∙ or_none (local_named s name)

pub behind-new : (s : Scope) (x : List ℕ) (t : VarType) → bytes_eq x x ≡ true → local_named s x ≡ None → local_named (with_local s x t) x ≡ Some (declared_as s x t)
behind-new s x t same e =
    let l = declared_as s x t in
    let here : find (is_local x) (l ∷ []) ≡ Some l = ap (λ b. cond b (Some l) None) same in
    find-append (is_local x) s.locals (l ∷ []) ∙ ap (λ o. option_or o (find (is_local x) (l ∷ []))) e ∙ here

-- ---- what a name stands for

pub use-local : (s : Scope) (x : List ℕ) (l : Local) → local_named s x ≡ Some l → use_of s x ≡ Some (name_use.Local l.number)
use-local s x l e = ap (λ o. option_or (option_map (λ (y : Local). name_use.Local y.number) o) (option_map name_use.Declared (position (is_declared x) (declarations s.items)))) e

pub means-local : (s : Scope) (x : List ℕ) (l : Local) → local_named s x ≡ Some l → meaning_of s x ≡ Some (meaning.Variable l.value_type)
means-local s x l e = ap (λ o. option_or (option_map (λ (y : Local). meaning.Variable y.value_type) o) (option_map (λ (d : Declared). d.meaning) (find (is_declared x) (declarations s.items)))) e

pub use-behind : (s : Scope) (x name : List ℕ) (t : VarType) → bytes_eq x name ≡ false → use_of (with_local s x t) name ≡ use_of s name
use-behind s x name t e = ap (λ o. option_or (option_map (λ (y : Local). name_use.Local y.number) o) (option_map name_use.Declared (position (is_declared name) (declarations s.items)))) (behind-other s x name t e)
