-- Local variables, one after another, and where parameters stand.
use Rattle.std.proofs.Common.{◌≡◌, ◌<◌, ℕ, ◌+◌, List, [], ◌∷◌, ◌++◌, Some, length, map, get_or, drop, refl, sym, ap, ◌∙◌, subst, append_assoc}
use Rattle.std.proofs.lemmas.List.{at_drop_more}
use Rattle.model_tree.specs.declared.types.Parameter.{Parameter}
use Rattle.flat_design.specs.declared.value_types.ValueType.{ValueType}
use Rattle.flat_design.specs.declared.code.Local.{Local}
use Rattle.code_rules.specs.ModelRules.Meanings.{variable_type}
use Rattle.code_rules.specs.ModelRules.Scopes.{Scope, with_local, with_parameters}
use Rattle.code_rules.specs.Bodies.{LocalSource, AreLocals}
use Rattle.code_blocks.specs.LawsCode.HasCode.{IsThere, LocalsHaveTypes}

-- the elements of a list from one on, each seen by f
pub next_seen_at : {X Y : Type 0} (f : X → Y) (xs : List X) (i : ℕ) (d : X) → i < length xs → map f (drop i xs) ≡ f (get_or xs i d) ∷ map f (drop (i + 1) xs)
next_seen_at f xs i d within = at_drop_more (map f) xs i d within

-- the same at an element that is known
pub next_seen : {X Y : Type 0} (f : X → Y) (xs : List X) (i : ℕ) (x : X) → i < length xs → x ≡ get_or xs i x → map f (drop i xs) ≡ f x ∷ map f (drop (i + 1) xs)
next_seen f xs i x within is = next_seen_at f xs i x within ∙ ap (λ y. y ∷ map f (drop (i + 1) xs)) (ap f (sym is))

pub first_typed : (x : LocalSource) (xs ys : List LocalSource) → xs ≡ x ∷ ys → LocalsHaveTypes xs → IsThere (variable_type x.1) × LocalsHaveTypes ys
first_typed x xs ys e h = subst LocalsHaveTypes e h

-- one more local variable is done
pub next_local : (all xs ys : List LocalSource) (x : LocalSource) (t : ValueType) (name : List ℕ) (done more : List Local) → xs ≡ x ∷ ys → variable_type x.1 ≡ Some t
    → name ≡ x.0 → more ≡ done ++ (record { name = name; value_type = t; inout = x.2 }) ∷ []
    → ((rest : List Local) → AreLocals xs rest → AreLocals all (done ++ rest)) → (rest : List Local) → AreLocals ys rest → AreLocals all (more ++ rest)
next_local all xs ys x t name done more e typed named grown before rest h =
    let l : Local = record { name = name; value_type = t; inout = x.2 } in
    subst (AreLocals all) (sym (ap (λ ls. ls ++ rest) grown ∙ append_assoc done (l ∷ []) rest))
    (before (l ∷ rest) (subst (λ zs. AreLocals zs (l ∷ rest)) (sym e) (t, rest, typed, ap (λ (n : List ℕ). (record { name = n; value_type = t; inout = x.2 }) ∷ rest) named, h)))

-- parameters change no names of the module
pub parameters_items : (s : Scope) (ps : List Parameter) → (with_parameters s ps).items ≡ s.items
parameters_items s [] = refl
parameters_items s (p ∷ ps) = parameters_items (with_local s p.name p.var_type) ps
