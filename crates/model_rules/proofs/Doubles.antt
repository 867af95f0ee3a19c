-- Where no construct breaks the rule on equal names, names differ.
use Rattle.std.proofs.Common.{◌≡◌, ℕ, Bool, true, false, cond, ◌||◌, List, [], ◌∷◌, ◌++◌, map, Option, Some, None, refl, sym, ap, ◌∙◌, subst}
use Rattle.std.specs.Prelude.{bytes_eq, find, is_some, option_map}
use Rattle.std.specs.List.{AllByRecursion, IsDistinct, list_any, cons_option}
use Rattle.std.specs.Option.{option_or}
use Rattle.std.proofs.lemmas.Cmp.{nat_list_eq_equiv}
use Rattle.std.proofs.lemmas.List.Elements.{filter_map-append}
use Rattle.std.proofs.lemmas.List.{map-append, append-nil}
use Rattle.std.proofs.lemmas.Map.Keys.{IsDistinct-push}
use Rattle.flat_design.specs.ModelTree.Tree as tree
use Rattle.flat_design.specs.ModelTree.Lines.{item_line}
use Rattle.model_rules.specs.Meanings.{Declared, declaration, declarations, declared_name}
use Rattle.model_rules.specs.Scopes.{Scope, item_scope}
use Rattle.model_rules.specs.Sites as part
use Rattle.model_rules.specs.Sites.{Site, around_item, site, item_parts, item_sites, items_sites, module_sites, modules_sites, top_site, sites}
use Rattle.model_rules.specs.Names.{name_if, is_module_name, is_item_name, double_item}
use Rattle.model_rules.specs.Passes.{doubles, fault_at, fault_of}
use Rattle.model_rules.specs.Distinct.{names_of, HasDistinctNames}
use Rattle.model_rules.proofs.Firsts.{first_append, or_none}

-- parts of a list in which nothing is found
parts_none : (xs ys : List Site) → fault_of doubles (xs ++ ys) ≡ None → (fault_of doubles xs ≡ None) × (fault_of doubles ys ≡ None)
parts_none xs ys h = or_none (fault_of doubles xs) (fault_of doubles ys) (sym (first_append (fault_at doubles) xs ys) ∙ h)

head_none : (x : Site) (xs : List Site) → fault_of doubles (x ∷ xs) ≡ None → (fault_at doubles x ≡ None) × (fault_of doubles xs ≡ None)
head_none x xs h = or_none (fault_at doubles x) (fault_of doubles xs) h

mapped_none : {A B : Type 0} (f : A → B) (o : Option A) → option_or (option_map f o) None ≡ None → o ≡ None
mapped_none f None h = refl
mapped_none f (Some x) h = cc

not_named : (b : Bool) (name : List ℕ) → name_if b name ≡ None → b ≡ false
not_named false name h = refl
not_named true name h = cc

-- tests of names, from either side
turned : (n : List ℕ) (ds : List Declared) → list_any (bytes_eq n) (map (λ (d : Declared). d.name) ds) ≡ list_any (λ (d : Declared). bytes_eq d.name n) ds
turned n [] = refl
turned n (d ∷ ds) = ap (λ b. b || list_any (bytes_eq n) (map (λ (x : Declared). x.name) ds)) (nat_list_eq_equiv.symm n d.name) ∙ ap (λ b. bytes_eq d.name n || b) (turned n ds)

names_append : (xs ys : List tree.Item) → names_of (xs ++ ys) ≡ names_of xs ++ names_of ys
names_append xs ys = ap (map (λ (d : Declared). d.name)) (filter_map-append declaration xs ys) ∙ map-append (λ (d : Declared). d.name) (declarations xs) (declarations ys)

-- one name more, or none
one_name_more : (before : List tree.Item) (o : Option Declared) → IsDistinct bytes_eq (names_of before) → double_item before (option_map (λ (d : Declared). d.name) o) ≡ None
    → IsDistinct bytes_eq (names_of before ++ map (λ (d : Declared). d.name) (cons_option o []))
one_name_more before None d h = subst (IsDistinct bytes_eq) (sym (append-nil (names_of before))) d
one_name_more before (Some n) d h =
    IsDistinct-push nat_list_eq_equiv (names_of before) n.name d (turned n.name (declarations before) ∙ not_named (is_item_name before n.name) n.name h)

one_more : {X : Type 0} → (xs : List X) (y : X) (ys : List X) → (xs ++ y ∷ []) ++ ys ≡ xs ++ y ∷ ys
one_more [] y ys = refl
one_more (x ∷ xs) y ys = ap (λ zs. x ∷ zs) (one_more xs y ys)

distinct_items : (modules : List tree.Module) (all before is : List tree.Item) → IsDistinct bytes_eq (names_of before) → fault_of doubles (items_sites modules all before is) ≡ None
    → IsDistinct bytes_eq (names_of (before ++ is))
distinct_items modules all before [] d h = subst (λ (xs : List tree.Item). IsDistinct bytes_eq (names_of xs)) (sym (append-nil before)) d
distinct_items modules all before (i ∷ is) d h =
    let s : Scope = item_scope modules all (around_item i) in
    let parts = parts_none (item_sites s before i) (items_sites modules all (before ++ i ∷ []) is) h in
    let here = head_none (site s (item_line i) (part.of_item before i)) (item_parts s i) parts.0 in
    let fresh : double_item before (declared_name i) ≡ None = mapped_none _ (double_item before (declared_name i)) here.0 in
    let more : IsDistinct bytes_eq (names_of (before ++ i ∷ [])) =
    subst (IsDistinct bytes_eq) (sym (names_append before (i ∷ []))) (one_name_more before (declaration i) d fresh) in
    subst (λ (xs : List tree.Item). IsDistinct bytes_eq (names_of xs)) (one_more before i is) (distinct_items modules all (before ++ i ∷ []) is more parts.1)

no_names : IsDistinct bytes_eq []
unfolding IsDistinct
no_names = tt

-- modules

found_or : (b : Bool) (m : tree.Module) (rest : Option tree.Module) → is_some (cond b (Some m) rest) ≡ (b || is_some rest)
found_or true m rest = refl
found_or false m rest = refl

module_names : (n : List ℕ) (ms : List tree.Module) → list_any (bytes_eq n) (map (λ (d : tree.Module). d.name) ms) ≡ is_module_name ms n
module_names n [] = refl
module_names n (m ∷ ms) =
    ap (λ b. b || list_any (bytes_eq n) (map (λ (d : tree.Module). d.name) ms)) (nat_list_eq_equiv.symm n m.name)
    ∙ ap (λ b. bytes_eq m.name n || b) (module_names n ms)
    ∙ sym (found_or (bytes_eq m.name n) m (find (λ (d : tree.Module). bytes_eq d.name n) ms))

distinct_modules : (all before ms : List tree.Module) → IsDistinct bytes_eq (map (λ (d : tree.Module). d.name) before) → fault_of doubles (modules_sites all before ms) ≡ None
    → IsDistinct bytes_eq (map (λ (d : tree.Module). d.name) (before ++ ms))
distinct_modules all before [] d h = subst (λ (xs : List tree.Module). IsDistinct bytes_eq (map (λ (d : tree.Module). d.name) xs)) (sym (append-nil before)) d
distinct_modules all before (m ∷ ms) d h =
    let s : Scope = item_scope all m.items m.name in
    let parts = parts_none (module_sites all before m) (modules_sites all (before ++ m ∷ []) ms) h in
    let here = head_none (site s m.line (part.of_module before m)) (items_sites all m.items [] m.items) parts.0 in
    let fresh = not_named (is_module_name before m.name) m.name (mapped_none _ (name_if (is_module_name before m.name) m.name) here.0) in
    let names : List (List ℕ) = map (λ (d : tree.Module). d.name) before in
    let more : IsDistinct bytes_eq (map (λ (d : tree.Module). d.name) (before ++ m ∷ [])) =
    subst (IsDistinct bytes_eq) (sym (map-append (λ (d : tree.Module). d.name) before (m ∷ []))) (IsDistinct-push nat_list_eq_equiv names m.name d (module_names m.name before ∙ fresh)) in
    subst (λ (xs : List tree.Module). IsDistinct bytes_eq (map (λ (d : tree.Module). d.name) xs)) (one_more before m ms) (distinct_modules all (before ++ m ∷ []) ms more parts.1)

distinct_in : (all before ms : List tree.Module) → fault_of doubles (modules_sites all before ms) ≡ None → AllByRecursion (λ (d : tree.Module). IsDistinct bytes_eq (names_of d.items)) ms
distinct_in all before [] h = tt
distinct_in all before (m ∷ ms) h =
    let s : Scope = item_scope all m.items m.name in
    let parts = parts_none (module_sites all before m) (modules_sites all (before ++ m ∷ []) ms) h in
    let here = head_none (site s m.line (part.of_module before m)) (items_sites all m.items [] m.items) parts.0 in
    (distinct_items all m.items [] m.items no_names here.1, distinct_in all (before ++ m ∷ []) ms parts.1)

pub distinct : (m : tree.Model) → fault_of doubles (sites m) ≡ None → HasDistinctNames m
distinct m h =
    let parts = parts_none (modules_sites m.modules [] m.modules) (top_site m.modules m.top ∷ []) h in
    record { modules = distinct_modules m.modules [] m.modules no_names parts.0; items = distinct_in m.modules [] m.modules parts.0 }
