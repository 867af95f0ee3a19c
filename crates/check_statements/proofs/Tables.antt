-- A walk along items and modules finds the double names of a model: a table of the names before each tells whether it is one.
use Rattle.std.proofs.Common.{◌≡◌, ℕ, Bool, true, false, cond, ◌||◌, List, [], ◌∷◌, ◌++◌, Option, Some, None, refl, sym, ap, ◌∙◌, subst}
use Rattle.std.specs.Prelude.{bytes_eq, find, is_some, option_map, IfNone}
use Rattle.std.specs.List.{list_any, cons_option}
use Rattle.std.specs.Option.{option_or}
use Rattle.std.proofs.lemmas.Slice.Eq.{bytes_eq-Decides}
use Rattle.std.proofs.lemmas.List.Elements.{filter_map-append}
use Rattle.std.proofs.lemmas.List.Folds.{list_any-append}
use Rattle.model_tree.specs.Tree as tree
use Rattle.model_tree.specs.Lines.{item_line}
use Rattle.model_tree.specs.declared.faults.Kind.TheVariants as kind
use Rattle.check_actions.specs.ModelRules.Meanings.{Declared, declaration, declarations, declared_name}
use Rattle.check_actions.specs.ModelRules.Scopes.{Scope, item_scope}
use Rattle.check_actions.specs.ModelRules.Distinct.{HasDistinctNames}
use Rattle.check_actions.proofs.ModelRules.Doubles.{distinct}
use Rattle.check_actions.specs.ModelRules.Names.{name_if, is_module_name, is_item_name, double_item}
use Rattle.check_actions.specs.ModelRules.Passes.{doubles, fault_of}
use Rattle.check_actions.specs.ModelRules.Sites.{around_item, item_parts, item_sites, items_sites, module_sites, modules_sites, top_site, sites}
use Rattle.check_actions.specs.CheckNames.LocalNames.{no_locals}
use Rattle.check_actions.specs.CheckNames.Tables.{Numbers, with_first}
use Rattle.check_actions.specs.CheckExpressions.Findings.{faults_of, told, told_if}
use Rattle.check_actions.specs.CheckExpressions.declared.findings.Finding.{Finding}
use Rattle.check_statements.specs.Doubled.{names_at, has_name, double_of, with_name_of, own_double, in_item, in_items, in_module, in_modules}
use Rattle.check_statements.proofs.Passed.{or_nothing, parts, headed, item_fault}

or_false : (b : Bool) → (b || false) ≡ b
or_false true = refl
or_false false = refl

-- a name more in a table

module _ (q name : List ℕ) (n : ℕ) where
  at_end : (b : Bool) → is_some (option_map (λ (e : List ℕ × ℕ). e.1) (cond b (Some (name, n)) None)) ≡ (false || b)
  at_end true = refl
  at_end false = refl

  has_behind : (t : Numbers) → has_name q (t ++ (name, n) ∷ []) ≡ (has_name q t || bytes_eq name q)
  has_behind [] = at_end (bytes_eq name q)
  has_behind (e ∷ t) = by (bytes_eq e.0 q) (has_behind t)
    where
      by : (b : Bool) → has_name q (t ++ (name, n) ∷ []) ≡ (has_name q t || bytes_eq name q)
          → is_some (option_map (λ (x : List ℕ × ℕ). x.1) (cond b (Some e) (find (λ (x : List ℕ × ℕ). bytes_eq x.0 q) (t ++ (name, n) ∷ []))))
          ≡ (is_some (option_map (λ (x : List ℕ × ℕ). x.1) (cond b (Some e) (find (λ (x : List ℕ × ℕ). bytes_eq x.0 q) t))) || bytes_eq name q)
      by true h = refl
      by false h = h

  same_name : (t : Numbers) (b : Bool) → bytes_eq name q ≡ b → has_name name t ≡ true → has_name q t ≡ (has_name q t || b)
  same_name t true same h = let there : has_name q t ≡ true = subst (λ x. has_name x t ≡ true) ((bytes_eq-Decides name q).0 same) h in rw there refl
  same_name t false same h = sym (or_false (has_name q t))

  by_there : (t : Numbers) (b : Bool) → has_name name t ≡ b → has_name q (cond b t (t ++ (name, n) ∷ [])) ≡ (has_name q t || bytes_eq name q)
  by_there t true h = same_name t (bytes_eq name q) refl h
  by_there t false h = has_behind t

  has_first : (t : Numbers) → has_name q (with_first t name n) ≡ (has_name q t || bytes_eq name q)
  has_first t = by_there t (has_name name t) refl

-- the table has the names of these items

abbrev HasItems : Numbers → List tree.Item → Type 0
HasItems t before = (q : List ℕ) → has_name q t ≡ is_item_name before q

item_double : (t : Numbers) (before : List tree.Item) → HasItems t before → (name : Option (List ℕ)) → double_item before name ≡ double_of t name
item_double t before h None = refl
item_double t before h (Some name) = ap (λ b. name_if b name) (sym (h name))

one_item : (t : Numbers) (before : List tree.Item) (o : Option Declared) (q : List ℕ) → has_name q t ≡ is_item_name before q
    → has_name q (with_name_of t (option_map (λ (d : Declared). d.name) o)) ≡ (is_item_name before q || list_any (λ (d : Declared). bytes_eq d.name q) (cons_option o []))
one_item t before None q h = h ∙ sym (or_false (is_item_name before q))
one_item t before (Some d) q h = has_first q d.name 0 t ∙ ap (λ b. b || bytes_eq d.name q) h ∙ ap (λ b. is_item_name before q || b) (sym (or_false (bytes_eq d.name q)))

items_more : (t : Numbers) (before : List tree.Item) (i : tree.Item) → HasItems t before → HasItems (with_name_of t (declared_name i)) (before ++ i ∷ [])
items_more t before i h q =
    one_item t before (declaration i) q (h q)
    ∙ sym (list_any-append (λ (d : Declared). bytes_eq d.name q) (declarations before) (cons_option (declaration i) []))
    ∙ ap (list_any (λ (d : Declared). bytes_eq d.name q)) (sym (filter_map-append declaration before (i ∷ [])))

pub items_fault : (modules : List tree.Module) (all before is : List tree.Item) (t : Numbers) → HasItems t before → fault_of doubles (items_sites modules all before is) ≡ in_items all is t
items_fault modules all before [] t h = refl
items_fault modules all before (i ∷ is) t h =
    let s : Scope = item_scope modules all (around_item i) in
    parts (item_sites s before i) (items_sites modules all (before ++ i ∷ []) is) (option_or (own_double i t) (in_item i (names_at all no_locals))) (in_items all is (with_name_of t (declared_name i)))
    (headed (told kind.DoubleName (item_line i) (double_item before (declared_name i))) (in_item i (names_at all no_locals)) (item_parts s i) (item_fault s i)
    ∙ ap (λ name. option_or (told kind.DoubleName (item_line i) name) (in_item i (names_at all no_locals))) (item_double t before h (declared_name i)))
    (items_fault modules all (before ++ i ∷ []) is (with_name_of t (declared_name i)) (items_more t before i h))

-- the table has the names of these modules

abbrev HasModules : Numbers → List tree.Module → Type 0
HasModules t before = (q : List ℕ) → has_name q t ≡ is_module_name before q

module_behind : (before : List tree.Module) (m : tree.Module) (q : List ℕ) → is_module_name (before ++ m ∷ []) q ≡ (is_module_name before q || bytes_eq m.name q)
module_behind [] m q = by (bytes_eq m.name q)
  where
    by : (b : Bool) → is_some (cond b (Some m) None) ≡ (false || b)
    by true = refl
    by false = refl
module_behind (x ∷ before) m q = by (bytes_eq x.name q) (module_behind before m q)
  where
    by : (b : Bool) → is_module_name (before ++ m ∷ []) q ≡ (is_module_name before q || bytes_eq m.name q)
        → is_some (cond b (Some x) (find (λ (y : tree.Module). bytes_eq y.name q) (before ++ m ∷ []))) ≡ (is_some (cond b (Some x) (find (λ (y : tree.Module). bytes_eq y.name q) before)) || bytes_eq m.name q)
    by true h = refl
    by false h = h

modules_more : (t : Numbers) (before : List tree.Module) (m : tree.Module) → HasModules t before → HasModules (with_first t m.name 0) (before ++ m ∷ [])
modules_more t before m h q = has_first q m.name 0 t ∙ ap (λ b. b || bytes_eq m.name q) (h q) ∙ sym (module_behind before m q)

modules_fault : (all before ms : List tree.Module) (t : Numbers) → HasModules t before → fault_of doubles (modules_sites all before ms) ≡ in_modules ms t
modules_fault all before [] t h = refl
modules_fault all before (m ∷ ms) t h =
    parts (module_sites all before m) (modules_sites all (before ++ m ∷ []) ms) (in_module m t) (in_modules ms (with_first t m.name 0))
    (headed (told_if kind.DoubleName m.line m.name (is_module_name before m.name)) (in_items m.items m.items []) (items_sites all m.items [] m.items) (items_fault all m.items [] m.items [] (λ q. refl))
    ∙ ap (λ b. option_or (told_if kind.DoubleName m.line m.name b) (in_items m.items m.items [])) (sym (h m.name)))
    (modules_fault all (before ++ m ∷ []) ms (with_first t m.name 0) (modules_more t before m h))

-- the whole model
pub sites_fault : (m : tree.Model) → fault_of doubles (sites m) ≡ in_modules m.modules []
sites_fault m =
    parts (modules_sites m.modules [] m.modules) (top_site m.modules m.top ∷ []) (in_modules m.modules []) None (modules_fault m.modules [] m.modules [] (λ q. refl)) refl
    ∙ or_nothing (in_modules m.modules [])

-- where nothing is found, names differ
pub none_distinct : (m : tree.Model) (found : Option Finding) → faults_of found ≡ fault_of doubles (sites m) → IfNone found (HasDistinctNames m)
none_distinct m None h = distinct m (sym h)
none_distinct m (Some f) h = tt
