-- The names of a module: what each turn of a walk along items adds, and what is found by a name.
use Rattle.std.proofs.Common.{◌≡◌, ℕ, ◌+◌, ◌<◌, Bool, true, false, cond, List, [], ◌∷◌, ◌++◌, map, filter, drop, length, get_or, Option, Some, None, refl, sym, ap, ◌∙◌, arith, append_assoc, drop-cons, add-one}
use Rattle.std.specs.Prelude.{bytes_eq, find, position, is_some, unwrap_or, option_map, option_and_then, slice_get}
use Rattle.std.specs.List.{cons_option}
use Rattle.std.specs.Borrow.{Bor}
use Rattle.std.proofs.lemmas.List.{map-append, length-append}
use Rattle.std.proofs.lemmas.List.Elements.{filter-append, filter_map-append}
use Rattle.std.proofs.lemmas.Option.{slice_get-map}
use Rattle.model_rules.specs.ModelTree.Tree as tree
use Rattle.model_rules.specs.ModelTree.Views.{item_of, function_of, module_of, modules_of}
use Rattle.model_rules.specs.ModelTree.declared.items.Item.{Item}
use Rattle.model_rules.specs.ModelTree.declared.items.FunctionItem.{FunctionItem}
use Rattle.model_rules.specs.ModelTree.declared.items.Module.{Module}
use Rattle.model_rules.specs.Members.{entry}
use Rattle.model_rules.specs.declared.meanings.Meaning.{Meaning}
use Rattle.model_rules.specs.Meanings.{Declared, declaration, declarations, declared_name}
use Rattle.model_rules.specs.Scopes.{as_function, functions_in, is_declared, function_named, module_named}
use Rattle.model_rules.specs.Names.{is_item_named}
use Rattle.check_names.specs.Tables.{Numbers, with_first, numbered_from, numbered, place_in}
use Rattle.check_names.specs.ModuleNames.{items_of, is_declaring, names_declared, names_of_functions}
use Rattle.check_names.proofs.NumberLemmas.{place_under, find_by_place, position_map}
use Rattle.check_names.specs.ModelNames.{module_items, names_of_modules, AreModules}
use Rattle.check_names.proofs.LocalLemmas.{length_map, find_map}

abbrev label : Item → List ℕ
label i = unwrap_or (declared_name (item_of i)) []

module _ (i : Item) (is : List Item) where
  one_label : (o : Option Declared) → declaration (item_of i) ≡ o → map label (filter is_declaring is) ≡ names_declared (items_of is)
      → map label (cond (is_some o) (i ∷ filter is_declaring is) (filter is_declaring is)) ≡ map (λ (d : Declared). d.name) (cons_option o (declarations (items_of is)))
  one_label None e h = h
  one_label (Some d) e h = ap (λ n. n ∷ map label (filter is_declaring is)) (ap (λ o. unwrap_or (option_map (λ (x : Declared). x.name) o) []) e) ∙ ap (λ ns. d.name ∷ ns) h

labels : (is : List Item) → map label (filter is_declaring is) ≡ names_declared (items_of is)
labels [] = refl
labels (i ∷ is) = one_label i is (declaration (item_of i)) refl (labels is)

module _ (name : List ℕ) (i : Item) (is : List Item) where
  named_label : (d : Declared) → declaration (item_of i) ≡ Some d → (b : Bool) → bytes_eq d.name name ≡ b
      → find (is_item_named name) (items_of is) ≡ option_map item_of (find (λ j. bytes_eq (label j) name) (filter is_declaring is))
      → cond (is_some (find (λ (x : Declared). bytes_eq x.name name) (cons_option (declaration (item_of i)) []))) (Some (item_of i)) (find (is_item_named name) (items_of is))
      ≡ option_map item_of (cond (bytes_eq (label i) name) (Some i) (find (λ j. bytes_eq (label j) name) (filter is_declaring is)))
  named_label d e true same h = rw (e, same) refl
  named_label d e false same h = rw (e, same) h

  one_found : (o : Option Declared) → declaration (item_of i) ≡ o
      → find (is_item_named name) (items_of is) ≡ option_map item_of (find (λ j. bytes_eq (label j) name) (filter is_declaring is))
      → cond (is_some (find (λ (x : Declared). bytes_eq x.name name) (cons_option (declaration (item_of i)) []))) (Some (item_of i)) (find (is_item_named name) (items_of is))
      ≡ option_map item_of (find (λ j. bytes_eq (label j) name) (cond (is_some o) (i ∷ filter is_declaring is) (filter is_declaring is)))
  one_found None e h = rw e h
  one_found (Some d) e h = named_label d e (bytes_eq d.name name) refl h

found_item : (name : List ℕ) (is : List Item) → find (is_item_named name) (items_of is) ≡ option_map item_of (find (λ i. bytes_eq (label i) name) (filter is_declaring is))
found_item name [] = refl
found_item name (i ∷ is) = one_found name i is (declaration (item_of i)) refl (found_item name is)

-- the item of a name, by the table of places
pub item_by_table : (name : List ℕ) (is : List Item) (declaring : List Item) (places : Numbers) → declaring ≡ filter is_declaring is → places ≡ numbered (names_declared (items_of is))
    → option_map item_of (option_and_then (slice_get declaring) (entry name places)) ≡ find (is_item_named name) (items_of is)
item_by_table name is declaring places d p =
    ap (λ xs. option_map item_of (option_and_then (slice_get xs) (entry name places))) d
    ∙ ap (λ o. option_map item_of (option_and_then (slice_get (filter is_declaring is)) o)) (ap (entry name) p ∙ place_under name (names_declared (items_of is)) ∙ ap (λ ns. place_in ns name) (sym (labels is)) ∙ position_map label name (filter is_declaring is))
    ∙ ap (option_map item_of) (sym (find_by_place (λ i. bytes_eq (label i) name) (filter is_declaring is)))
    ∙ sym (found_item name is)

pub place_by_table : (name : List ℕ) (items : List tree.Item) (places : Numbers) → places ≡ numbered (names_declared items) → entry name places ≡ position (is_declared name) (declarations items)
place_by_table name items places p = ap (entry name) p ∙ place_under name (names_declared items) ∙ position_map (λ (d : Declared). d.name) name (declarations items)

-- what a name stands for, by the item that declares it
abbrev pub meaning_of_item : tree.Item → Option Meaning
meaning_of_item j = option_map (λ (d : Declared). d.meaning) (declaration j)

module _ (name : List ℕ) (i : tree.Item) (is : List tree.Item) where
  one_meaning : (o : Option Declared) → declaration i ≡ o → (b : Bool) → is_some (find (λ (x : Declared). bytes_eq x.name name) (cons_option o [])) ≡ b
      → option_and_then meaning_of_item (find (is_item_named name) is) ≡ option_map (λ (d : Declared). d.meaning) (find (is_declared name) (declarations is))
      → option_and_then meaning_of_item (cond b (Some i) (find (is_item_named name) is)) ≡ option_map (λ (d : Declared). d.meaning) (find (is_declared name) (cons_option o (declarations is)))
  one_meaning None e true h k = cc
  one_meaning None e false h k = k
  one_meaning (Some d) e b h k = by (bytes_eq d.name name) b h
    where
      by : (x : Bool) (y : Bool) → is_some (cond x (Some d) None) ≡ y
          → option_and_then meaning_of_item (cond y (Some i) (find (is_item_named name) is)) ≡ option_map (λ (z : Declared). z.meaning) (cond x (Some d) (find (is_declared name) (declarations is)))
      by true true g = ap (option_map (λ (z : Declared). z.meaning)) e
      by true false g = cc
      by false true g = cc
      by false false g = k

pub meaning_by_item : (name : List ℕ) (is : List tree.Item)
    → option_and_then meaning_of_item (find (is_item_named name) is) ≡ option_map (λ (d : Declared). d.meaning) (find (is_declared name) (declarations is))
meaning_by_item name [] = refl
meaning_by_item name (i ∷ is) = one_meaning name i is (declaration i) refl _ refl (meaning_by_item name is)

-- the function of a name, by the table of places
pub function_by_table : (name : List ℕ) (items : List tree.Item) (functions : List FunctionItem) (places : Numbers) → map function_of functions ≡ functions_in items → places ≡ numbered (names_of_functions items)
    → option_map function_of (option_and_then (slice_get functions) (entry name places)) ≡ function_named items name
function_by_table name items functions places f p =
    mapped (entry name places)
    ∙ ap (λ fs. option_and_then (slice_get fs) (entry name places)) f
    ∙ ap (option_and_then (slice_get (functions_in items))) (ap (entry name) p ∙ place_under name (names_of_functions items) ∙ position_map (λ (x : tree.FunctionItem). x.name) name (functions_in items))
    ∙ sym (find_by_place (λ (x : tree.FunctionItem). bytes_eq x.name name) (functions_in items))
  where
    mapped : (o : Option ℕ) → option_map function_of (option_and_then (slice_get functions) o) ≡ option_and_then (slice_get (map function_of functions)) o
    mapped None = refl
    mapped (Some n) = sym (slice_get-map function_of functions n)

pub map_map : {X Y Z : Type 0} (f : X → Y) (g : Y → Z) (xs : List X) → map g (map f xs) ≡ map (λ x. g (f x)) xs
map_map f g [] = refl
map_map f g (x ∷ xs) = ap (λ ys. g (f x) ∷ ys) (map_map f g xs)

-- a walk along items, at the item k of it

module _ {A : Type 0} (part : List Item → List A) (one : (x : Item) (xs : List Item) → part (x ∷ xs) ≡ part (x ∷ []) ++ part xs) (xs : List Item) (k : ℕ) (x : Item) (within : k < length xs) (is : x ≡ get_or xs k x) where
  at_turn : part (drop k xs) ≡ part (x ∷ []) ++ part (drop (k + 1) xs)
  at_turn = ap part (rw (add-one, drop-cons xs k x within, ← is) refl) ∙ one x (drop (k + 1) xs)

  pub turn : (now new whole : List A) → new ≡ now ++ part (x ∷ []) → now ++ part (drop k xs) ≡ whole → new ++ part (drop (k + 1) xs) ≡ whole
  turn now new whole e h = ap (λ ys. ys ++ part (drop (k + 1) xs)) e ∙ append_assoc now (part (x ∷ [])) (part (drop (k + 1) xs)) ∙ sym (ap (λ ys. now ++ ys) at_turn) ∙ h

numbered_append : (n : ℕ) (t : Numbers) (xs ys : List (List ℕ)) → numbered_from n t (xs ++ ys) ≡ numbered_from (n + length xs) (numbered_from n t xs) ys
numbered_append n t [] ys = ap (λ m. numbered_from m t ys) (omega arith)
numbered_append n t (x ∷ xs) ys = numbered_append (n + 1) (with_first t x n) xs ys ∙ ap (λ m. numbered_from m (numbered_from (n + 1) (with_first t x n) xs) ys) (omega arith)

module _ (part : List Item → List (List ℕ)) (one : (x : Item) (xs : List Item) → part (x ∷ xs) ≡ part (x ∷ []) ++ part xs) (xs : List Item) (k : ℕ) (x : Item) (within : k < length xs) (is : x ≡ get_or xs k x) where
  pub numbered_turn : (n m : ℕ) (t u whole : Numbers) → u ≡ numbered_from n t (part (x ∷ [])) → m ≡ n + length (part (x ∷ [])) → numbered_from n t (part (drop k xs)) ≡ whole
      → numbered_from m u (part (drop (k + 1) xs)) ≡ whole
  numbered_turn n m t u whole e l h =
      ap (λ j. numbered_from j u (part (drop (k + 1) xs))) l
      ∙ ap (λ v. numbered_from (n + length (part (x ∷ []))) v (part (drop (k + 1) xs))) e
      ∙ sym (numbered_append n t (part (x ∷ [])) (part (drop (k + 1) xs)))
      ∙ sym (ap (numbered_from n t) (at_turn part one xs k x within is))
      ∙ h

pub one_declaring : (x : Item) (xs : List Item) → filter is_declaring (x ∷ xs) ≡ filter is_declaring (x ∷ []) ++ filter is_declaring xs
one_declaring x xs = filter-append is_declaring (x ∷ []) xs

pub one_named : (x : Item) (xs : List Item) → names_declared (items_of (x ∷ xs)) ≡ names_declared (items_of (x ∷ [])) ++ names_declared (items_of xs)
one_named x xs =
    ap (map (λ (d : Declared). d.name)) (filter_map-append declaration (item_of x ∷ []) (items_of xs)) ∙ map-append (λ (d : Declared). d.name) (declarations (items_of (x ∷ []))) (declarations (items_of xs))

pub one_function : (x : Item) (xs : List Item) → functions_in (items_of (x ∷ xs)) ≡ functions_in (items_of (x ∷ [])) ++ functions_in (items_of xs)
one_function x xs = filter_map-append as_function (item_of x ∷ []) (items_of xs)

pub one_function_named : (x : Item) (xs : List Item) → names_of_functions (items_of (x ∷ xs)) ≡ names_of_functions (items_of (x ∷ [])) ++ names_of_functions (items_of xs)
one_function_named x xs = ap (map (λ (f : tree.FunctionItem). f.name)) (one_function x xs) ∙ map-append (λ (f : tree.FunctionItem). f.name) (functions_in (items_of (x ∷ []))) (functions_in (items_of xs))

-- as many more items as names
module _ {X Y Z : Type 0} (f : X → Y) (g : Y → Z) (old new : List X) (more : List Y) (e : map f new ≡ map f old ++ more) where
  pub longer : length new ≡ length old + length (map g more)
  longer = omega (arith, length_map f new, length_map f old, length_map g more, length-append (map f old) more, ap length e)

pub longer_named : (old new : List (Bor Item)) (x : Item) → map (λ (i : Bor Item). i.now) new ≡ map (λ (i : Bor Item). i.now) old ++ filter is_declaring (x ∷ [])
    → length new ≡ length old + length (names_declared (items_of (x ∷ [])))
longer_named old new x e = longer (λ (i : Bor Item). i.now) label old new (filter is_declaring (x ∷ [])) e ∙ ap (λ ns. length old + length ns) (labels (x ∷ []))

-- the module of a name, by the table of places
pub module_by_table : (name : List ℕ) (ms : List Module) (tables : List (List Item)) (places : Numbers) → AreModules ms tables places
    → option_map items_of (option_and_then (slice_get tables) (entry name places)) ≡ option_map (λ (m : tree.Module). m.items) (module_named (modules_of ms) name)
module_by_table name ms tables places k =
    ap (λ ts. option_map items_of (option_and_then (slice_get ts) (entry name places))) k.all
    ∙ ap (option_map items_of) (picked (entry name places))
    ∙ viewed (option_and_then (slice_get ms) (entry name places))
    ∙ ap (λ o. option_map (λ (m : tree.Module). m.items) (option_map module_of (option_and_then (slice_get ms) o))) (ap (entry name) k.named ∙ place_under name (names_of_modules ms) ∙ position_map (λ (m : Module). m.name) name ms)
    ∙ ap (λ o. option_map (λ (m : tree.Module). m.items) (option_map module_of o)) (sym (find_by_place (λ (m : Module). bytes_eq m.name name) ms))
    ∙ ap (option_map (λ (m : tree.Module). m.items)) (find_map module_of (λ (m : tree.Module). bytes_eq m.name name) ms)
  where
    picked : (o : Option ℕ) → option_and_then (slice_get (module_items ms)) o ≡ option_map (λ (m : Module). m.items.items) (option_and_then (slice_get ms) o)
    picked None = refl
    picked (Some n) = slice_get-map (λ (m : Module). m.items.items) ms n

    viewed : (o : Option Module) → option_map items_of (option_map (λ (m : Module). m.items.items) o) ≡ option_map (λ (m : tree.Module). m.items) (option_map module_of o)
    viewed None = refl
    viewed (Some m) = refl
