-- What stands under a name that a module declares: the object of the item that declares it, or none of a function.
use Rattle.std.proofs.Common.{◌≡◌, ℕ, zero, suc, ◌+◌, ◌==◌, ◌&&◌, Bool, true, false, cond, List, [], ◌∷◌, ◌++◌, map, Option, Some, None, refl, sym, ap, ◌∙◌, subst, true≢false, arith}
use Rattle.std.specs.Prelude.{⊤, slice_get, find, bytes_eq, option_map, unwrap_or, Contains}
use Rattle.std.specs.List.{AllByRecursion, IsDistinct, cons_option, position_or_len}
use Rattle.std.proofs.lemmas.Bool.{cond-true, cond-false, false_from_ne_true}
use Rattle.std.proofs.lemmas.List.Folds.{find_at}
use Rattle.std.proofs.lemmas.Slice.Eq.{bytes_eq-Decides}
use Rattle.elaborate_objects.specs.ModelTree.Tree as tree
use Rattle.elaborate_objects.specs.ModelTree.Lines.{item_line}
use Rattle.elaborate_objects.specs.FlatDesign.declared.objects.Object.{Object}
use Rattle.elaborate_objects.specs.FlatDesign.declared.objects.ObjectForm.{ObjectForm}
use Rattle.elaborate_objects.specs.ModelRules.Meanings.{Declared, declaration, declarations, declared_name}
use Rattle.elaborate_objects.specs.DesignRules.Forms.{Name, Around, object_form}
use Rattle.elaborate_objects.specs.DesignRules.Listing.{is_child, child}
use Rattle.elaborate_objects.specs.Rows.{Row, row_if, rows_in}
use Rattle.elaborate_objects.specs.Left.{object_of}
use Rattle.laws_design.proofs.Children.{in_instance, same_some, head_in, tail_in}

-- the first child of a name among the children

child_by : (b : Bool) (j : ℕ) (name : Name) (o : Object) (os : List Object) → (o.parent == j) ≡ b → find (is_child j name) os ≡ find (λ (x : Object). bytes_eq x.name name) (in_instance j os)
    → cond (b && bytes_eq o.name name) (Some o) (find (is_child j name) os) ≡ find (λ (x : Object). bytes_eq x.name name) (cond b (o ∷ in_instance j os) (in_instance j os))
child_by true j name o os e rest = ap (λ r. cond (bytes_eq o.name name) (Some o) r) rest
child_by false j name o os e rest = rest

child_found : (j : ℕ) (name : Name) (os : List Object) → find (is_child j name) os ≡ find (λ (x : Object). bytes_eq x.name name) (in_instance j os)
child_found j name [] = refl
child_found j name (o ∷ os) = child_by (o.parent == j) j name o os refl (child_found j name os)

mapped_cond : {A B : Type 0} (f : A → B) (b : Bool) (x : A) (o : Option B) (p : Option A) → o ≡ option_map f p → cond b (Some (f x)) o ≡ option_map f (cond b (Some x) p)
mapped_cond f true x o p h = refl
mapped_cond f false x o p h = h

abbrev pub row_found : Name → List Row → Option Row
row_found name rs = find (λ (r : Row). bytes_eq r.name name) rs

found_of : (j : ℕ) (name : Name) (rs : List Row) → find (λ (x : Object). bytes_eq x.name name) (map (object_of j) rs) ≡ option_map (object_of j) (row_found name rs)
found_of j name [] = refl
found_of j name (r ∷ rs) = mapped_cond (object_of j) (bytes_eq r.name name) r (find (λ (x : Object). bytes_eq x.name name) (map (object_of j) rs)) (row_found name rs) (found_of j name rs)

-- what stands at the number of a child
pub child_is : (top : Object) (os : List Object) (j : ℕ) (name : Name) (rs : List Row) → in_instance j os ≡ map (object_of j) rs
    → slice_get (top ∷ os) (child os j name) ≡ option_map (object_of j) (row_found name rs)
child_is top os j name rs e =
    ap (slice_get (top ∷ os)) (let z : 1 + position_or_len (is_child j name) os ≡ suc (position_or_len (is_child j name) os) = omega arith in z)
    ∙ sym (find_at (is_child j name) os) ∙ child_found j name os ∙ ap (find (λ (x : Object). bytes_eq x.name name)) e ∙ found_of j name rs

-- names that differ

pub distinct_head : (x : Name) (xs : List Name) → IsDistinct bytes_eq (x ∷ xs) → AllByRecursion (λ y. bytes_eq x y ≡ false) xs × IsDistinct bytes_eq xs
unfolding IsDistinct
distinct_head x xs h = h

abbrev names : List Declared → List Name
names ds = map (λ (d : Declared). d.name) ds

turned : (a b : Name) → bytes_eq a b ≡ false → bytes_eq b a ≡ false
turned a b h = false_from_ne_true (bytes_eq b a) (λ e. true≢false (sym ((bytes_eq-Decides a b).1 (sym ((bytes_eq-Decides b a).0 e))) ∙ h))

same_name : (a : Name) → bytes_eq a a ≡ true
same_name a = (bytes_eq-Decides a a).1 refl

apart_at : (a : Name) (ds : List Declared) (n : ℕ) (y : Declared) → AllByRecursion (λ x. bytes_eq a x ≡ false) (names ds) → slice_get ds n ≡ Some y → bytes_eq a y.name ≡ false
apart_at a [] n y h e = cc
apart_at a (d ∷ ds) zero y h e = subst (λ (x : Declared). bytes_eq a x.name ≡ false) (same_some d y e) h.0
apart_at a (d ∷ ds) (suc n) y h e = apart_at a ds n y h.1 e

-- the rows of an item, and those of the items behind it

-- an item that declares nothing gives no row; a row has the name that its item declares
abbrev RowsOf : Option Declared → Option ObjectForm → Type 0
RowsOf None f = f ≡ None
RowsOf (Some d) f = ⊤

none_declared : (a : Around) (i : tree.Item) → RowsOf (declaration i) (object_form a i)
none_declared a (tree.bind line left right) = refl
none_declared a other = tt

no_row : (i : tree.Item) (f : Option ObjectForm) (name : Name) (rs : List Row) → f ≡ None → row_found name (row_if i f ++ rs) ≡ row_found name rs
no_row i None name rs h = refl
no_row i (Some f) name rs h = cc

other_row : (i : tree.Item) (d : Declared) (f : Option ObjectForm) (name : Name) (rs : List Row) → declaration i ≡ Some d → bytes_eq d.name name ≡ false → row_found name (row_if i f ++ rs) ≡ row_found name rs
other_row i d None name rs e h = refl
other_row i d (Some f) name rs e h =
    cond-false (bytes_eq (unwrap_or (declared_name i) []) name) _ (row_found name rs)
    (subst (λ (o : Option Declared). bytes_eq (unwrap_or (option_map (λ (x : Declared). x.name) o) []) name ≡ false) (sym e) h)

abbrev form_of : Option Row → Option ObjectForm
form_of o = option_map (λ (r : Row). r.form) o

own_row : (i : tree.Item) (d : Declared) (f : Option ObjectForm) (rs : List Row) → declaration i ≡ Some d → row_found d.name rs ≡ None → form_of (row_found d.name (row_if i f ++ rs)) ≡ f
own_row i d None rs e none = ap form_of none
own_row i d (Some f) rs e none =
    ap form_of
    (cond-true (bytes_eq (unwrap_or (declared_name i) []) d.name) (Some (record { name = unwrap_or (declared_name i) []; line = item_line i; form = f })) (row_found d.name rs)
    (subst (λ (o : Option Declared). bytes_eq (unwrap_or (option_map (λ (x : Declared). x.name) o) []) d.name ≡ true) (sym e) (same_name d.name)))

skip_row : (a : Around) (i : tree.Item) (is : List tree.Item) (o : Option Declared) (name : Name) → declaration i ≡ o → AllByRecursion (λ y. bytes_eq name y ≡ false) (names (cons_option o (declarations is)))
    → (AllByRecursion (λ y. bytes_eq name y ≡ false) (names (declarations is)) → row_found name (rows_in a is) ≡ None) → row_found name (rows_in a (i ∷ is)) ≡ None
skip_row a i is None name e h rest = no_row i (object_form a i) name (rows_in a is) (subst (λ o. RowsOf o (object_form a i)) e (none_declared a i)) ∙ rest h
skip_row a i is (Some d) name e h rest = other_row i d (object_form a i) name (rows_in a is) e (turned name d.name h.0) ∙ rest h.1

rows_apart : (a : Around) (is : List tree.Item) (name : Name) → AllByRecursion (λ y. bytes_eq name y ≡ false) (names (declarations is)) → row_found name (rows_in a is) ≡ None
rows_apart a [] name h = refl
rows_apart a (i ∷ is) name h = skip_row a i is (declaration i) name refl h (rows_apart a is name)

-- the item that declares a name, with the form of what stands under the name
pub record IsItemOf (a : Around) (is : List tree.Item) (y : Declared) : Type 0 where
  pub item : tree.Item
  pub listed : Contains is item
  pub declares : declaration item ≡ Some y
  pub form : form_of (row_found y.name (rows_in a is)) ≡ object_form a item

abbrev Names : List tree.Item → Type 0
Names is = IsDistinct bytes_eq (names (declarations is))

item_by : (a : Around) (i : tree.Item) (is : List tree.Item) (o : Option Declared) (n : ℕ) (y : Declared) → declaration i ≡ o → IsDistinct bytes_eq (names (cons_option o (declarations is)))
    → ((k : ℕ) → Names is → slice_get (declarations is) k ≡ Some y → IsItemOf a is y) → slice_get (cons_option o (declarations is)) n ≡ Some y → IsItemOf a (i ∷ is) y
item_by a i is None n y e differ rest found =
    let r = rest n differ found in
    record {
      item = r.item;
      listed = tail_in r.item i is r.listed;
      declares = r.declares;
      form = ap form_of (no_row i (object_form a i) y.name (rows_in a is) (subst (λ o. RowsOf o (object_form a i)) e (none_declared a i))) ∙ r.form;
    }
item_by a i is (Some d) zero y e differ rest found =
    let same = same_some d y found in
    subst (IsItemOf a (i ∷ is)) same
    (record {
      item = i;
      listed = head_in i is;
      declares = e;
      form = own_row i d (object_form a i) (rows_in a is) e (rows_apart a is d.name (distinct_head d.name (names (declarations is)) differ).0);
    })
item_by a i is (Some d) (suc n) y e differ rest found =
    let two = distinct_head d.name (names (declarations is)) differ in
    let r = rest n two.1 found in
    record {
      item = r.item;
      listed = tail_in r.item i is r.listed;
      declares = r.declares;
      form = ap form_of (other_row i d (object_form a i) y.name (rows_in a is) e (apart_at d.name (declarations is) n y two.0 found)) ∙ r.form;
    }

pub item_of : (a : Around) (is : List tree.Item) (n : ℕ) (y : Declared) → Names is → slice_get (declarations is) n ≡ Some y → IsItemOf a is y
item_of a [] n y differ found = cc
item_of a (i ∷ is) n y differ found = item_by a i is (declaration i) n y refl differ (λ k d e. item_of a is k y d e) found
