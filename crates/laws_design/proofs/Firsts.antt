-- The first item of a name: it is what the name stands for, and its object stands under the name.
use Rattle.std.proofs.Common.{◌≡◌, ◌⊎◌, zero, suc, Bool, true, false, cond, List, [], ◌∷◌, ◌++◌, map, Option, Some, None, refl, sym, ap, ◌∙◌, subst, inl, inr, arith}
use Rattle.std.specs.Prelude.{find, bytes_eq, is_some, option_map, unwrap_or, Contains}
use Rattle.std.specs.List.{AllByRecursion, IsDistinct, cons_option}
use Rattle.std.proofs.lemmas.Bool.{cond-true, cond-false}
use Rattle.std.proofs.lemmas.Slice.Eq.{bytes_eq-Decides}
use Rattle.elaborate_objects.specs.ModelTree.Tree as tree
use Rattle.elaborate_objects.specs.ModelTree.Lines.{item_line}
use Rattle.elaborate_objects.specs.FlatDesign.declared.objects.ObjectForm.{ObjectForm}
use Rattle.elaborate_objects.specs.ModelRules.Meanings.{Declared, declaration, declarations, declared_name}
use Rattle.elaborate_objects.specs.ModelRules.Scopes.{is_declared}
use Rattle.elaborate_objects.specs.ModelRules.declared.meanings.Meaning.TheVariants as meaning
use Rattle.elaborate_objects.specs.ModelRules.Names.{is_item_named}
use Rattle.elaborate_objects.specs.ModelRules.Distinct.{names_of}
use Rattle.elaborate_objects.proofs.Closed.{nothing_in}
use Rattle.elaborate_objects.specs.DesignRules.Forms.{Name, Around, object_form}
use Rattle.elaborate_objects.specs.Rows.{Row, row_if, rows_in}
use Rattle.laws_design.proofs.Children.{same_some, head_in, tail_in}
use Rattle.laws_design.proofs.NamedObjects.{row_found, distinct_head}
use Rattle.laws_design.proofs.Roles.{RoleIf, item_role}

abbrev pub FormOf : Option Row → Option ObjectForm
FormOf o = option_map (λ (r : Row). r.form) o

-- the rows of an item, and those of the items behind it

no_row : (i : tree.Item) (f : Option ObjectForm) (name : Name) (rs : List Row) → f ≡ None → row_found name (row_if i f ++ rs) ≡ row_found name rs
no_row i None name rs h = refl
no_row i (Some f) name rs h = cc

other_row : (i : tree.Item) (d : Declared) (f : Option ObjectForm) (name : Name) (rs : List Row) → declaration i ≡ Some d → bytes_eq d.name name ≡ false → row_found name (row_if i f ++ rs) ≡ row_found name rs
other_row i d None name rs e h = refl
other_row i d (Some f) name rs e h =
    cond-false (bytes_eq (unwrap_or (declared_name i) []) name) _ (row_found name rs)
    (subst (λ (o : Option Declared). bytes_eq (unwrap_or (option_map (λ (x : Declared). x.name) o) []) name ≡ false) (sym e) h)

own_row : (i : tree.Item) (d : Declared) (f : ObjectForm) (name : Name) (rs : List Row) → declaration i ≡ Some d → bytes_eq d.name name ≡ true → FormOf (row_found name (row_if i (Some f) ++ rs)) ≡ Some f
own_row i d f name rs e h =
    ap FormOf
    (cond-true (bytes_eq (unwrap_or (declared_name i) []) name) (Some (record { name = unwrap_or (declared_name i) []; line = item_line i; form = f })) (row_found name rs)
    (subst (λ (o : Option Declared). bytes_eq (unwrap_or (option_map (λ (x : Declared). x.name) o) []) name ≡ true) (sym e) h))

undeclared : (a : Around) (i : tree.Item) → declaration i ≡ None → object_form a i ≡ None
undeclared a i e = subst (λ o. RoleIf o (object_form a i)) e (item_role a i)

same_name : (a : Name) → bytes_eq a a ≡ true
same_name a = (bytes_eq-Decides a a).1 refl

-- whether an item has a name, by what it declares
abbrev one_named : Name → Option Declared → Bool
one_named name o = is_some (find (λ (d : Declared). bytes_eq d.name name) (cons_option o []))

module _ (a : Around) (name : Name) (y : Declared) where
  abbrev pub Stands : List tree.Item → tree.Item → Type 0
  Stands is i = (y.meaning ≡ meaning.Function) ⊎ (FormOf (row_found name (rows_in a is)) ≡ object_form a i)

  pub record IsFirst (is : List tree.Item) : Type 0 where
    pub item : tree.Item
    pub listed : Contains is item
    pub named : find (is_item_named name) is ≡ Some item
    pub declares : declaration item ≡ Some y
    pub stands : Stands is item

  stands_later : (i x : tree.Item) (is : List tree.Item) → row_found name (rows_in a (i ∷ is)) ≡ row_found name (rows_in a is) → Stands is x → Stands (i ∷ is) x
  stands_later i x is e (inl h) = inl h
  stands_later i x is e (inr h) = inr (ap FormOf e ∙ h)

  stands_here : (i : tree.Item) (is : List tree.Item) (f : Option ObjectForm) → declaration i ≡ Some y → bytes_eq y.name name ≡ true → object_form a i ≡ f → Stands (i ∷ is) i
  stands_here i is None e t h = inl (subst (λ f. RoleIf (Some y) f) h (subst (λ o. RoleIf o (object_form a i)) e (item_role a i)))
  stands_here i is (Some f) e t h = inr (subst (λ (g : Option ObjectForm). FormOf (row_found name (row_if i g ++ rows_in a is)) ≡ g) (sym h) (own_row i y f name (rows_in a is) e t))

  behind : (i : tree.Item) (is : List tree.Item) → one_named name (declaration i) ≡ false → row_found name (rows_in a (i ∷ is)) ≡ row_found name (rows_in a is) → IsFirst is → IsFirst (i ∷ is)
  behind i is off rows r =
      record {
        item = r.item;
        listed = tail_in r.item i is r.listed;
        named = cond-false (is_item_named name i) (Some i) (find (is_item_named name) is) off ∙ r.named;
        declares = r.declares;
        stands = stands_later i r.item is rows r.stands;
      }

  first_at : (i : tree.Item) (is : List tree.Item) (d : Declared) (b : Bool) → bytes_eq d.name name ≡ b → declaration i ≡ Some d → cond b (Some d) (find (is_declared name) (declarations is)) ≡ Some y
      → (find (is_declared name) (declarations is) ≡ Some y → IsFirst is) → IsFirst (i ∷ is)
  first_at i is d true t e h rest =
      let same = same_some d y h in
      let declares = e ∙ ap Some same in
      let on = ap (one_named name) e ∙ ap (λ b. is_some (cond b (Some d) None)) t in
      record {
        item = i;
        listed = head_in i is;
        named = cond-true (is_item_named name i) (Some i) (find (is_item_named name) is) on;
        declares = declares;
        stands = stands_here i is (object_form a i) declares (subst (λ (x : Declared). bytes_eq x.name name ≡ true) same t) refl;
      }
  first_at i is d false t e h rest =
      behind i is (ap (one_named name) e ∙ ap (λ b. is_some (cond b (Some d) None)) t) (other_row i d (object_form a i) name (rows_in a is) e t) (rest h)

  first_by : (i : tree.Item) (is : List tree.Item) (o : Option Declared) → declaration i ≡ o → find (is_declared name) (cons_option o (declarations is)) ≡ Some y
      → (find (is_declared name) (declarations is) ≡ Some y → IsFirst is) → IsFirst (i ∷ is)
  first_by i is None e h rest = behind i is (ap (one_named name) e) (no_row i (object_form a i) name (rows_in a is) (undeclared a i e)) (rest h)
  first_by i is (Some d) e h rest = first_at i is d (bytes_eq d.name name) refl e h rest

  pub first : (is : List tree.Item) → find (is_declared name) (declarations is) ≡ Some y → IsFirst is
  first [] h = cc
  first (i ∷ is) h = first_by i is (declaration i) refl h (first is)

-- where names differ, each item is the first of its name

abbrev names : List Declared → List Name
names ds = map (λ (d : Declared). d.name) ds

module _ (i : tree.Item) (d : Declared) (declares : declaration i ≡ Some d) where
  apart_by : (n : Name) (x : tree.Item) (is : List tree.Item) (o : Option Declared) → declaration x ≡ o → AllByRecursion (λ z. bytes_eq n z ≡ false) (names (cons_option o (declarations is))) → Contains (x ∷ is) i
      → (AllByRecursion (λ z. bytes_eq n z ≡ false) (names (declarations is)) → Contains is i → bytes_eq n d.name ≡ false) → bytes_eq n d.name ≡ false
  apart_by n x is None e h (zero, below, same) rest = cc (ap declaration same)
  apart_by n x is None e h (suc k, below, same) rest = rest h (k, omega arith, same)
  apart_by n x is (Some z) e h (zero, below, same) rest = subst (λ (w : Declared). bytes_eq n w.name ≡ false) (same_some z d (sym e ∙ ap declaration same ∙ declares)) h.0
  apart_by n x is (Some z) e h (suc k, below, same) rest = rest h.1 (k, omega arith, same)

  apart : (n : Name) (is : List tree.Item) → AllByRecursion (λ z. bytes_eq n z ≡ false) (names (declarations is)) → Contains is i → bytes_eq n d.name ≡ false
  apart n [] h at = absurd (nothing_in i at)
  apart n (x ∷ is) h at = apart_by n x is (declaration x) refl h at (apart n is)

  module _ (a : Around) (f : ObjectForm) (is_form : object_form a i ≡ Some f) where
    alone_here : (x : tree.Item) (is : List tree.Item) → x ≡ i → FormOf (row_found d.name (rows_in a (x ∷ is))) ≡ Some f
    alone_here x is same =
        subst (λ w. FormOf (row_found d.name (row_if w (object_form a w) ++ rows_in a is)) ≡ Some f) (sym same)
        (subst (λ (g : Option ObjectForm). FormOf (row_found d.name (row_if i g ++ rows_in a is)) ≡ Some f) (sym is_form) (own_row i d f d.name (rows_in a is) declares (same_name d.name)))

    alone_by : (x : tree.Item) (is : List tree.Item) (o : Option Declared) → declaration x ≡ o → IsDistinct bytes_eq (names (cons_option o (declarations is))) → Contains (x ∷ is) i
        → (IsDistinct bytes_eq (names_of is) → Contains is i → FormOf (row_found d.name (rows_in a is)) ≡ Some f) → FormOf (row_found d.name (rows_in a (x ∷ is))) ≡ Some f
    alone_by x is o e h (zero, below, same) rest = alone_here x is same
    alone_by x is None e h (suc k, below, same) rest = ap FormOf (no_row x (object_form a x) d.name (rows_in a is) (undeclared a x e)) ∙ rest h (k, omega arith, same)
    alone_by x is (Some z) e h (suc k, below, same) rest =
        let two = distinct_head z.name (names (declarations is)) h in
        let there : Contains is i = (k, omega arith, same) in
        ap FormOf (other_row x z (object_form a x) d.name (rows_in a is) e (apart z.name is two.0 there)) ∙ rest two.1 there

    pub alone : (is : List tree.Item) → IsDistinct bytes_eq (names_of is) → Contains is i → FormOf (row_found d.name (rows_in a is)) ≡ Some f
    alone [] h at = absurd (nothing_in i at)
    alone (x ∷ is) h at = alone_by x is (declaration x) refl h at (alone is)
