-- Tables of the first object under each name.
use Rattle.std.proofs.Common.{subst, ◌≡◌, ◌≢◌, ◌<◌, ◌≤◌, ℕ, zero, suc, ◌+◌, Bool, true, false, cond, List, [], ◌∷◌, ◌++◌, drop, length, get_or, replicate, Option, Some, None, refl, sym, ap, ◌∙◌, arith, drop-cons, add-one}
use Rattle.std.specs.Prelude.{◌==◌, ◌&&◌, bytes_eq, find, is_some, option_map, slice_set, nat_lt}
use Rattle.std.specs.Option.{option_or}
use Rattle.std.specs.List.{position_from}
use Rattle.std.proofs.lemmas.Bool.Decides.{nat_tests}
use Rattle.std.proofs.lemmas.Slice.Eq.{bytes_eq-Decides}
use Rattle.std.proofs.lemmas.List.{length-set, length-replicate, drop_all, get_or_default, get_or-set_same, get_or-set_other}
use Rattle.std.proofs.lemmas.Option.{unwrap_or-slice_get}
use Rattle.elaborate_objects.specs.FlatDesign.declared.objects.Object.{Object}
use Rattle.elaborate_objects.specs.ModelRules.Members.{entry}
use Rattle.elaborate_objects.specs.DesignRules.Listing.{is_child}
use Rattle.elaborate_objects.specs.CheckNames.Tables.{Numbers, with_first}
use Rattle.elaborate_design.specs.Children.{AreNamed, table_at, with_child}

-- the entry under a name, of one put behind others
entry_append : (q : List ℕ) (t : Numbers) (name : List ℕ) (n : ℕ) → entry q (t ++ (name, n) ∷ []) ≡ option_or (entry q t) (cond (bytes_eq name q) (Some n) None)
entry_append q [] name n = by (bytes_eq name q)
  where
    by : (b : Bool) → option_map (λ (e : List ℕ × ℕ). e.1) (cond b (Some (name, n)) None) ≡ cond b (Some n) None
    by true = refl
    by false = refl
entry_append q (e ∷ t) name n = by (bytes_eq e.0 q) (entry_append q t name n)
  where
    by : (b : Bool) → entry q (t ++ (name, n) ∷ []) ≡ option_or (entry q t) (cond (bytes_eq name q) (Some n) None)
        → option_map (λ (e : List ℕ × ℕ). e.1) (cond b (Some e) (find (λ (e : List ℕ × ℕ). bytes_eq e.0 q) (t ++ (name, n) ∷ [])))
        ≡ option_or (option_map (λ (e : List ℕ × ℕ). e.1) (cond b (Some e) (find (λ (e : List ℕ × ℕ). bytes_eq e.0 q) t))) (cond (bytes_eq name q) (Some n) None)
    by true h = refl
    by false h = h

or_none : {A : Type 0} (o : Option A) → o ≡ option_or o None
or_none None = refl
or_none (Some x) = refl

some_or : {A : Type 0} (o p : Option A) → is_some o ≡ true → o ≡ option_or o p
some_or None p h = cc
some_or (Some x) p h = refl

module _ (q : List ℕ) (t : Numbers) (name : List ℕ) (n : ℕ) where
  by_name : (b : Bool) → bytes_eq name q ≡ b → is_some (entry name t) ≡ true → entry q t ≡ option_or (entry q t) (cond b (Some n) None)
  by_name true same h = some_or (entry q t) (Some n) (subst (λ x. is_some (entry x t) ≡ true) ((bytes_eq-Decides name q).0 same) h)
  by_name false same h = or_none (entry q t)

  by_there : (b : Bool) → is_some (entry name t) ≡ b → entry q (cond b t (t ++ (name, n) ∷ [])) ≡ option_or (entry q t) (cond (bytes_eq name q) (Some n) None)
  by_there true h = by_name (bytes_eq name q) refl h
  by_there false h = entry_append q t name n

  entry_first : entry q (with_first t name n) ≡ option_or (entry q t) (cond (bytes_eq name q) (Some n) None)
  entry_first = by_there (is_some (entry name t)) refl

-- tables by their places

empty_at : (count i : ℕ) → table_at (replicate count []) i ≡ []
empty_at zero i = refl
empty_at (suc count) zero = refl
empty_at (suc count) (suc i) = empty_at count i

table_same : (tables : List Numbers) (j : ℕ) (t : Numbers) → j < length tables → table_at (slice_set tables j t) j ≡ t
table_same tables j t below = unwrap_or-slice_get (slice_set tables j t) j [] ∙ get_or-set_same tables j t [] below

table_other : (tables : List Numbers) (j i : ℕ) (t : Numbers) → i ≢ j → table_at (slice_set tables j t) i ≡ table_at tables i
table_other tables j i t ne = unwrap_or-slice_get (slice_set tables j t) i [] ∙ get_or-set_other tables j i t [] ne ∙ sym (unwrap_or-slice_get tables i [])

first_of : (o rest : Option ℕ) (b : Bool) (i : ℕ) → option_or (option_or o (cond b (Some i) None)) rest ≡ option_or o (cond b (Some i) rest)
first_of None rest true i = refl
first_of None rest false i = refl
first_of (Some m) rest b i = refl

-- what holds so far, of the objects from this number on
abbrev pub So : List Object → ℕ → List Numbers → Type 0
So os i tables = (instance : ℕ) (name : List ℕ) → instance < length os
    → option_or (entry name (table_at tables instance)) (position_from (is_child instance name) i (drop i os)) ≡ position_from (is_child instance name) 1 (drop 1 os)

pub before_all : (os : List Object) (tables : List Numbers) → tables ≡ replicate (length os) [] → (length tables ≡ length os) × So os 1 tables
before_all os tables is = (
  ap length is ∙ length-replicate (length os) [],
  λ instance name below.
      ap (λ ts. option_or (entry name (table_at ts instance)) (position_from (is_child instance name) 1 (drop 1 os))) is
      ∙ ap (λ t. option_or (entry name t) (position_from (is_child instance name) 1 (drop 1 os))) (empty_at (length os) instance),
)

pub after_all : (os : List Object) (tables : List Numbers) (i : ℕ) → length os ≤ i → length tables ≡ length os → So os i tables → AreNamed os tables
after_all os tables i past long so = record {
  long = long;
  found = λ instance name below.
      or_none (entry name (table_at tables instance))
      ∙ sym (ap (λ xs. option_or (entry name (table_at tables instance)) (position_from (is_child instance name) i xs)) (drop_all i os past))
      ∙ so instance name below;
}

module _ (os : List Object) (i : ℕ) (o : Object) (within : i < length os) (is : o ≡ get_or os i o) where
  next_object : drop i os ≡ o ∷ drop (i + 1) os
  next_object = rw (add-one, drop-cons os i o within, ← is) refl

  -- one more object is in the table of its instance
  module _ (tables : List Numbers) (long : length tables ≡ length os) (so : So os i tables) where
    abbrev added : List Numbers
    added = slice_set tables o.parent (with_first (table_at tables o.parent) o.name i)

    step : (instance : ℕ) (name : List ℕ) → instance < length os → (b : Bool) → (o.parent == instance) ≡ b → (ts : List Numbers)
        → entry name (table_at ts instance) ≡ cond b (option_or (entry name (table_at tables instance)) (cond (bytes_eq o.name name) (Some i) None)) (entry name (table_at tables instance))
        → option_or (entry name (table_at ts instance)) (position_from (is_child instance name) (i + 1) (drop (i + 1) os)) ≡ position_from (is_child instance name) 1 (drop 1 os)
    step instance name below true e ts h =
        let rest = position_from (is_child instance name) (i + 1) (drop (i + 1) os) in
        ap (λ x. option_or x rest) h ∙ first_of (entry name (table_at tables instance)) rest (bytes_eq o.name name) i
        ∙ ap (λ b. option_or (entry name (table_at tables instance)) (cond (b && bytes_eq o.name name) (Some i) rest)) (sym e)
        ∙ ap (λ xs. option_or (entry name (table_at tables instance)) (position_from (is_child instance name) i xs)) (sym next_object)
        ∙ so instance name below
    step instance name below false e ts h =
        let rest = position_from (is_child instance name) (i + 1) (drop (i + 1) os) in
        ap (λ x. option_or x rest) h
        ∙ ap (λ b. option_or (entry name (table_at tables instance)) (cond (b && bytes_eq o.name name) (Some i) rest)) (sym e)
        ∙ ap (λ xs. option_or (entry name (table_at tables instance)) (position_from (is_child instance name) i xs)) (sym next_object)
        ∙ so instance name below

    under : (instance : ℕ) (name : List ℕ) → instance < length os → (b : Bool) → (o.parent == instance) ≡ b
        → entry name (table_at added instance) ≡ cond b (option_or (entry name (table_at tables instance)) (cond (bytes_eq o.name name) (Some i) None)) (entry name (table_at tables instance))
    under instance name below true e =
        let same : instance ≡ o.parent = grind (arith, nat_tests, e) in
        let inside : instance < length tables = subst (λ n. instance < n) (sym long) below in
        let put : table_at added instance ≡ with_first (table_at tables instance) o.name i =
        subst (λ j. table_at (slice_set tables j (with_first (table_at tables j) o.name i)) instance ≡ with_first (table_at tables instance) o.name i) same
        (table_same tables instance (with_first (table_at tables instance) o.name i) inside) in
        ap (entry name) put ∙ entry_first name (table_at tables instance) o.name i
    under instance name below false e =
        let ne : instance ≢ o.parent = grind (arith, nat_tests, e) in
        ap (entry name) (table_other tables o.parent instance (with_first (table_at tables o.parent) o.name i) ne)

    pub one_named : (new : List Numbers) → new ≡ added → (length new ≡ length os) × So os (i + 1) new
    one_named new at = (
      ap length at ∙ length-set tables o.parent (with_first (table_at tables o.parent) o.name i) ∙ long,
      λ instance name below.
          step instance name below (o.parent == instance) refl new (ap (λ ts. entry name (table_at ts instance)) at ∙ under instance name below (o.parent == instance) refl),
    )

    by_place : (b : Bool) → nat_lt o.parent (length tables) ≡ b → (new : List Numbers) → new ≡ cond b added tables → (length new ≡ length os) × So os (i + 1) new
    by_place true e new at = one_named new at
    by_place false e new at = (
      ap length at ∙ long,
      λ instance name below.
          let no : (o.parent == instance) ≡ false = grind (arith, nat_tests, long, e, below) in
          step instance name below false no new (ap (λ ts. entry name (table_at ts instance)) at),
    )

    pub child_added : (new : List Numbers) → new ≡ with_child tables o.parent o.name i → (length new ≡ length os) × So os (i + 1) new
    child_added new at = by_place (nat_lt o.parent (length tables)) refl new at

-- the table that stands at a place
pub index_table : (tables : List Numbers) (i : ℕ) (t : Numbers) → t ≡ get_or tables i t → i < length tables → t ≡ table_at tables i
index_table tables i t is within = is ∙ get_or_default tables i t [] within ∙ sym (unwrap_or-slice_get tables i [])
