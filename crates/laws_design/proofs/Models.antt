-- The objects of a model none of whose modules has itself.
use Rattle.std.proofs.Common.{◌≡◌, ℕ, suc, List, [], ◌∷◌, ◌++◌, map, drop, length, Option, Some, None, refl, sym, ap, ◌∙◌, subst}
use Rattle.std.specs.Prelude.{slice_get, option_map, Contains}
use Rattle.std.specs.List.{flat_map}
use Rattle.elaborate_objects.specs.ModelTree.Tree as tree
use Rattle.elaborate_objects.specs.FlatDesign.declared.objects.Object.{Object}
use Rattle.elaborate_objects.specs.FlatDesign.declared.objects.ObjectForm.{ObjectForm}
use Rattle.elaborate_objects.specs.FlatDesign.declared.objects.ObjectForm.TheVariants as form
use Rattle.elaborate_objects.specs.DesignRules.Forms.{Name, Around, around, items_at, object_form}
use Rattle.elaborate_objects.specs.DesignRules.Listing.{object_if, child, list_of, top_object, top_place}
use Rattle.elaborate_objects.specs.DesignRules.ObjectFaults.{cycle_fault}
use Rattle.elaborate_objects.specs.Rows.{Row, row_if, rows_in, rows_of}
use Rattle.elaborate_objects.specs.Left.{object_of, rows_within}
use Rattle.elaborate_objects.proofs.RowLemmas.{same_within, rows_at_place}
use Rattle.laws_design.proofs.Children.{in_instance, children_in, IsGiven, given_all}
use Rattle.laws_design.proofs.Enough.{enough_at_top}
use Rattle.laws_design.proofs.FaultlessItems.{all_at}
use Rattle.laws_design.proofs.NamedObjects.{row_found, child_is}

-- the rows of the module at a place
abbrev pub module_rows : tree.Model → ℕ → List Row
module_rows m place = rows_in (around m.modules place) (items_at m.modules place)

abbrev pub behind_top : tree.Model → List Object
behind_top m = rows_within (length m.modules) (rows_of m.modules) 0 (top_place m)

pub list_is : (m : tree.Model) → list_of m ≡ top_object m ∷ behind_top m
list_is m = ap (λ xs. top_object m ∷ xs) (same_within m.modules (length m.modules) 0 (top_place m))

module _ (m : tree.Model) (none : cycle_fault m ≡ None) (j : ℕ) (o : Object) (place : ℕ) (found : slice_get (list_of m) j ≡ Some o) (is : o.form ≡ form.Instance place) where
  in_rows : in_instance j (behind_top m) ≡ map (object_of j) (module_rows m place)
  in_rows =
      children_in (rows_of m.modules) (length m.modules) (top_object m) (top_place m) refl (enough_at_top m none (top_place m)) j o place (sym (ap (λ xs. slice_get xs j) (list_is m)) ∙ found) is
      ∙ ap (map (object_of j)) (rows_at_place m.modules place)

  -- what stands under a name in an instance
  pub child_of_model : (name : Name) → slice_get (list_of m) (child (drop 1 (list_of m)) j name) ≡ option_map (object_of j) (row_found name (module_rows m place))
  child_of_model name =
      subst (λ (xs : List Object). slice_get xs (child (drop 1 xs) j name) ≡ option_map (object_of j) (row_found name (module_rows m place))) (sym (list_is m))
      (child_is (top_object m) (behind_top m) j name (module_rows m place) in_rows)

  objects_one : (i : tree.Item) (f : Option ObjectForm) → map (object_of j) (row_if i f) ≡ object_if j i f
  objects_one i None = refl
  objects_one i (Some f) = refl

  map_append : {A B : Type 0} (f : A → B) (xs ys : List A) → map f (xs ++ ys) ≡ map f xs ++ map f ys
  map_append f [] ys = refl
  map_append f (x ∷ xs) ys = ap (λ zs. f x ∷ zs) (map_append f xs ys)

  objects_all : (a : Around) (is : List tree.Item) → map (object_of j) (rows_in a is) ≡ flat_map (λ i. object_if j i (object_form a i)) is
  objects_all a [] = refl
  objects_all a (i ∷ is) =
      map_append (object_of j) (row_if i (object_form a i)) (rows_in a is)
      ∙ ap (λ xs. xs ++ map (object_of j) (rows_in a is)) (objects_one i (object_form a i)) ∙ ap (λ xs. object_if j i (object_form a i) ++ xs) (objects_all a is)

  pub children_of_model : in_instance j (drop 1 (list_of m)) ≡ flat_map (λ i. object_if j i (object_form (around m.modules place) i)) (items_at m.modules place)
  children_of_model =
      ap (λ (xs : List Object). in_instance j (drop 1 xs)) (list_is m) ∙ in_rows ∙ objects_all (around m.modules place) (items_at m.modules place)

-- each object but the top instance comes from a row of the module of the instance that it is in
pub record ComesFrom (m : tree.Model) (o : Object) : Type 0 where
  pub place : ℕ
  pub row : Row
  pub outer : Object
  pub there : slice_get (list_of m) o.parent ≡ Some outer
  pub is_instance : outer.form ≡ form.Instance place
  pub listed : Contains (module_rows m place) row
  pub is : o ≡ object_of o.parent row

pub comes_from : (m : tree.Model) (k : ℕ) (o : Object) → slice_get (list_of m) (suc k) ≡ Some o → ComesFrom m o
comes_from m k o found =
    let g = all_at (IsGiven (rows_of m.modules) (top_object m ∷ behind_top m)) (behind_top m) k o (given_all (rows_of m.modules) (length m.modules) (top_object m) (top_place m) refl) (sym (ap (λ xs. slice_get xs (suc k)) (list_is m)) ∙ found) in
    record {
      place = g.place;
      row = g.row;
      outer = g.around.0;
      there = ap (λ xs. slice_get xs o.parent) (list_is m) ∙ g.around.1;
      is_instance = g.around.2;
      listed = subst (λ (rs : List Row). Contains rs g.row) (rows_at_place m.modules g.place) g.listed;
      is = g.is;
    }
