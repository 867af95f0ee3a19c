-- Each object of a model is in an instance before it.
use Rattle.std.proofs.Common.{◌≡◌, ◌<◌, ℕ, zero, suc, ◌+◌, List, [], ◌∷◌, ◌++◌, length, refl, sym, ap, subst, inl, inr, arith}
use Rattle.std.specs.Prelude.{⊤, Option, Some, None, slice_get}
use Rattle.elaborate_objects.specs.FlatDesign.declared.objects.Object.{Object}
use Rattle.elaborate_objects.specs.FlatDesign.declared.objects.ObjectForm.{ObjectForm}
use Rattle.elaborate_objects.specs.FlatDesign.declared.design.Design.{Design}
use Rattle.elaborate_objects.specs.ModelTree.Tree as tree
use Rattle.elaborate_objects.specs.DesignRules.Forms.{Around, around, items_at, module_place, object_form}
use Rattle.elaborate_objects.specs.DesignRules.Listing.{Inside, object_if, of_item, of_items, inside_within, list_of, top_object, top_place}
use Rattle.elaborate_objects.specs.DesignRules.Designs.{IsDesignOf}
use Rattle.elaborate_objects.specs.Parents.{AreInside}

-- objects of which the first has this number
abbrev AllFrom : ℕ → List Object → Type 0
AllFrom at [] = ⊤
AllFrom at (o ∷ os) = (o.parent < at) × AllFrom (at + 1) os

from_append : (at : ℕ) (xs ys : List Object) → AllFrom at xs → AllFrom (at + length xs) ys → AllFrom at (xs ++ ys)
from_append at [] ys h k = let e : at + 0 ≡ at = omega arith in subst (λ n. AllFrom n ys) e k
from_append at (x ∷ xs) ys h k =
    let e : at + suc (length xs) ≡ at + 1 + length xs = omega arith in (h.0, from_append (at + 1) xs ys h.1 (subst (λ n. AllFrom n ys) e k))

module _ (inside : Inside) (all : (at place : ℕ) → AllFrom (at + 1) (inside at place)) (a : Around) (parent : ℕ) where
  alone : (at : ℕ) (i : tree.Item) (o : Option ObjectForm) → parent < at → AllFrom at (object_if parent i o ++ [])
  alone at i None h = tt
  alone at i (Some f) h = (h, tt)

  in_item : (at : ℕ) (i : tree.Item) → parent < at → AllFrom at (of_item inside a parent at i)
  in_item at (tree.signal line s) h = alone at (tree.signal line s) (object_form a (tree.signal line s)) h
  in_item at (tree.resolved line name) h = alone at (tree.resolved line name) (object_form a (tree.resolved line name)) h
  in_item at (tree.clock line c) h = alone at (tree.clock line c) (object_form a (tree.clock line c)) h
  in_item at (tree.fifo line t name size) h = alone at (tree.fifo line t name size) (object_form a (tree.fifo line t name size)) h
  in_item at (tree.plain line kind name) h = alone at (tree.plain line kind name) (object_form a (tree.plain line kind name)) h
  in_item at (tree.semaphore line name c) h = alone at (tree.semaphore line name c) (object_form a (tree.semaphore line name c)) h
  in_item at (tree.memory line name size) h = alone at (tree.memory line name size) (object_form a (tree.memory line name size)) h
  in_item at (tree.variable line t name c) h = alone at (tree.variable line t name c) (object_form a (tree.variable line t name c)) h
  in_item at (tree.port line i name size) h = alone at (tree.port line i name size) (object_form a (tree.port line i name size)) h
  in_item at (tree.export line i name) h = alone at (tree.export line i name) (object_form a (tree.export line i name)) h
  in_item at (tree.initiator line name role) h = alone at (tree.initiator line name role) (object_form a (tree.initiator line name role)) h
  in_item at (tree.target line name role) h = alone at (tree.target line name role) (object_form a (tree.target line name role)) h
  in_item at (tree.instance line kind name) h = (h, all at (module_place a.modules kind))
  in_item at (tree.bind line left right) h = tt
  in_item at (tree.function line f) h = tt
  in_item at (tree.process line p) h = alone at (tree.process line p) (object_form a (tree.process line p)) h

  in_items : (at : ℕ) (is : List tree.Item) → parent < at → AllFrom at (of_items inside a parent at is)
  in_items at [] h = tt
  in_items at (i ∷ is) h =
      let xs = of_item inside a parent at i in
      from_append at xs (of_items inside a parent (at + length xs) is) (in_item at i h) (in_items (at + length xs) is (omega (arith, h)))

from_within : (n : ℕ) (ms : List tree.Module) (at place : ℕ) → AllFrom (at + 1) (inside_within n ms at place)
unfolding inside_within
from_within zero ms at place = tt
from_within (suc n) ms at place = in_items (inside_within n ms) (from_within n ms) (around ms place) at (at + 1) (items_at ms place) (omega arith)

by_index : (at : ℕ) (os : List Object) → AllFrom at os → (i : ℕ) (o : Object) → slice_get os i ≡ Some o → o.parent < at + i
by_index at [] all i o h = cc
by_index at (x ∷ os) all zero o h = let e : x ≡ o = cc in subst (λ (y : Object). y.parent < at + 0) e (omega (arith, all.0))
by_index at (x ∷ os) all (suc i) o h = let rest = by_index (at + 1) os all.1 i o h in omega (arith, rest)

at_top : (x : Object) (os : List Object) → x.parent ≡ 0 → AllFrom 1 os → AreInside (x ∷ os)
at_top x os top all zero o h = let e : x ≡ o = cc in inr (refl, subst (λ (y : Object). y.parent ≡ 0) e top)
at_top x os top all (suc i) o h = let rest = by_index 1 os all i o h in inl (omega (arith, rest))

model_inside : (m : tree.Model) → AreInside (list_of m)
model_inside m =
    let one : 0 + 1 ≡ 1 = omega arith in
    at_top (top_object m) _ refl (subst (λ n. AllFrom n (inside_within (length m.modules) m.modules 0 (top_place m))) one (from_within (length m.modules) m.modules 0 (top_place m)))

pub inside_design : (m : tree.Model) (d : Design) → IsDesignOf m d → AreInside d.objects.list
inside_design m d h = subst AreInside (sym (ap (λ os. os.list) h.objects)) (model_inside m)
