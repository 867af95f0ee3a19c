-- The sizes of the ports among the objects of a model.
use Rattle.std.proofs.Common.{◌≡◌, ◌≤◌, ℕ, zero, suc, ◌+◌, Some, None, List, [], ◌∷◌, ◌++◌, length, subst, arith}
use Rattle.std.specs.Prelude.{true, slice_get}
use Rattle.std.proofs.lemmas.Bool.Decides.{nat_tests}
use Rattle.elaborate_objects.specs.ModelTree.Tree as tree
use Rattle.elaborate_objects.specs.ModelTree.declared.items.PlainKind.TheVariants as plain
use Rattle.elaborate_objects.specs.ModelTree.declared.items.InitiatorRole.TheVariants as initiator
use Rattle.elaborate_objects.specs.ModelTree.declared.items.TargetRole.TheVariants as target
use Rattle.elaborate_objects.specs.FlatDesign.declared.objects.Object.{Object}
use Rattle.elaborate_objects.specs.ModelRules.Items.{is_port_size}
use Rattle.elaborate_objects.specs.ModelRules.Passes.{first_fault}
use Rattle.elaborate_objects.specs.ModelRules.Meanings.{port_size}
use Rattle.elaborate_objects.specs.DesignRules.Forms.{Around, around, items_at, module_place}
use Rattle.elaborate_objects.specs.DesignRules.Listing.{Inside, of_item, of_items, inside_within, list_of, objects_of, top_place}
use Rattle.elaborate_objects.specs.DesignRules.Objects.{object_at}
use Rattle.elaborate_objects.specs.DesignRules.Formed.{HasSize}
use Rattle.laws_design.specs.Sizes.{IsSized, AreSized, ModulesAreSized, HaveSizes}
use Rattle.laws_design.proofs.SizedItems.{model_sized}

sizes_append : (xs ys : List Object) → HaveSizes xs → HaveSizes ys → HaveSizes (xs ++ ys)
sizes_append [] ys h k = k
sizes_append (x ∷ xs) ys h k = (h.0, sizes_append xs ys h.1 k)

in_range : (n : ℕ) → is_port_size n ≡ true → (1 ≤ n) × (n ≤ 64)
in_range n h = (grind (arith, nat_tests, h), grind (arith, nat_tests, h))

items_place : (ms : List tree.Module) (k : ℕ) → ModulesAreSized ms → AreSized (items_at ms k)
items_place [] k h = tt
items_place (m ∷ ms) zero h = h.0
items_place (m ∷ ms) (suc k) h = items_place ms k h.1

module _ (inside : Inside) (all : (at place : ℕ) → HaveSizes (inside at place)) (a : Around) (parent : ℕ) where
  of_one : (at : ℕ) (i : tree.Item) → IsSized i → HaveSizes (of_item inside a parent at i)
  of_one at (tree.signal line s) h = (tt, tt)
  of_one at (tree.resolved line name) h = (tt, tt)
  of_one at (tree.clock line c) h = (tt, tt)
  of_one at (tree.fifo line t name size) h = (tt, tt)
  of_one at (tree.plain line plain.Mutex name) h = (tt, tt)
  of_one at (tree.plain line plain.Event name) h = (tt, tt)
  of_one at (tree.plain line plain.Keeper name) h = (tt, tt)
  of_one at (tree.semaphore line name c) h = (tt, tt)
  of_one at (tree.memory line name size) h = (tt, tt)
  of_one at (tree.variable line t name c) h = (tt, tt)
  of_one at (tree.port line i name size) h = (in_range (port_size size) h, tt)
  of_one at (tree.export line i name) h = (tt, tt)
  of_one at (tree.initiator line name initiator.Pass) h = (tt, tt)
  of_one at (tree.initiator line name (initiator.Own backward)) h = (tt, tt)
  of_one at (tree.target line name target.Pass) h = (tt, tt)
  of_one at (tree.target line name (target.Own blocking forward)) h = (tt, tt)
  of_one at (tree.instance line kind name) h = (tt, all at (module_place a.modules kind))
  of_one at (tree.bind line left right) h = tt
  of_one at (tree.function line f) h = tt
  of_one at (tree.process line p) h = (tt, tt)

  of_all : (at : ℕ) (is : List tree.Item) → AreSized is → HaveSizes (of_items inside a parent at is)
  of_all at [] h = tt
  of_all at (i ∷ is) h =
      let next = at + length (of_item inside a parent at i) in
      sizes_append (of_item inside a parent at i) (of_items inside a parent next is) (of_one at i h.0) (of_all next is h.1)

within_sized : (ms : List tree.Module) → ModulesAreSized ms → (n at place : ℕ) → HaveSizes (inside_within n ms at place)
unfolding inside_within
within_sized ms h zero at place = tt
within_sized ms h (suc n) at place = of_all (inside_within n ms) (within_sized ms h n) (around ms place) at (at + 1) (items_at ms place) (items_place ms place h)

sized_at : (os : List Object) → HaveSizes os → (i : ℕ) (o : Object) → slice_get os i ≡ Some o → HasSize o.form
sized_at [] h i o at = cc
sized_at (x ∷ os) h zero o at = let e : x ≡ o = cc in subst (λ (y : Object). HasSize y.form) e h.0
sized_at (x ∷ os) h (suc i) o at = sized_at os h.1 i o at

pub objects_sized : (m : tree.Model) → first_fault m ≡ None → (i : ℕ) (o : Object) → object_at (objects_of m) i ≡ Some o → HasSize o.form
objects_sized m h i o at =
    sized_at (list_of m) (tt, within_sized m.modules (model_sized m h) (length m.modules) 0 (top_place m)) i o at
