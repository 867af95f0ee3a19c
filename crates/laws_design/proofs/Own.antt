-- The objects that are in an instance itself.
use Rattle.std.proofs.Common.{◌≡◌, ◌<◌, ◌≤◌, ◌+◌, ℕ, zero, suc, true, false, List, [], ◌∷◌, ◌++◌, length, Option, Some, None, refl, sym, ap, ◌∙◌, arith}
use Rattle.std.specs.Prelude.{⊤, ◌==◌, filter}
use Rattle.std.specs.List.{flat_map}
use Rattle.std.proofs.lemmas.Bool.Decides.{nat_tests}
use Rattle.std.proofs.lemmas.List.{append-nil}
use Rattle.std.proofs.lemmas.List.Elements.{filter-append}
use Rattle.elaborate_objects.specs.ModelTree.Tree as tree
use Rattle.elaborate_objects.specs.FlatDesign.declared.objects.Object.{Object}
use Rattle.elaborate_objects.specs.FlatDesign.declared.objects.ObjectForm.{ObjectForm}
use Rattle.elaborate_objects.specs.DesignRules.Forms.{Around, around, items_at, module_place, object_form}
use Rattle.elaborate_objects.specs.DesignRules.Listing.{Inside, object_if, inside_item, of_item, of_items, inside_within, inside}
use Rattle.elaborate_objects.specs.DesignRules.ObjectFaults.{cycle_fault}
use Rattle.laws_design.specs.Declared.{is_in, declared_in}
use Rattle.laws_design.proofs.Deep.{none_left_out}

-- objects that are in instances from this number on
abbrev From : ℕ → List Object → Type 0
From b [] = ⊤
From b (o ∷ os) = (b ≤ o.parent) × From b os

from_append : (b : ℕ) (xs ys : List Object) → From b xs → From b ys → From b (xs ++ ys)
from_append b [] ys h k = k
from_append b (x ∷ xs) ys h k = (h.0, from_append b xs ys h.1 k)

from_less : (b c : ℕ) (os : List Object) → b ≤ c → From c os → From b os
from_less b c [] le h = tt
from_less b c (o ∷ os) le h = let here = h.0 in (omega (arith, le, here), from_less b c os le h.1)

from_one : (b parent : ℕ) (i : tree.Item) (o : Option ObjectForm) → b ≤ parent → From b (object_if parent i o)
from_one b parent i None le = tt
from_one b parent i (Some f) le = (le, tt)

module _ (inner : Inside) (all : (at place : ℕ) → From at (inner at place)) (ms : List tree.Module) (at : ℕ) where
  from_inner : (i : tree.Item) → From at (inside_item inner ms at i)
  from_inner (tree.signal line s) = tt
  from_inner (tree.resolved line name) = tt
  from_inner (tree.clock line c) = tt
  from_inner (tree.fifo line t name size) = tt
  from_inner (tree.plain line kind name) = tt
  from_inner (tree.semaphore line name c) = tt
  from_inner (tree.memory line name size) = tt
  from_inner (tree.variable line t name c) = tt
  from_inner (tree.port line p name size) = tt
  from_inner (tree.export line p name) = tt
  from_inner (tree.initiator line name role) = tt
  from_inner (tree.target line name role) = tt
  from_inner (tree.instance line kind name) = all at (module_place ms kind)
  from_inner (tree.bind line left right) = tt
  from_inner (tree.function line f) = tt
  from_inner (tree.process line p) = tt

from_items : (inner : Inside) → ((at place : ℕ) → From at (inner at place)) → (a : Around) (b parent at : ℕ) (is : List tree.Item) → b ≤ parent → b ≤ at → From b (of_items inner a parent at is)
from_items inner all a b parent at [] le low = tt
from_items inner all a b parent at (i ∷ is) le low =
    let one = object_if parent i (object_form a i) in
    let below = inside_item inner a.modules at i in
    let next = at + length (of_item inner a parent at i) in
    from_append b (of_item inner a parent at i) (of_items inner a parent next is)
    (from_append b one below (from_one b parent i (object_form a i) le) (from_less b at below low (from_inner inner all a.modules at i)))
    (from_items inner all a b parent next is le (omega (arith, low)))

from_within : (ms : List tree.Module) (n at place : ℕ) → From at (inside_within n ms at place)
unfolding inside_within
from_within ms zero at place = tt
from_within ms (suc n) at place = from_items (inside_within n ms) (from_within ms n) (around ms place) at at (at + 1) (items_at ms place) (omega arith) (omega arith)

-- none of these is in an instance before
none_in : (p b : ℕ) (os : List Object) → p < b → From b os → filter (is_in p) os ≡ []
none_in p b [] lt h = refl
none_in p b (o ∷ os) lt h =
    let here = h.0 in
    let differs : (o.parent == p) ≡ false = grind (arith, nat_tests, lt, here) in
    rw differs (none_in p b os lt h.1)

same : (n : ℕ) → (n == n) ≡ true
same n = grind (arith, nat_tests)

one_in : (p : ℕ) (i : tree.Item) (o : Option ObjectForm) → filter (is_in p) (object_if p i o) ≡ object_if p i o
one_in p i None = refl
one_in p i (Some f) = rw (same p) refl

items_in : (inner : Inside) → ((at place : ℕ) → From at (inner at place)) → (a : Around) (p at : ℕ) (is : List tree.Item) → p < at → filter (is_in p) (of_items inner a p at is) ≡ flat_map (declared_in a p) is
items_in inner all a p at [] lt = refl
items_in inner all a p at (i ∷ is) lt =
    let one = object_if p i (object_form a i) in
    let below = inside_item inner a.modules at i in
    let next = at + length (of_item inner a p at i) in
    let rest = of_items inner a p next is in
    filter-append (is_in p) (of_item inner a p at i) rest
    ∙ ap (λ (os : List Object). os ++ filter (is_in p) rest)
    (filter-append (is_in p) one below
    ∙ ap (λ (os : List Object). filter (is_in p) one ++ os) (none_in p at below lt (from_inner inner all a.modules at i))
    ∙ append-nil (filter (is_in p) one)
    ∙ one_in p i (object_form a i))
    ∙ ap (λ (os : List Object). one ++ os) (items_in inner all a p next is (omega (arith, lt)))

pub own_declared : (m : tree.Model) → cycle_fault m ≡ None → (at place : ℕ) → filter (is_in at) (inside m.modules at place) ≡ flat_map (declared_in (around m.modules place) at) (items_at m.modules place)
unfolding inside_within
own_declared m clean at place =
    let ms = m.modules in
    ap (filter (is_in at)) (sym (none_left_out m clean (suc (length ms)) (omega arith) at place))
    ∙ items_in (inside_within (length ms) ms) (from_within ms (length ms)) (around ms place) at (at + 1) (items_at ms place) (omega arith)
