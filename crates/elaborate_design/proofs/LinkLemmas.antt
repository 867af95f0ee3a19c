-- The bindings by the links of the modules are those by their items.
use Rattle.std.proofs.Common.{◌≡◌, ℕ, zero, suc, List, [], ◌∷◌, ◌++◌, length, drop, map, refl, sym, ap, ◌∙◌}
use Rattle.std.specs.List.{flat_map}
use Rattle.std.proofs.lemmas.List.{append-nil}
use Rattle.std.proofs.lemmas.Grind.{flat_map-append}
use Rattle.elaborate_objects.specs.ModelTree.Tree as tree
use Rattle.elaborate_objects.specs.FlatDesign.declared.objects.Object.{Object}
use Rattle.elaborate_objects.specs.DesignRules.Forms.{items_at, module_place}
use Rattle.elaborate_objects.specs.DesignRules.Listing.{InsideBinds, child, binds_of_item, binds_of_items, binds_within, binds_of, list_of, top_place}
use Rattle.elaborate_design.specs.Links.{Links, links_by, links_of, links_at}
use Rattle.elaborate_design.specs.Left.{binds_by, links_within}

module _ (i j : InsideBinds) (same : (parent place : ℕ) → i parent place ≡ j parent place) (ms : List tree.Module) (os : List Object) (parent : ℕ) where
  of_one : (x : tree.Item) → binds_of_item i ms os parent x ≡ flat_map (binds_by j os parent) (links_by ms x)
  of_one (tree.signal line s) = refl
  of_one (tree.resolved line name) = refl
  of_one (tree.clock line c) = refl
  of_one (tree.fifo line t name size) = refl
  of_one (tree.plain line kind name) = refl
  of_one (tree.semaphore line name c) = refl
  of_one (tree.memory line name size) = refl
  of_one (tree.variable line t name c) = refl
  of_one (tree.port line p name size) = refl
  of_one (tree.export line p name) = refl
  of_one (tree.initiator line name role) = refl
  of_one (tree.target line name role) = refl
  of_one (tree.instance line kind name) =
      let c = child os parent name in
      let p = module_place ms kind in
      same c p ∙ sym (append-nil (j c p))
  of_one (tree.bind line left right) = refl
  of_one (tree.function line f) = refl
  of_one (tree.process line p) = refl

  same_items : (is : List tree.Item) → binds_of_items i ms os parent is ≡ flat_map (binds_by j os parent) (flat_map (links_by ms) is)
  same_items [] = refl
  same_items (x ∷ is) =
      ap (λ bs. bs ++ binds_of_items i ms os parent is) (of_one x)
      ∙ ap (λ bs. flat_map (binds_by j os parent) (links_by ms x) ++ bs) (same_items is)
      ∙ sym (flat_map-append (binds_by j os parent) (links_by ms x) (flat_map (links_by ms) is))

-- the links of a module by its place
at_place : (ms more : List tree.Module) (k : ℕ) → links_at (map (λ (m : tree.Module). flat_map (links_by ms) m.items) more) k ≡ flat_map (links_by ms) (items_at more k)
at_place ms [] k = refl
at_place ms (m ∷ more) zero = refl
at_place ms (m ∷ more) (suc k) = at_place ms more k

same_within : (ms : List tree.Module) (os : List Object) (n parent place : ℕ) → binds_within n ms os parent place ≡ links_within n (links_of ms) os parent place
unfolding binds_within links_within
same_within ms os zero parent place = refl
same_within ms os (suc n) parent place =
    same_items (binds_within n ms os) (links_within n (links_of ms) os) (same_within ms os n) ms os parent (items_at ms place)
    ∙ ap (flat_map (binds_by (links_within n (links_of ms) os) os parent)) (sym (at_place ms ms place))

-- all of them
pub list_is : (m : tree.Model) (os : List Object) (place n : ℕ) (t : Links) → os ≡ list_of m → place ≡ top_place m → n ≡ length m.modules → t ≡ links_of m.modules
    → links_within n t (drop 1 os) 0 place ≡ binds_of m
list_is m os place n t objects at many links =
    ap (λ xs. links_within n t (drop 1 xs) 0 place) objects
    ∙ ap (links_within n t (drop 1 (list_of m)) 0) at
    ∙ ap (λ k. links_within k t (drop 1 (list_of m)) 0 (top_place m)) many
    ∙ ap (λ u. links_within (length m.modules) u (drop 1 (list_of m)) 0 (top_place m)) links
    ∙ sym (same_within m.modules (drop 1 (list_of m)) (length m.modules) 0 (top_place m))
