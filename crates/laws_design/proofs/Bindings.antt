-- The bindings of a model without a fault have forms, so that its objects are formed.
use Rattle.std.proofs.Common.{◌≡◌, ℕ, zero, suc, List, [], ◌∷◌, length, None, refl}
use Rattle.std.specs.Prelude.{All, Contains}
use Rattle.std.proofs.lemmas.List.Elements.{All-nil, All-cons, All-append}
use Rattle.elaborate_objects.specs.ModelTree.Tree as tree
use Rattle.elaborate_objects.specs.ModelTree.declared.types.End.{End}
use Rattle.elaborate_objects.specs.FlatDesign.declared.objects.ObjectForm.TheVariants as form
use Rattle.elaborate_objects.specs.FlatDesign.declared.objects.Binding.{Binding}
use Rattle.elaborate_objects.specs.ModelRules.Scopes.{item_scope}
use Rattle.elaborate_objects.specs.ModelRules.declared.meanings.Meaning.TheVariants as meaning
use Rattle.elaborate_objects.specs.ModelRules.Sites as part
use Rattle.elaborate_objects.specs.ModelRules.Sites.{site}
use Rattle.elaborate_objects.specs.ModelRules.Items.{reached, last_name}
use Rattle.elaborate_objects.specs.ModelRules.Passes.{first_fault}
use Rattle.laws_code.proofs.FaultlessConstructs.{keeps}
use Rattle.laws_code.proofs.Typed.{head_none}
use Rattle.elaborate_objects.specs.DesignRules.Forms.{Name, around, items_at, module_place}
use Rattle.elaborate_objects.specs.DesignRules.Listing.{InsideBinds, child, end_of, binds_of_item, binds_of_items, binds_within, objects_of, top_object, top_place}
use Rattle.elaborate_objects.specs.DesignRules.ObjectFaults.{cycle_fault, limit_fault}
use Rattle.elaborate_objects.specs.DesignRules.Formed.{HasForm, AreFormed}
use Rattle.laws_design.proofs.FewObjects.{objects_few}
use Rattle.laws_design.proofs.SizedObjects.{objects_sized}
use Rattle.laws_design.proofs.Children.{head_in, tail_in}
use Rattle.elaborate_objects.proofs.Parents.{are_inside}
use Rattle.laws_design.proofs.Firsts.{alone}
use Rattle.laws_design.proofs.BoundEnds.{below, IsInstance, IsInside, both_ends, kept_at, distinct_at, inner, end_at}

module _ (m : tree.Model) (clean : first_fault m ≡ None) (acyclic : cycle_fault m ≡ None) where
  abbrev Formed : List Binding → Type 0
  Formed bs = All (HasForm (objects_of m)) bs

  module _ (j place : ℕ) (i : IsInstance m j place) where
    bound : (line : ℕ) (left right : End) → Contains (items_at m.modules place) (tree.bind line left right)
        → HasForm (objects_of m) (record { line = line; instance = j; left = end_of (below m) j left; right = end_of (below m) j right })
    bound line left right at =
        let s = item_scope m.modules (items_at m.modules place) [] in
        let x = tree.bind line left right in
        let k = kept_at m clean place x at in
        let two = head_none (site s left.line (part.of_end left)) (site s right.line (part.of_end right) ∷ []) k.parts in
        let l = keeps (site s left.line (part.of_end left)) two.0 in
        let r = keeps (site s right.line (part.of_end right)) (head_none (site s right.line (part.of_end right)) [] two.1).0 in
        let e =
        both_ends m j (end_of (below m) j left) (end_of (below m) j right) (reached s right.name right.member) (end_at m clean acyclic j place i [] right r.known r.kind)
        (last_name left.name left.member) (last_name right.name right.member) (reached s left.name left.member) (end_at m clean acyclic j place i [] left l.known l.kind) (keeps (site s line (part.of_item k.before x)) k.own).binding in
        record { left = e.left; right = e.right; left_found = e.left_found; right_found = e.right_found; ends = e.ends }

    inside_it : (line : ℕ) (kind name : Name) → Contains (items_at m.modules place) (tree.instance line kind name) → IsInside m j (child (below m) j name) (module_place m.modules kind)
    inside_it line kind name at =
        inner m clean acyclic j place i name kind
        (alone (tree.instance line kind name) (record { name = name; meaning = meaning.Instance }) refl (around m.modules place) (form.Instance (module_place m.modules kind)) refl (items_at m.modules place)
        (distinct_at m clean place) at)

    module _ (deep : InsideBinds) (formed : (q p : ℕ) → IsInstance m q p → Formed (deep q p)) where
      one : (x : tree.Item) → Contains (items_at m.modules place) x → Formed (binds_of_item deep m.modules (below m) j x)
      one (tree.instance line kind name) at = formed (child (below m) j name) (module_place m.modules kind) (inside_it line kind name at).instance
      one (tree.bind line left right) at = All-cons (HasForm (objects_of m)) _ [] (bound line left right at) (All-nil (HasForm (objects_of m)))
      one other at = All-nil (HasForm (objects_of m))

      along : (some : List tree.Item) → ((x : tree.Item) → Contains some x → Contains (items_at m.modules place) x) → Formed (binds_of_items deep m.modules (below m) j some)
      along [] h = All-nil (HasForm (objects_of m))
      along (x ∷ some) h =
          All-append (HasForm (objects_of m)) (binds_of_item deep m.modules (below m) j x) (binds_of_items deep m.modules (below m) j some) (one x (h x (head_in x some)))
          (along some (λ y at. h y (tail_in y x some at)))

  within : (n j place : ℕ) → IsInstance m j place → Formed (binds_within n m.modules (below m) j place)
  unfolding binds_within
  within zero j place i = All-nil (HasForm (objects_of m))
  within (suc n) j place i = along j place i (binds_within n m.modules (below m)) (within n) (items_at m.modules place) (λ x at. at)

  pub all_formed : All (HasForm (objects_of m)) (objects_of m).binds
  all_formed = within (length m.modules) 0 (top_place m) (record { object = top_object m; found = refl; is_instance = refl })

  pub are_formed : limit_fault m ≡ None → AreFormed (objects_of m)
  are_formed limits = record { few = objects_few m limits; parents = are_inside m; sizes = objects_sized m clean; bindings = all_formed }
