-- What the ends of bindings stand for in an instance.
use Rattle.std.proofs.Common.{◌≡◌, ◌⊎◌, ◌<◌, ◌||◌, ℕ, Bool, true, false, not, List, [], drop, Option, Some, None, refl, sym, ap, ◌∙◌, subst, inl, inr, arith}
use Rattle.std.specs.Prelude.{⊤, slice_get, find, bytes_eq, is_some, option_map, option_and_then, Contains}
use Rattle.std.specs.List.{AllByRecursion, IsDistinct}
use Rattle.std.proofs.lemmas.List.Elements.{All-from_recursion, All-contains}
use Rattle.std.proofs.lemmas.List.Folds.{find_at}
use Rattle.elaborate_objects.specs.ModelTree.Tree as tree
use Rattle.elaborate_objects.specs.ModelTree.Lines.{item_line}
use Rattle.elaborate_objects.specs.ModelTree.declared.items.PlainKind.TheVariants as plain
use Rattle.elaborate_objects.specs.ModelTree.declared.types.Interface.TheVariants as interface
use Rattle.elaborate_objects.specs.ModelTree.declared.types.End.{End}
use Rattle.elaborate_objects.specs.FlatDesign.declared.objects.Object.{Object}
use Rattle.elaborate_objects.specs.FlatDesign.declared.objects.Objects.{Objects}
use Rattle.elaborate_objects.specs.FlatDesign.declared.objects.ObjectForm.{ObjectForm}
use Rattle.elaborate_objects.specs.FlatDesign.declared.objects.ObjectForm.TheVariants as form
use Rattle.elaborate_objects.specs.ModelRules.Meanings.{Declared, declaration, declarations}
use Rattle.elaborate_objects.specs.ModelRules.Scopes.{Scope, item_scope, is_declared, is_known, meaning_of, module_named}
use Rattle.elaborate_objects.specs.ModelRules.declared.meanings.Meaning.{Meaning}
use Rattle.elaborate_objects.specs.ModelRules.declared.meanings.Meaning.TheVariants as meaning
use Rattle.elaborate_objects.specs.ModelRules.Sites as part
use Rattle.elaborate_objects.specs.ModelRules.Sites.{site, around_item}
use Rattle.elaborate_objects.specs.ModelRules.Names.{name_if, is_instance, is_no_instance, instance_of, is_module_name, child_module, declared_in, lacks, unknown_end, wrong_end}
use Rattle.elaborate_objects.specs.ModelRules.Items.{own_if, of_child_if, reached, left_own, left_child, left_of, leads, leads_if_known, bound_wrong, is_own_channel, is_own_port, is_own_pass_initiator}
use Rattle.elaborate_objects.specs.ModelRules.declared.ends.EndMeaning.{EndMeaning}
use Rattle.elaborate_objects.specs.ModelRules.declared.ends.EndMeaning.TheVariants as end_meaning
use Rattle.elaborate_objects.specs.ModelRules.declared.ends.LeftEnd.{LeftEnd}
use Rattle.elaborate_objects.specs.ModelRules.declared.ends.LeftEnd.TheVariants as left_end
use Rattle.elaborate_objects.specs.ModelRules.Passes.{first_fault}
use Rattle.elaborate_objects.specs.ModelRules.Distinct.{names_of, HasDistinctNames}
use Rattle.elaborate_objects.proofs.ModelRules.Firsts.{or_none}
use Rattle.laws_code.proofs.FaultlessConstructs.{keeps}
use Rattle.laws_code.proofs.Typed.{same_false, some_of, not_named}
use Rattle.elaborate_objects.specs.DesignRules.Forms.{Name, Around, around, items_at, items_in, is_named, module_place, object_form}
use Rattle.elaborate_objects.specs.DesignRules.Listing.{child, end_in, end_of, list_of, objects_of}
use Rattle.elaborate_objects.specs.DesignRules.ObjectFaults.{cycle_fault}
use Rattle.elaborate_objects.specs.Rows.{Row}
use Rattle.elaborate_objects.specs.Left.{object_of}
use Rattle.elaborate_objects.specs.DesignRules.Objects.{object_at, parent_of, parent_at}
use Rattle.elaborate_objects.specs.DesignRules.Formed.{IsOwn, IsOfChild, IsRightOfPort, IsRightOfExport, IsRightOfInitiator, IsRightOfTarget, AreEnds}
use Rattle.laws_design.proofs.Children.{same_some}
use Rattle.laws_design.proofs.FaultlessItems.{IsKept, ItemsKept, kept, names_differ, all_at}
use Rattle.laws_design.proofs.NamedObjects.{row_found}
use Rattle.laws_design.proofs.Models.{module_rows, child_of_model}
use Rattle.elaborate_objects.proofs.Parents.{are_inside}
use Rattle.laws_design.proofs.Roles.{OwnLeft, ChildLeft, Role, RoleIf, off, item_role}
use Rattle.laws_design.proofs.Firsts.{FormOf, Stands, first}

-- items that are instances
abbrev InstanceIf : Option Declared → tree.Item → Type 0
InstanceIf None i = ⊤
InstanceIf (Some y) i = is_instance y.meaning ≡ true → (line : ℕ) × (kind : Name) × (name : Name) × (i ≡ tree.instance line kind name)

instance_item : (i : tree.Item) → InstanceIf (declaration i) i
instance_item (tree.instance line kind name) = λ h. (line, kind, name, refl)
instance_item (tree.plain line plain.Mutex name) = off
instance_item (tree.plain line plain.Event name) = off
instance_item (tree.plain line plain.Keeper name) = off
instance_item (tree.port line (interface.In t) name size) = off
instance_item (tree.port line (interface.Out t) name size) = off
instance_item (tree.port line (interface.FifoIn t) name size) = off
instance_item (tree.port line (interface.FifoOut t) name size) = off
instance_item (tree.port line interface.Mutex name size) = off
instance_item (tree.port line interface.Semaphore name size) = off
instance_item (tree.bind line left right) = tt
instance_item other = off

either : (a b : Bool) → (a || b || false) ≡ true → (a ≡ true) ⊎ (b ≡ true)
either true b h = inl refl
either false true h = inr refl
either false false h = off h

or_false : (b : Bool) → (b || false) ≡ true → b ≡ true
or_false true h = refl
or_false false h = off h

abbrev meaning_if : Option Declared → Option Meaning
meaning_if o = option_map (λ (d : Declared). d.meaning) o

module _ (m : tree.Model) where
  abbrev os : Objects
  os = objects_of m

  abbrev pub below : List Object
  below = drop 1 (list_of m)

  -- an object is an instance of the module at a place
  pub record IsInstance (j place : ℕ) : Type 0 where
    pub object : Object
    pub found : slice_get (list_of m) j ≡ Some object
    pub is_instance : object.form ≡ form.Instance place

  -- one inside another
  pub record IsInside (j q place : ℕ) : Type 0 where
    pub instance : IsInstance q place
    pub after : j < q
    pub parent : parent_at os q ≡ j

  -- an object of an instance, by what its name is declared as: none of a function
  abbrev Under : ℕ → ℕ → Meaning → Type 0
  Under j c x = (x ≡ meaning.Function) ⊎ ((o : Object) × (object_at os c ≡ Some o) × IsOwn j o × Role x o.form)

  abbrev pub EndAt : ℕ → ℕ → EndMeaning → Type 0
  EndAt j c end_meaning.Unknown = ⊥
  EndAt j c (end_meaning.Own x) = Under j c x
  EndAt j c (end_meaning.OfChild x) = (q : ℕ) × (j < q) × (parent_at os q ≡ j) × Under q c x

  object_under : (j c : ℕ) (r : Option Row) (f : ObjectForm) → FormOf r ≡ Some f → slice_get (list_of m) c ≡ option_map (object_of j) r
      → (o : Object) × (slice_get (list_of m) c ≡ Some o) × (o.parent ≡ j) × (o.form ≡ f)
  object_under j c None f e there = cc
  object_under j c (Some r) f e there = (object_of j r, there, refl, same_some r.form f e)

  -- right ends
  abbrev RightFound : LeftEnd → ℕ → ℕ → Type 0
  RightFound left_end.Unknown j c = ⊤
  RightFound left_end.NoForm j c = ⊤
  RightFound left_end.PortOfChild j c = (o : Object) × (object_at os c ≡ Some o) × IsRightOfPort os j o o.form
  RightFound left_end.Export j c = (o : Object) × (object_at os c ≡ Some o) × IsRightOfExport os j o o.form
  RightFound left_end.InitiatorOfChild j c = (o : Object) × (object_at os c ≡ Some o) × IsRightOfInitiator os j o o.form
  RightFound left_end.PassTarget j c = (o : Object) × (object_at os c ≡ Some o) × IsRightOfTarget os j o o.form

  of_child : (j q : ℕ) (o : Object) → j < q → parent_at os q ≡ j → IsOwn q o → IsOfChild os j o
  of_child j q o after parent own = (subst (λ k. j < k) (sym own) after, subst (λ k. parent_at os k ≡ j) (sym own) parent)

  -- a function is no right end
  no_own : {A : Type 0} (l : LeftEnd) (x : Meaning) → x ≡ meaning.Function → leads l (end_meaning.Own meaning.Function) ≡ false → leads l (end_meaning.Own x) ≡ true → A
  no_own l x f none h = off (sym none ∙ subst (λ z. leads l (end_meaning.Own z) ≡ true) f h)

  no_child : {A : Type 0} (l : LeftEnd) (x : Meaning) → x ≡ meaning.Function → leads l (end_meaning.OfChild meaning.Function) ≡ false → leads l (end_meaning.OfChild x) ≡ true → A
  no_child l x f none h = off (sym none ∙ subst (λ z. leads l (end_meaning.OfChild z) ≡ true) f h)

  right_found : (l : LeftEnd) (r : EndMeaning) (j c : ℕ) → EndAt j c r → leads_if_known l r ≡ true → RightFound l j c
  right_found left_end.Unknown r j c e h = tt
  right_found left_end.NoForm r j c e h = tt
  right_found l end_meaning.Unknown j c e h = absurd e
  right_found left_end.PortOfChild (end_meaning.Own x) j c (inl f) h = no_own left_end.PortOfChild x f refl h
  right_found left_end.PortOfChild (end_meaning.Own x) j c (inr w) h = (
    w.0,
    w.1,
    elim (either (is_own_channel (end_meaning.Own x)) (is_own_port (end_meaning.Own x)) h) [
      | inl k ↦ (w.3.channel k os j w.0 w.2).0
      | inr k ↦ let p = w.3.port k in subst (IsRightOfPort os j w.0) (sym p.3) w.2
    ],
  )
  right_found left_end.PortOfChild (end_meaning.OfChild x) j c (q, after, parent, inl f) h = no_child left_end.PortOfChild x f refl h
  right_found left_end.PortOfChild (end_meaning.OfChild x) j c (q, after, parent, inr w) h = let p = w.3.export h in (w.0, w.1, subst (IsRightOfPort os j w.0) (sym p.1) (of_child j q w.0 after parent w.2))
  right_found left_end.Export (end_meaning.Own x) j c (inl f) h = no_own left_end.Export x f refl h
  right_found left_end.Export (end_meaning.Own x) j c (inr w) h = (w.0, w.1, (w.3.channel (or_false (is_own_channel (end_meaning.Own x)) h) os j w.0 w.2).1)
  right_found left_end.Export (end_meaning.OfChild x) j c (q, after, parent, inl f) h = no_child left_end.Export x f refl h
  right_found left_end.Export (end_meaning.OfChild x) j c (q, after, parent, inr w) h = let p = w.3.export h in (w.0, w.1, subst (IsRightOfExport os j w.0) (sym p.1) (of_child j q w.0 after parent w.2))
  right_found left_end.InitiatorOfChild (end_meaning.Own x) j c (inl f) h = no_own left_end.InitiatorOfChild x f refl h
  right_found left_end.InitiatorOfChild (end_meaning.Own x) j c (inr w) h =
      let p = w.3.initiator (or_false (is_own_pass_initiator (end_meaning.Own x)) h) in (w.0, w.1, subst (IsRightOfInitiator os j w.0) (sym p.1) (refl, w.2))
  right_found left_end.InitiatorOfChild (end_meaning.OfChild x) j c (q, after, parent, inl f) h = no_child left_end.InitiatorOfChild x f refl h
  right_found left_end.InitiatorOfChild (end_meaning.OfChild x) j c (q, after, parent, inr w) h = let p = w.3.target h in (w.0, w.1, subst (IsRightOfInitiator os j w.0) (sym p.3) (of_child j q w.0 after parent w.2))
  right_found left_end.PassTarget (end_meaning.Own x) j c e h = off h
  right_found left_end.PassTarget (end_meaning.OfChild x) j c (q, after, parent, inl f) h = no_child left_end.PassTarget x f refl h
  right_found left_end.PassTarget (end_meaning.OfChild x) j c (q, after, parent, inr w) h = let p = w.3.target h in (w.0, w.1, subst (IsRightOfTarget os j w.0) (sym p.3) (of_child j q w.0 after parent w.2))

  -- both ends
  pub record Ends (j left_place right_place : ℕ) : Type 0 where
    pub left : Object
    pub right : Object
    pub left_found : object_at os left_place ≡ Some left
    pub right_found : object_at os right_place ≡ Some right
    pub ends : AreEnds os j right left left.form

  module _ (j a b : ℕ) (r : EndMeaning) (right : EndAt j b r) (left_name right_name : Name) where
    found : (l : LeftEnd) → name_if (not (leads_if_known l r)) right_name ≡ None → RightFound l j b
    found l h = right_found l r j b right (same_false (leads_if_known l r) (not_named (not (leads_if_known l r)) right_name h))

    own_ends : (l : LeftEnd) (o : Object) → object_at os a ≡ Some o → IsOwn j o → OwnLeft l o.form → bound_wrong l r left_name right_name ≡ None → Ends j a b
    own_ends left_end.Unknown o at own e h = absurd e
    own_ends left_end.NoForm o at own e h = cc
    own_ends left_end.PortOfChild o at own e h = absurd e
    own_ends left_end.Export o at own e h =
        let f = found left_end.Export h in record { left = o; right = f.0; left_found = at; right_found = f.1; ends = subst (AreEnds os j f.0 o) (sym e.1) (own, f.2) }
    own_ends left_end.InitiatorOfChild o at own e h = absurd e
    own_ends left_end.PassTarget o at own e h =
        let f = found left_end.PassTarget h in record { left = o; right = f.0; left_found = at; right_found = f.1; ends = subst (AreEnds os j f.0 o) (sym e.2) (refl, own, f.2) }

    child_ends : (l : LeftEnd) (o : Object) → object_at os a ≡ Some o → IsOfChild os j o → ChildLeft l o.form → bound_wrong l r left_name right_name ≡ None → Ends j a b
    child_ends left_end.Unknown o at inner e h = absurd e
    child_ends left_end.NoForm o at inner e h = cc
    child_ends left_end.PortOfChild o at inner e h =
        let f = found left_end.PortOfChild h in record { left = o; right = f.0; left_found = at; right_found = f.1; ends = subst (AreEnds os j f.0 o) (sym e.3) (inner, f.2) }
    child_ends left_end.Export o at inner e h = absurd e
    child_ends left_end.InitiatorOfChild o at inner e h =
        let f = found left_end.InitiatorOfChild h in record { left = o; right = f.0; left_found = at; right_found = f.1; ends = subst (AreEnds os j f.0 o) (sym e.2) (inner, f.2) }
    child_ends left_end.PassTarget o at inner e h = absurd e

    pub both_ends : (l : EndMeaning) → EndAt j a l → bound_wrong (left_of l) r left_name right_name ≡ None → Ends j a b
    both_ends end_meaning.Unknown e h = absurd e
    both_ends (end_meaning.Own x) (inl f) h = let no : Some left_name ≡ None = subst (λ z. bound_wrong (left_own z) r left_name right_name ≡ None) f h in cc
    both_ends (end_meaning.Own x) (inr w) h = own_ends (left_own x) w.0 w.1 w.2 w.3.own h
    both_ends (end_meaning.OfChild x) (q, after, parent, inl f) h = let no : Some left_name ≡ None = subst (λ z. bound_wrong (left_child z) r left_name right_name ≡ None) f h in cc
    both_ends (end_meaning.OfChild x) (q, after, parent, inr w) h = child_ends (left_child x) w.0 w.1 (of_child j q w.0 after parent w.2) w.3.child h

module _ (m : tree.Model) (clean : first_fault m ≡ None) where
  -- the items of the module at a place
  items_kept : (place : ℕ) (o : Option tree.Module) → slice_get m.modules place ≡ o → AllByRecursion (IsKept m.modules (items_in o)) (items_in o)
  items_kept place None e = tt
  items_kept place (Some x) e = all_at (ItemsKept m.modules) m.modules place x (kept m clean) e

  pub kept_at : (place : ℕ) (i : tree.Item) → Contains (items_at m.modules place) i → IsKept m.modules (items_at m.modules place) i
  kept_at place i at =
      let is = items_at m.modules place in
      All-contains (IsKept m.modules is) is i (All-from_recursion (IsKept m.modules is) is (items_kept place (slice_get m.modules place) refl)) at

  no_names : IsDistinct bytes_eq []
  unfolding IsDistinct
  no_names = tt

  distinct_in : (place : ℕ) (o : Option tree.Module) → slice_get m.modules place ≡ o → IsDistinct bytes_eq (names_of (items_in o))
  distinct_in place None e = no_names
  distinct_in place (Some x) e = all_at _ m.modules place x (HasDistinctNames.items (names_differ m clean)) e

  pub distinct_at : (place : ℕ) → IsDistinct bytes_eq (names_of (items_at m.modules place))
  distinct_at place = distinct_in place (slice_get m.modules place) refl

  -- the module of an instance is there
  known_module : (all : List tree.Item) (i : tree.Item) (line : ℕ) (kind name : Name) → i ≡ tree.instance line kind name → IsKept m.modules all i → is_some (module_named m.modules kind) ≡ true
  known_module all i line kind name same k =
      let x = tree.instance line kind name in
      let k2 = subst (IsKept m.modules all) same k in
      let known = (keeps (site (item_scope m.modules all (around_item x)) (item_line x) (part.of_item k2.before x)) k2.own).known in
      same_false (is_module_name m.modules kind) (not_named (not (is_module_name m.modules kind)) kind known)

module _ (m : tree.Model) (clean : first_fault m ≡ None) (acyclic : cycle_fault m ≡ None) where
  module _ (j place : ℕ) (i : IsInstance m j place) where
    abbrev is : List tree.Item
    is = items_at m.modules place

    abbrev a : Around
    a = around m.modules place

    there : (name : Name) → slice_get (list_of m) (child (below m) j name) ≡ option_map (object_of j) (row_found name (module_rows m place))
    there name = child_of_model m acyclic j i.object place i.found i.is_instance name

    under_by : (name : Name) (y : Declared) (x : tree.Item) → declaration x ≡ Some y → Stands a name y is x → (f : Option ObjectForm) → object_form a x ≡ f → Under m j (child (below m) j name) y.meaning
    under_by name y x declares (inl h) f e = inl h
    under_by name y x declares (inr h) None e = inl (subst (λ f. RoleIf (Some y) f) e (subst (λ o. RoleIf o (object_form a x)) declares (item_role a x)))
    under_by name y x declares (inr h) (Some f) e =
        let role = subst (λ g. RoleIf (Some y) g) e (subst (λ o. RoleIf o (object_form a x)) declares (item_role a x)) in
        let t = object_under m j (child (below m) j name) (row_found name (module_rows m place)) f (h ∙ e) (there name) in
        inr (t.0, t.1, t.2, subst (Role y.meaning) (sym t.3) role)

    under : (name : Name) (y : Declared) → find (is_declared name) (declarations is) ≡ Some y → Under m j (child (below m) j name) y.meaning
    under name y e = let w = first a name y is e in under_by name y w.item w.declares w.stands (object_form a w.item) refl

    -- an instance in it
    pub inner : (name kind : Name) → FormOf (row_found name (module_rows m place)) ≡ Some (form.Instance (module_place m.modules kind)) → IsInside m j (child (below m) j name) (module_place m.modules kind)
    inner name kind e =
        let q = child (below m) j name in
        let t = object_under m j q (row_found name (module_rows m place)) (form.Instance (module_place m.modules kind)) e (there name) in
        record {
          instance = record { object = t.0; found = t.1; is_instance = t.3 };
          after = elim (are_inside m q t.0 t.1) [ inl before ↦ subst (λ k. k < q) t.2 before | inr top ↦ let no = top.0 in absurd (omega (arith, no)) ];
          parent = ap parent_of t.1 ∙ t.2;
        }

    own_end : (name : Name) (o : Option Declared) → find (is_declared name) (declarations is) ≡ o → is_some (meaning_if o) ≡ true → EndAt m j (child (below m) j name) (own_if (meaning_if o))
    own_end name None e h = off h
    own_end name (Some y) e h = under name y e

    instance_stands : (name : Name) (y : Declared) (x : tree.Item) (line : ℕ) (kind other : Name) → is_instance y.meaning ≡ true → x ≡ tree.instance line kind other → Stands a name y is x
        → IsInside m j (child (below m) j name) (module_place m.modules kind)
    instance_stands name y x line kind other is_one same (inl f) = off (subst (λ z. is_instance z ≡ true) f is_one)
    instance_stands name y x line kind other is_one same (inr h) = inner name kind (h ∙ ap (object_form a) same)

  module _ (j place : ℕ) (i : IsInstance m j place) (around_it : Name) where
    abbrev s : Scope
    s = item_scope m.modules (items_at m.modules place) around_it

    member_end : (q inner_place : ℕ) → IsInside m j q inner_place → (x : tree.Module) → items_at m.modules inner_place ≡ x.items → (member : Name) (o : Option Declared)
        → find (is_declared member) (declarations x.items) ≡ o → is_some (meaning_if o) ≡ true → EndAt m j (child (below m) q member) (of_child_if (meaning_if o))
    member_end q inner_place w x items member None e h = off h
    member_end q inner_place w x items member (Some z) e h =
        (q, w.after, w.parent, under q inner_place w.instance member z (ap (λ (xs : List tree.Item). find (is_declared member) (declarations xs)) items ∙ e))

    module_end : (q : ℕ) (kind : Name) → IsInside m j q (module_place m.modules kind) → (member : Name) (o : Option tree.Module) → module_named m.modules kind ≡ o → is_some o ≡ true → lacks member o ≡ false
        → EndAt m j (child (below m) q member) (of_child_if (option_and_then (λ (x : tree.Module). declared_in x member) o))
    module_end q kind w member None e some has = off some
    module_end q kind w member (Some x) e some has =
        member_end q (module_place m.modules kind) w x (ap items_in (sym (find_at (is_named kind) m.modules) ∙ e)) member (find (is_declared member) (declarations x.items)) refl
        (some_of (declared_in x member) has)

    child_end : (name member : Name) (o : Option Declared) → find (is_declared name) (declarations (items_at m.modules place)) ≡ o → is_some (meaning_if o) ≡ true → is_no_instance (meaning_if o) ≡ false
        → lacks member (child_module s name) ≡ false → EndAt m j (child (below m) (child (below m) j name) member) (of_child_if (option_and_then (λ (x : tree.Module). declared_in x member) (child_module s name)))
    child_end name member None e known kind has = off known
    child_end name member (Some y) e known kind has =
        let q = child (below m) j name in
        let w = first (around m.modules place) name y (items_at m.modules place) e in
        let is_one = same_false (is_instance y.meaning) kind in
        let t = subst (λ o. InstanceIf o w.item) w.declares (instance_item w.item) is_one in
        let of : child_module s name ≡ module_named m.modules t.1 =
        ap (λ (o : Option tree.Item). option_and_then (module_named m.modules) (option_and_then instance_of o)) (w.named ∙ ap Some t.3) in
        subst (λ (o : Option tree.Module). EndAt m j (child (below m) q member) (of_child_if (option_and_then (λ (x : tree.Module). declared_in x member) o))) (sym of)
        (module_end q t.1 (instance_stands j place i name y w.item t.0 t.1 t.2 is_one t.3 w.stands) member (module_named m.modules t.1) refl
        (known_module m clean (items_at m.modules place) w.item t.0 t.1 t.2 t.3 (kept_at m clean place w.item w.listed)) (subst (λ o. lacks member o ≡ false) of has))

    known_name : (name : Name) → name_if (not (is_known s name)) name ≡ None → is_known s name ≡ true
    known_name name h = same_false (is_known s name) (not_named (not (is_known s name)) name h)

    named_end : (name : Name) (member : Option Name) → unknown_end s name member ≡ None → wrong_end s name member ≡ None → EndAt m j (end_in (below m) j name member) (reached s name member)
    named_end name None known kind = own_end j place i name (find (is_declared name) (declarations (items_at m.modules place))) refl (known_name name known)
    named_end name (Some member) known kind =
        let two = or_none (name_if (not (is_known s name)) name) (name_if (lacks member (child_module s name)) member) known in
        child_end name member (find (is_declared name) (declarations (items_at m.modules place))) refl (known_name name two.0) (not_named (is_no_instance (meaning_of s name)) name kind)
        (not_named (lacks member (child_module s name)) member two.1)

    pub end_at : (e : End) → unknown_end s e.name e.member ≡ None → wrong_end s e.name e.member ≡ None → EndAt m j (end_of (below m) j e) (reached s e.name e.member)
    end_at e known kind = named_end e.name e.member known kind
