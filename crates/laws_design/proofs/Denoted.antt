-- What the names of an instance denote, by the objects that they stand for.
use Rattle.std.proofs.Common.{◌≡◌, ℕ, zero, suc, List, [], ◌∷◌, ◌++◌, Option, Some, None, refl, sym, ap, subst, ◌∙◌, inl, inr, arith}
use Rattle.std.specs.Prelude.{slice_get, unwrap_or, option_map, option_and_then, length}
use Rattle.std.proofs.lemmas.Option.{same_Some, slice_get-map}
use Rattle.elaborate_objects.specs.ModelTree.Tree as tree
use Rattle.elaborate_objects.specs.FlatDesign.Denotes.{denoted_at}
use Rattle.elaborate_objects.specs.FlatDesign.declared.objects.Object.{Object}
use Rattle.elaborate_objects.specs.FlatDesign.declared.objects.ObjectForm.{ObjectForm}
use Rattle.elaborate_objects.specs.FlatDesign.declared.objects.ObjectForm.TheVariants as form
use Rattle.elaborate_objects.specs.FlatDesign.declared.design.Denoted.{Denoted}
use Rattle.elaborate_objects.specs.FlatDesign.declared.design.Denoted.TheVariants as denoted
use Rattle.elaborate_objects.specs.FlatDesign.declared.design.Design.{Design}
use Rattle.elaborate_objects.specs.FlatDesign.declared.design.InstancePart.{InstancePart}
use Rattle.elaborate_objects.specs.ModelRules.Meanings.{Declared, declarations}
use Rattle.elaborate_objects.specs.DesignRules.Forms.{items_at}
use Rattle.elaborate_objects.specs.DesignRules.Listing.{child}
use Rattle.elaborate_objects.specs.DesignRules.Objects.{object_at}
use Rattle.elaborate_objects.specs.DesignRules.declared.bindings.Joined.{Joined}
use Rattle.elaborate_objects.specs.DesignRules.declared.counts.Counts.{Counts}
use Rattle.elaborate_objects.specs.DesignRules.Counting.{behind, along, nothing_before}
use Rattle.elaborate_objects.specs.DesignRules.Denoting.{below_top, denoted_by, all_denoted, object_denoted, named_in, names_in}
use Rattle.elaborate_objects.specs.DesignRules.Parts.{denotes, instance_by}
use Rattle.elaborate_objects.specs.DesignRules.Designs.{IsDesignOf}
use Rattle.laws_design.specs.Named.{IsNamed}
use Rattle.laws_design.proofs.Upward.{named_path}
use Rattle.laws_design.proofs.Inside.{inside_design}

-- ---- an instance has the names of its module

module _ (ms : List tree.Module) (all : List Denoted) (os : List Object) where
  abbrev HasNames : InstancePart → Type 0
  HasNames i = i.names ≡ names_in all os i.object (items_at ms i.module_place)

  abbrev Each : List InstancePart → Type 0
  Each xs = (h : ℕ) (i : InstancePart) → slice_get xs h ≡ Some i → HasNames i

  each_empty : Each []
  each_empty h i at = cc

  each_more : (x : InstancePart) (xs : List InstancePart) → HasNames x → Each xs → Each (x ∷ xs)
  each_more x xs this rest zero i at = subst HasNames (same_Some x i at) this
  each_more x xs this rest (suc h) i at = rest h i at

  each_by : (k : ℕ) (f : ObjectForm) (xs : List InstancePart) → Each xs → Each (instance_by ms all os k f ++ xs)
  each_by k (form.Instance place) xs rest = each_more (record { object = k; module_place = place; names = names_in all os k (items_at ms place) }) xs refl rest
  each_by k (form.Signal kind many t initial) xs rest = rest
  each_by k form.Resolved xs rest = rest
  each_by k (form.Clock period high start code) xs rest = rest
  each_by k (form.Fifo t size) xs rest = rest
  each_by k form.Mutex xs rest = rest
  each_by k form.Event xs rest = rest
  each_by k form.Keeper xs rest = rest
  each_by k (form.Semaphore start) xs rest = rest
  each_by k (form.Memory size) xs rest = rest
  each_by k (form.Variable t initial) xs rest = rest
  each_by k (form.Port leads_to size rule) xs rest = rest
  each_by k (form.Export leads_to) xs rest = rest
  each_by k (form.Initiator pass backward) xs rest = rest
  each_by k (form.Target pass blocking forward) xs rest = rest
  each_by k (form.Process kind code dont_initialize) xs rest = rest

  each_along : (n : Counts) (xs : List Object) → Each (along (λ c (o : Object). instance_by ms all os c.objects o.form) n xs)
  each_along n [] = each_empty
  each_along n (o ∷ xs) = each_by n.objects o.form (along (λ c (y : Object). instance_by ms all os c.objects y.form) (behind n o.form) xs) (each_along (behind n o.form) xs)

-- ---- where there is no object, nothing is denoted

one_each : (hops : List Joined) (n : Counts) (os : List Object) → length (along (λ c (o : Object). denoted_by hops c o.form ∷ []) n os) ≡ length os
one_each hops n [] = refl
one_each hops n (o ∷ os) = ap suc (one_each hops (behind n o.form) os)

nothing_past : (hops : List Joined) (os : List Object) (j : ℕ) → slice_get os j ≡ None → object_denoted (all_denoted hops os) j ≡ denoted.Nothing
nothing_past hops os j none =
    ap (λ o. unwrap_or o denoted.Nothing) (past (all_denoted hops os) os j (one_each hops nothing_before os) none)
  where
    past : {A B : Type 0} (xs : List A) (ys : List B) (j : ℕ) → length xs ≡ length ys → slice_get ys j ≡ None → slice_get xs j ≡ None
    past [] ys j same n = refl
    past (x ∷ xs) [] j same n = cc
    past (x ∷ xs) (y ∷ ys) zero same n = cc
    past (x ∷ xs) (y ∷ ys) (suc j) same n = past xs ys j (omega (arith, same)) n

-- ---- the name at a place

module _ (m : tree.Model) (d : Design) (design : IsDesignOf m d) (home place : ℕ) (i : InstancePart) (x : Declared) (at : slice_get d.instances home ≡ Some i) (named : slice_get (declarations (items_at m.modules i.module_place)) place ≡ Some x) where
  abbrev all : List Denoted
  all = denotes d.objects

  abbrev j : ℕ
  j = child (below_top d.objects.list) i.object x.name

  its_names : i.names ≡ names_in all d.objects.list i.object (items_at m.modules i.module_place)
  its_names = each_along m.modules all d.objects.list nothing_before d.objects.list home i (sym (ap (λ xs. slice_get xs home) design.instances) ∙ at)

  at_place : slice_get i.names place ≡ Some (object_denoted all j)
  at_place =
      ap (λ xs. slice_get xs place) its_names
      ∙ slice_get-map (λ (y : Declared). named_in all d.objects.list i.object y.name) (declarations (items_at m.modules i.module_place)) place
      ∙ ap (option_map (λ (y : Declared). named_in all d.objects.list i.object y.name)) named

  its_denoted : denoted_at d home place ≡ object_denoted all j
  its_denoted =
      ap (λ o. unwrap_or (option_and_then (λ (k : InstancePart). slice_get k.names place) o) denoted.Nothing) at
      ∙ ap (λ o. unwrap_or o denoted.Nothing) at_place

  by_object : (o : Option Object) → object_at d.objects j ≡ o → IsNamed d i.object x.name (denoted_at d home place)
  by_object None e = inl (its_denoted ∙ nothing_past _ d.objects.list j e)
  by_object (Some o) e = inr (record { number = j; object = o; found = e; path = named_path d.objects (inside_design m d design) i.object x.name o e; denoted = its_denoted })

  pub named_denoted : IsNamed d i.object x.name (denoted_at d home place)
  named_denoted = by_object (object_at d.objects j) refl
