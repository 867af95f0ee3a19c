-- Each name stands in each instance of its module for what it is declared as.
use Rattle.std.proofs.Common.{◌≡◌, ◌<◌, ◌≤◌, ℕ, zero, suc, ◌+◌, Bool, true, false, List, [], ◌∷◌, ◌++◌, drop, length, Option, Some, None, refl, sym, ap, ◌∙◌, subst, arith}
use Rattle.std.specs.Prelude.{⊤, slice_get, option_map, option_and_then, unwrap_or, is_some, position}
use Rattle.std.specs.List.{AllByRecursion}
use Rattle.std.proofs.lemmas.Option.{slice_get_within, slice_get-map}
use Rattle.elaborate_objects.specs.ModelTree.Tree as tree
use Rattle.elaborate_objects.specs.ModelTree.declared.types.Interface.TheVariants as interface
use Rattle.elaborate_objects.specs.ModelTree.declared.items.PlainKind.TheVariants as plain
use Rattle.elaborate_objects.specs.ModelTree.declared.items.InitiatorRole.TheVariants as initiator
use Rattle.elaborate_objects.specs.ModelTree.declared.items.TargetRole.TheVariants as target
use Rattle.elaborate_objects.specs.FlatDesign.Denotes.{denoted_at}
use Rattle.elaborate_objects.specs.FlatDesign.declared.value_types.ValueType.{ValueType}
use Rattle.elaborate_objects.specs.FlatDesign.declared.value_types.ValueType.TheVariants as type
use Rattle.elaborate_objects.specs.FlatDesign.declared.objects.LeadsTo.{LeadsTo}
use Rattle.elaborate_objects.specs.FlatDesign.declared.objects.LeadsTo.TheVariants as leads
use Rattle.elaborate_objects.specs.FlatDesign.declared.objects.Object.{Object}
use Rattle.elaborate_objects.specs.FlatDesign.declared.objects.ObjectForm.{ObjectForm}
use Rattle.elaborate_objects.specs.FlatDesign.declared.objects.ObjectForm.TheVariants as form
use Rattle.elaborate_objects.specs.FlatDesign.declared.design.Denoted.{Denoted}
use Rattle.elaborate_objects.specs.FlatDesign.declared.design.Denoted.TheVariants as denoted
use Rattle.elaborate_objects.specs.FlatDesign.declared.design.InstancePart.{InstancePart}
use Rattle.elaborate_objects.specs.FlatDesign.declared.design.Design.{Design}
use Rattle.elaborate_objects.specs.ModelRules.Meanings.{Declared, declaration, declarations, signal_type, variable_type, port_size}
use Rattle.elaborate_objects.specs.ModelRules.declared.meanings.Meaning.{Meaning}
use Rattle.elaborate_objects.specs.ModelRules.declared.meanings.Meaning.TheVariants as meaning
use Rattle.elaborate_objects.specs.ModelRules.Passes.{first_fault}
use Rattle.elaborate_objects.specs.ModelRules.Distinct.{names_of, HasDistinctNames}
use Rattle.laws_code.specs.Known.{is_type_known}
use Rattle.elaborate_objects.specs.DesignRules.Values.{known_type}
use Rattle.elaborate_objects.specs.DesignRules.Forms.{Around, around, items_at, items_in, object_form}
use Rattle.elaborate_objects.specs.DesignRules.Listing.{child, list_of}
use Rattle.elaborate_objects.specs.DesignRules.ObjectFaults.{cycle_fault}
use Rattle.elaborate_objects.specs.Rows.{Row, rows_in}
use Rattle.elaborate_objects.specs.Left.{object_of}
use Rattle.elaborate_objects.specs.DesignRules.declared.bindings.Joined.{Joined}
use Rattle.elaborate_objects.specs.DesignRules.Paths.{begins_path, ends_path, is_end}
use Rattle.elaborate_objects.specs.DesignRules.declared.counts.Counts.{Counts}
use Rattle.elaborate_objects.specs.DesignRules.Counting.{behind, along, nothing_before}
use Rattle.elaborate_objects.specs.DesignRules.Denoting.{begins_at, ends_at, socket_end, denoted_by, all_denoted, object_denoted, named_in, names_in}
use Rattle.elaborate_objects.specs.DesignRules.Parts.{denotes}
use Rattle.elaborate_objects.specs.DesignRules.Designs.{IsDesignOf}
use Rattle.laws_design.proofs.Along.{same_some, before}
use Rattle.laws_design.proofs.Numbered.{number_of, denoted_there}
use Rattle.laws_design.proofs.Fits.{hops, all, signal_there, fifo_there, memory_there, variable_there, port_there, form_fits, IsInstancePart, instance_part}
use Rattle.laws_design.proofs.FaultlessItems.{ItemsKnown, known, names_differ, all_at}
use Rattle.laws_design.proofs.NamedObjects.{row_found, IsItemOf, item_of}
use Rattle.laws_design.proofs.Models.{module_rows, child_of_model}
use Rattle.laws_code.specs.Standing.{IsSignal, IsFifo, IsPortTo, IsPortOf, IsEnd, Standing, DesignStands}
use Rattle.laws_design.specs.Sockets.{SocketsHaveHops}
use Rattle.laws_design.proofs.SocketEnds.{no_beginning, no_ending, initiator_end, target_end}

known_there : (t : Option ValueType) → is_some t ≡ true → t ≡ Some (known_type t)
known_there None h = cc
known_there (Some t) h = refl

-- past the objects nothing is denoted
denoted_past : (g : Counts → Object → Denoted) (n : Counts) (os : List Object) (k : ℕ) → slice_get os k ≡ None → slice_get (along (λ c o. g c o ∷ []) n os) k ≡ None
denoted_past g n [] k h = refl
denoted_past g n (o ∷ os) zero h = cc
denoted_past g n (o ∷ os) (suc k) h = denoted_past g (behind n o.form) os k h

abbrev StandsIf : Design → Option Declared → Denoted → Type 0
StandsIf d None x = ⊤
StandsIf d (Some y) x = Standing d y.meaning x

abbrev KnownIf : Option Declared → Type 0
KnownIf None = ⊤
KnownIf (Some y) = is_type_known y.meaning ≡ true

abbrev FormOf : Option Row → Option ObjectForm
FormOf o = option_map (λ (r : Row). r.form) o

module _ (m : tree.Model) (d : Design) (design : IsDesignOf m d) (sockets : SocketsHaveHops d.objects) where
  -- an object stands for what its item declares
  module _ (k : ℕ) (o : Object) (found : slice_get d.objects.list k ≡ Some o) where
    abbrev n : Counts
    n = before d.objects.list k

    abbrev this : ObjectForm → Denoted
    this f = denoted_by (hops m d design) n f

    by_form : (M : Meaning) (g f : ObjectForm) → Some g ≡ Some f → o.form ≡ f → (o.form ≡ g → Standing d M (this g)) → Standing d M (this f)
    by_form M g f e h stands = let p = same_some g f e in subst (λ x. Standing d M (this x)) p (stands (h ∙ sym p))

    port_to : (l : LeadsTo) (size : ℕ) (rule : _) → o.form ≡ form.Port l size rule → IsPortTo d (this (form.Port l size rule)) l
    port_to l size rule h = (n.ports, _, refl, port_there m d design k o found (form.Port l size rule) _ h refl, refl)

    port_of : (of : ValueType → LeadsTo) (t : Option ValueType) (size : ℕ) (rule : _) → is_some t ≡ true → o.form ≡ form.Port (of (known_type t)) size rule → IsPortOf d (this (form.Port (of (known_type t)) size rule)) of t
    port_of of t size rule known h = (known_type t, known_there t known, port_to (of (known_type t)) size rule h)

    number : n.objects ≡ k
    number = let short = slice_get_within d.objects.list k o found in let e = number_of nothing_before d.objects.list k (omega (arith, short)) in omega (arith, e)

    begins : (backward : Option ℕ) → o.form ≡ form.Initiator false backward → IsEnd d (this (form.Initiator false backward)) true
    begins backward e = subst (λ j. IsEnd d (socket_end true (position (begins_at j) (hops m d design))) true) (sym number) (initiator_end m d design sockets k o backward found e)

    ends : (blocking forward : Option ℕ) → o.form ≡ form.Target false blocking forward → IsEnd d (this (form.Target false blocking forward)) false
    ends blocking forward e = subst (λ j. IsEnd d (socket_end false (position (ends_at j) (hops m d design))) false) (sym number) (target_end m d design sockets k o blocking forward found e)

    passes_on : (backward : Option ℕ) → o.form ≡ form.Initiator true backward → this (form.Initiator true backward) ≡ denoted.Nothing
    passes_on backward e = ap (λ j. socket_end true (position (begins_at j) (hops m d design))) number ∙ ap (socket_end true) (no_beginning d.objects k o found (ap begins_path e))

    takes_over : (blocking forward : Option ℕ) → o.form ≡ form.Target true blocking forward → this (form.Target true blocking forward) ≡ denoted.Nothing
    takes_over blocking forward e =
        ap (λ j. socket_end false (position (ends_at j) (hops m d design))) number
        ∙ ap (socket_end false) (no_ending d.objects k (ap (λ (x : Option Object). is_end (option_map (λ (y : Object). y.form) x)) found ∙ ap ends_path e))

    fits : (f : ObjectForm) → o.form ≡ f → Rattle.elaborate_objects.specs.FlatDesign.Sound.DenotedFits d (this f)
    fits f h = form_fits m d design k o found f h

    item_stands : (a : Around) (i : tree.Item) (f : ObjectForm) → object_form a i ≡ Some f → o.form ≡ f → KnownIf (declaration i) → StandsIf d (declaration i) (this f)
    item_stands a (tree.signal line s) f e h known =
        by_form (meaning.Signal (signal_type s.value_type)) _ f e h (λ g. (n.signals, n.events, _, refl, signal_there m d design k o found _ _ g refl, known_there (signal_type s.value_type) known))
    item_stands a (tree.resolved line name) f e h known = by_form meaning.Resolved _ f e h (λ g. (n.resolved, n.events, refl))
    item_stands a (tree.clock line c) f e h known = by_form meaning.Clock _ f e h (λ g. (n.signals, n.events, _, refl, signal_there m d design k o found _ _ g refl, refl))
    item_stands a (tree.fifo line t name size) f e h known =
        by_form (meaning.Fifo (signal_type t)) _ f e h (λ g. (n.fifos, n.events, _, refl, fifo_there m d design k o found _ _ g refl, known_there (signal_type t) known))
    item_stands a (tree.plain line plain.Mutex name) f e h known = by_form meaning.Mutex form.Mutex f e h (λ g. (n.mutexes, n.events, refl))
    item_stands a (tree.plain line plain.Event name) f e h known = by_form meaning.Event form.Event f e h (λ g. (n.events, refl, fits form.Event g))
    item_stands a (tree.plain line plain.Keeper name) f e h known = by_form meaning.Keeper form.Keeper f e h (λ g. (n.keepers, refl, fits form.Keeper g))
    item_stands a (tree.semaphore line name c) f e h known = by_form meaning.Semaphore _ f e h (λ g. (n.semaphores, n.events, refl))
    item_stands a (tree.memory line name size) f e h known = by_form meaning.Memory _ f e h (λ g. (n.memories, _, refl, memory_there m d design k o found _ _ g refl))
    item_stands a (tree.variable line t name c) f e h known =
        by_form (meaning.Variable (variable_type t)) _ f e h (λ g. (n.variables, _, refl, variable_there m d design k o found _ _ g refl, known_there (variable_type t) known))
    item_stands a (tree.port line (interface.In t) name size) f e h known = by_form (meaning.In (signal_type t) (port_size size)) _ f e h (λ g. port_of leads.In (signal_type t) _ _ known g)
    item_stands a (tree.port line (interface.Out t) name size) f e h known = by_form (meaning.Out (signal_type t) (port_size size)) _ f e h (λ g. port_of leads.Out (signal_type t) _ _ known g)
    item_stands a (tree.port line (interface.FifoIn t) name size) f e h known = by_form (meaning.FifoIn (signal_type t) (port_size size)) _ f e h (λ g. port_of leads.FifoIn (signal_type t) _ _ known g)
    item_stands a (tree.port line (interface.FifoOut t) name size) f e h known = by_form (meaning.FifoOut (signal_type t) (port_size size)) _ f e h (λ g. port_of leads.FifoOut (signal_type t) _ _ known g)
    item_stands a (tree.port line interface.Mutex name size) f e h known = by_form (meaning.MutexPort (port_size size)) _ f e h (λ g. port_to leads.Mutex _ _ g)
    item_stands a (tree.port line interface.Semaphore name size) f e h known = by_form (meaning.SemaphorePort (port_size size)) _ f e h (λ g. port_to leads.Semaphore _ _ g)
    item_stands a (tree.export line i name) f e h known = by_form meaning.Export _ f e h (λ g. refl)
    item_stands a (tree.initiator line name initiator.Pass) f e h known = by_form (meaning.Initiator true) _ f e h (λ g. passes_on None g)
    item_stands a (tree.initiator line name (initiator.Own backward)) f e h known = by_form (meaning.Initiator false) _ f e h (λ g. begins _ g)
    item_stands a (tree.target line name target.Pass) f e h known = by_form (meaning.Target true) _ f e h (λ g. takes_over None None g)
    item_stands a (tree.target line name (target.Own blocking forward)) f e h known = by_form (meaning.Target false) _ f e h (λ g. ends _ _ g)
    item_stands a (tree.instance line kind name) f e h known = by_form meaning.Instance _ f e h (λ g. refl)
    item_stands a (tree.bind line left right) f e h known = tt
    item_stands a (tree.function line g) f e h known = cc
    item_stands a (tree.process line p) f e h known = by_form meaning.Process _ f e h (λ g. (n.processes, refl))

  -- what no object stands for is a function
  none_stands : (a : Around) (i : tree.Item) → object_form a i ≡ None → StandsIf d (declaration i) denoted.Nothing
  none_stands a (tree.bind line left right) e = tt
  none_stands a (tree.function line f) e = refl
  none_stands a (tree.plain line plain.Mutex name) e = cc
  none_stands a (tree.plain line plain.Event name) e = cc
  none_stands a (tree.plain line plain.Keeper name) e = cc
  none_stands a (tree.initiator line name initiator.Pass) e = cc
  none_stands a (tree.initiator line name (initiator.Own backward)) e = cc
  none_stands a (tree.target line name target.Pass) e = cc
  none_stands a (tree.target line name (target.Own blocking forward)) e = cc
  none_stands a other e = cc

  -- by what stands under the name
  under : (a : Around) (j c : ℕ) (y : Declared) (i : tree.Item) (r : Option Row) → declaration i ≡ Some y → is_type_known y.meaning ≡ true → FormOf r ≡ object_form a i
      → slice_get d.objects.list c ≡ option_map (object_of j) r → Standing d y.meaning (object_denoted (denotes d.objects) c)
  under a j c y i None e known form_is there =
      let past = denoted_past (λ n (x : Object). denoted_by (hops m d design) n x.form) nothing_before d.objects.list c there in
      subst (λ (x : Option Denoted). Standing d y.meaning (unwrap_or x denoted.Nothing)) (sym past) (subst (λ o. StandsIf d o denoted.Nothing) e (none_stands a i (sym form_is)))
  under a j c y i (Some r) e known form_is there =
      let short = slice_get_within d.objects.list c (object_of j r) there in
      let at = denoted_there (hops m d design) d.objects.list c (object_of j r) there (omega (arith, short)) in
      subst (λ (x : Option Denoted). Standing d y.meaning (unwrap_or x denoted.Nothing)) (sym at)
      (subst (λ o. StandsIf d o (denoted_by (hops m d design) (before d.objects.list c) r.form)) e (item_stands c (object_of j r) there a i r.form (sym form_is) refl (subst KnownIf (sym e) known)))

  module _ (none : first_fault m ≡ None) (acyclic : cycle_fault m ≡ None) where
    in_module : (j place : ℕ) (o : Object) (x : tree.Module) (n : ℕ) (y : Declared) → slice_get d.objects.list j ≡ Some o → o.form ≡ form.Instance place → slice_get m.modules place ≡ Some x → slice_get (declarations x.items) n ≡ Some y
        → Standing d y.meaning (named_in (denotes d.objects) d.objects.list j y.name)
    in_module j place o x n y found is there at =
        let lists = ap (λ (os : Rattle.elaborate_objects.specs.FlatDesign.declared.objects.Objects.Objects). os.list) design.objects in
        let items = ap items_in there in
        let w = item_of (around m.modules place) x.items n y (all_at _ m.modules place x (HasDistinctNames.items (names_differ m none)) there) at in
        let k = all_at (λ (z : Declared). is_type_known z.meaning ≡ true) (declarations x.items) n y (all_at ItemsKnown m.modules place x (known m none) there) at in
        let c = child_of_model m acyclic j o place (sym (ap (λ xs. slice_get xs j) lists) ∙ found) is y.name in
        let c2 = subst (λ (xs : List Object). slice_get xs (child (drop 1 xs) j y.name) ≡ option_map (object_of j) (row_found y.name (module_rows m place))) (sym lists) c in
        let c3 = subst (λ (is : List tree.Item). slice_get d.objects.list (child (drop 1 d.objects.list) j y.name) ≡ option_map (object_of j) (row_found y.name (rows_in (around m.modules place) is))) items c2 in
        under (around m.modules place) j (child (drop 1 d.objects.list) j y.name) y w.item (row_found y.name (rows_in (around m.modules place) x.items)) w.declares k w.form c3

    stands : (home n : ℕ) (i : InstancePart) (x : tree.Module) (y : Declared) → slice_get d.instances home ≡ Some i → slice_get m.modules i.module_place ≡ Some x → slice_get (declarations x.items) n ≡ Some y
        → Standing d y.meaning (denoted_at d home n)
    stands home n i x y found there at =
        let r = instance_part m d design home i found in
        let short = slice_get_within d.objects.list r.number r.object r.found in
        let number = number_of nothing_before d.objects.list r.number (omega (arith, short)) in
        let j : (before d.objects.list r.number).objects ≡ r.number = omega (arith, number) in
        let s =
        subst (λ z. Standing d y.meaning (named_in (denotes d.objects) d.objects.list z y.name)) (sym j) (in_module r.number i.module_place r.object x n y r.found r.is_instance there at) in
        let name = λ (z : Declared). named_in (denotes d.objects) d.objects.list (before d.objects.list r.number).objects z.name in
        let names =
        ap (λ (xs : List Denoted). slice_get xs n) r.names ∙ slice_get-map name (declarations (items_at m.modules i.module_place)) n
        ∙ ap (λ (z : Option tree.Module). option_map name (slice_get (declarations (items_in z)) n)) there ∙ ap (option_map name) at in
        let whole = ap (λ (z : Option InstancePart). unwrap_or (option_and_then (λ (p : InstancePart). slice_get p.names n) z) denoted.Nothing) found ∙ ap (λ z. unwrap_or z denoted.Nothing) names in
        subst (Standing d y.meaning) (sym whole) s

    pub design_stands : DesignStands m d
    design_stands = record { names = stands }
