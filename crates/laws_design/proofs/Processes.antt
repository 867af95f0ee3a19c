-- Each process of a design runs the body of its item, in an instance of that item's module.
use Rattle.std.proofs.Common.{◌≡◌, ℕ, zero, suc, Bool, true, false, List, [], ◌∷◌, Some, None, refl, sym, ap, ◌∙◌, subst, inl, inr}
use Rattle.std.specs.Prelude.{slice_get, filter_map, Contains}
use Rattle.std.specs.List.{cons_option}
use Rattle.std.proofs.lemmas.Bool.{false≢true}
use Rattle.elaborate_objects.specs.ModelTree.Tree as tree
use Rattle.elaborate_objects.specs.ModelTree.declared.items.PlainKind.TheVariants as plain
use Rattle.elaborate_objects.specs.ModelTree.declared.items.ProcessKind.{ProcessKind}
use Rattle.elaborate_objects.specs.ModelTree.declared.items.ProcessKind.TheVariants as process
use Rattle.elaborate_objects.specs.ModelTree.declared.items.InitiatorRole.TheVariants as initiator
use Rattle.elaborate_objects.specs.ModelTree.declared.items.TargetRole.TheVariants as target
use Rattle.elaborate_objects.specs.FlatDesign.Code.{arena_of, body_at}
use Rattle.elaborate_objects.specs.FlatDesign.Typed.{EachOf, IsStaticUse}
use Rattle.elaborate_objects.specs.FlatDesign.Sound.{EventFits, IsHomeOf, RunsAs, ProcessFits}
use Rattle.elaborate_objects.specs.FlatDesign.declared.objects.Object.{Object}
use Rattle.elaborate_objects.specs.FlatDesign.declared.objects.Objects.{Objects}
use Rattle.elaborate_objects.specs.FlatDesign.declared.objects.ObjectForm.{ObjectForm}
use Rattle.elaborate_objects.specs.FlatDesign.declared.objects.ObjectForm.TheVariants as form
use Rattle.elaborate_objects.specs.FlatDesign.declared.design.ProcessPart.{ProcessPart}
use Rattle.elaborate_objects.specs.FlatDesign.declared.design.Design.{Design}
use Rattle.elaborate_objects.specs.ModelRules.Scopes.{Scope, item_scope}
use Rattle.elaborate_objects.specs.ModelRules.Sites.{block_sites, event_sites, events_sites}
use Rattle.elaborate_objects.specs.ModelRules.Passes.{constructs, fault_of, first_fault}
use Rattle.laws_code.specs.Known.{TypesAreKnown}
use Rattle.laws_code.proofs.Typed.{parts_none}
use Rattle.laws_code.proofs.Declared.{scope_known}
use Rattle.laws_code.specs.CodeRules.Deeds.{static_use}
use Rattle.laws_code.specs.CodeRules.Bodies as source
use Rattle.laws_code.specs.CodeRules.Bodies.{Source, source_of, source_name, source_kind, source_parameters, source_answer, process_kind, IsAnswer}
use Rattle.elaborate_objects.specs.DesignRules.Forms.{Around, around, items_at, items_in, body, object_form}
use Rattle.elaborate_objects.specs.DesignRules.Listing.{list_of, top_object, objects_of}
use Rattle.elaborate_objects.specs.DesignRules.ObjectFaults.{cycle_fault, limit_fault}
use Rattle.elaborate_objects.specs.DesignRules.BindingFaults as binding
use Rattle.elaborate_objects.specs.DesignRules.Counting.{nothing_before}
use Rattle.elaborate_objects.specs.DesignRules.Parts.{home_of}
use Rattle.elaborate_objects.specs.DesignRules.Statics.{source_list, static_lists, static_list, static_events, names_at, process_by}
use Rattle.elaborate_objects.specs.DesignRules.Designs.{IsDesignOf}
use Rattle.laws_design.proofs.Along.{before, from_place}
use Rattle.laws_design.proofs.Numbered.{processes_step}
use Rattle.laws_design.proofs.Children.{same_some}
use Rattle.laws_design.proofs.FaultlessItems.{ItemsKnown, known, all_at}
use Rattle.laws_design.proofs.Models.{comes_from}
use Rattle.laws_design.proofs.BoundEnds.{kept_at}
use Rattle.laws_code.specs.Standing.{NamesStand, DesignStands}
use Rattle.laws_code.proofs.Events.{static_there}
use Rattle.laws_design.proofs.Standing.{design_stands}
use Rattle.laws_design.proofs.Handlers.{row_item, module_there}
use Rattle.laws_design.proofs.SocketHops.{sockets_have_hops}
use Rattle.laws_design.specs.Fields.{PortsFit}
use Rattle.laws_design.proofs.Found.{IsBodyOfItem, body_of_item}
use Rattle.laws_design.proofs.Homes.{IsHome, instance_there, home_of_body}
use Rattle.laws_design.proofs.Ports.{ports_fit, no_binding_fault}
use Rattle.laws_design.proofs.Sensitive.{context, uses_fit}

-- what objects of processes and clocks run

abbrev is_process : ObjectForm → Bool
is_process (form.Process kind code dont_initialize) = true
is_process (form.Clock period high start code) = true
is_process other = false

abbrev kind_of : ObjectForm → ProcessKind
kind_of (form.Process kind code dont_initialize) = kind
kind_of other = process.Thread

abbrev code_of : ObjectForm → ℕ
code_of (form.Process kind code dont_initialize) = code
code_of (form.Clock period high start code) = code
code_of other = 0

pub record Runs (a : Around) (i : tree.Item) (f : ObjectForm) : Type 0 where
  pub source : Source
  pub has : source_of i ≡ Some source
  pub number : body a (source_name source) ≡ code_of f
  pub runs : RunsAs (kind_of f) (source_kind source)
  pub parameters : source_parameters source ≡ 0
  pub answer : source_answer source ≡ None

runs_as : (k : ProcessKind) → RunsAs k (process_kind k)
runs_as process.Thread = inl refl
runs_as process.Method = refl

no_process : {A : Type 0} (g f : ObjectForm) → is_process g ≡ false → is_process f ≡ true → Some g ≡ Some f → A
no_process g f none h e = absurd (false≢true (sym none ∙ ap is_process (same_some g f e) ∙ h))

item_runs : (a : Around) (i : tree.Item) (f : ObjectForm) → is_process f ≡ true → object_form a i ≡ Some f → Runs a i f
item_runs a (tree.process line p) f h e =
    subst (Runs a (tree.process line p)) (same_some (form.Process p.kind (body a p.name) p.dont_initialize) f e)
    (record { source = source.of_process p; has = refl; number = refl; runs = runs_as p.kind; parameters = refl; answer = refl })
item_runs a (tree.clock line c) f h e =
    subst (Runs a (tree.clock line c)) (same_some _ f e) (record { source = source.of_clock c; has = refl; number = refl; runs = inr refl; parameters = refl; answer = refl })
item_runs a (tree.plain line plain.Mutex x) f h e = no_process _ f refl h e
item_runs a (tree.plain line plain.Event x) f h e = no_process _ f refl h e
item_runs a (tree.plain line plain.Keeper x) f h e = no_process _ f refl h e
item_runs a (tree.initiator line x initiator.Pass) f h e = no_process _ f refl h e
item_runs a (tree.initiator line x (initiator.Own backward)) f h e = no_process _ f refl h e
item_runs a (tree.target line x target.Pass) f h e = no_process _ f refl h e
item_runs a (tree.target line x (target.Own blocking forward)) f h e = no_process _ f refl h e
item_runs a (tree.bind line left right) f h e = cc
item_runs a (tree.function line g) f h e = cc
item_runs a other f h e = no_process _ f refl h e

module _ (m : tree.Model) (clean : first_fault m ≡ None) (acyclic : cycle_fault m ≡ None) (limits : limit_fault m ≡ None) (none : binding.first_fault (objects_of m) ≡ None) (d : Design) (design : IsDesignOf m d) where
  lists : d.objects.list ≡ list_of m
  lists = ap (λ (os : Objects). os.list) design.objects

  ports : PortsFit d
  ports = ports_fit m d design (no_binding_fault m d design none)

  stands : DesignStands m d
  stands = design_stands m d design (sockets_have_hops m clean acyclic limits d none design) clean acyclic

  -- the item of an object that runs a body, in an instance of its module
  pub record RunningItem (o : Object) : Type 0 where
    pub place : ℕ
    pub item : tree.Item
    pub listed : Contains (items_at m.modules place) item
    pub form_is : object_form (around m.modules place) item ≡ Some o.form
    pub home : IsHome m d design (home_of d.objects.list o.parent) place

  running_item : (k : ℕ) (o : Object) → slice_get d.objects.list k ≡ Some o → is_process o.form ≡ true → RunningItem o
  running_item zero o found h =
      absurd (false≢true (ap (λ (x : Object). is_process x.form) (same_some (top_object m) o (sym (ap (λ (xs : List Object). slice_get xs 0) lists) ∙ found)) ∙ h))
  running_item (suc k) o found h =
      let c = comes_from m k o (sym (ap (λ (xs : List Object). slice_get xs (suc k)) lists) ∙ found) in
      let w = row_item (around m.modules c.place) (items_at m.modules c.place) c.row c.listed in
      record {
        place = c.place;
        item = w.0;
        listed = w.1;
        form_is = w.2 ∙ sym (ap (λ (x : Object). Some x.form) c.is);
        home = instance_there m d design o.parent c.place c.outer (ap (λ (xs : List Object). slice_get xs o.parent) lists ∙ c.there) c.is_instance;
      }

  -- what a body is sensitive to
  module _ (place : ℕ) (z : tree.Module) (there : slice_get m.modules place ≡ Some z) (home : ℕ) (at : IsHome m d design home place) where
    abbrev scope : List ℕ → Scope
    scope around = item_scope m.modules z.items around

    names_stand : (around : List ℕ) → NamesStand (scope around) (context m d design ports home)
    names_stand around = record { names = λ n y e. stands.names home n at.part z y at.found (ap (slice_get m.modules) at.same ∙ there) e; locals = tt }

    types_known : (around : List ℕ) → TypesAreKnown (scope around)
    types_known around = scope_known m.modules z.items around (all_at ItemsKnown m.modules place z (known m clean) there)

    uses_there : (around : List ℕ) (es : List tree.Event) → fault_of constructs (events_sites (scope around) true es) ≡ None → EachOf (IsStaticUse (context m d design ports home)) (filter_map (static_use (scope around)) es)
    uses_there around [] h = tt
    uses_there around (e ∷ es) h =
        let p = parts_none (event_sites (scope around) true e) (events_sites (scope around) true es) h in
        let u = static_there (context m d design ports home) (scope around) (names_stand around) (types_known around) e p.0 in
        subst (λ o. EachOf (IsStaticUse (context m d design ports home)) (cons_option o (filter_map (static_use (scope around)) es))) (sym u.1) (u.2, uses_there around es p.1)

    abbrev Sensitive : Source → Type 0
    Sensitive x = EachOf (EventFits d) (static_events d.ports (names_at d.instances home) (source_list m.modules z.items x))

    sensitive_to : (i : tree.Item) → Contains (items_at m.modules place) i → (x : Source) → source_of i ≡ Some x → Sensitive x
    sensitive_to (tree.process line p) listed x e =
        let k = kept_at m clean place (tree.process line p) listed in
        let parts =
        subst (λ (is : List tree.Item). fault_of constructs (events_sites (item_scope m.modules is p.name) true p.sensitive) ≡ None) (ap items_in there)
        (parts_none (events_sites (item_scope m.modules (items_at m.modules place) p.name) true p.sensitive) (block_sites p.body (item_scope m.modules (items_at m.modules place) p.name)) k.parts).0 in
        subst Sensitive (same_some (source.of_process p) x e) (uses_fit m d design ports home (filter_map (static_use (scope p.name)) p.sensitive) (uses_there p.name p.sensitive parts))
    sensitive_to (tree.clock line c) listed x e = subst Sensitive (same_some (source.of_clock c) x e) tt
    sensitive_to (tree.function line f) listed x e = subst Sensitive (same_some (source.of_function f) x e) tt
    sensitive_to other listed x e = cc

  -- a process, and the thread of a clock
  pub record RunsBody (o : Object) : Type 0 where
    pub place : ℕ
    pub around_it : tree.Module
    pub there : slice_get m.modules place ≡ Some around_it
    pub item : tree.Item
    pub listed : Contains (items_at m.modules place) item
    pub home : IsHome m d design (home_of d.objects.list o.parent) place
    pub runs : Runs (around m.modules place) item o.form
    pub body : IsBodyOfItem m clean d design place around_it runs.source (code_of o.form)

  runs_body : (k : ℕ) (o : Object) → slice_get d.objects.list k ≡ Some o → is_process o.form ≡ true → RunsBody o
  runs_body k o found h =
      let w = running_item k o found h in
      let z = module_there m clean d design w.place w.item (slice_get m.modules w.place) refl w.listed in
      let r = item_runs (around m.modules w.place) w.item o.form h w.form_is in
      record {
        place = w.place;
        around_it = z.0;
        there = z.1;
        item = w.item;
        listed = w.listed;
        home = w.home;
        runs = r;
        body =
            subst (IsBodyOfItem m clean d design w.place z.0 r.source) r.number
            (body_of_item m clean d design w.place z.0 z.1 w.item r.source (subst (λ (is : List tree.Item). Contains is w.item) (ap items_in z.1) w.listed) r.has);
      }

  fits : (o : Object) (w : RunsBody o) (f : ObjectForm) → o.form ≡ f → (p : ProcessPart) → p.kind ≡ kind_of f → p.home ≡ home_of d.objects.list o.parent → p.code ≡ code_of f → EachOf (EventFits d) p.sensitive → ProcessFits d p
  fits o w f e p kind home code sensitive =
      record {
        body = w.body.body;
        found = ap (body_at (arena_of d.code)) (code ∙ sym (ap code_of e)) ∙ w.body.found;
        home = subst (λ j. IsHomeOf d j w.body.body) (sym home) (home_of_body m d design (home_of d.objects.list o.parent) w.place w.body.body w.home w.body.is_body.in_module);
        kind = subst (RunsAs p.kind) (sym w.body.is_body.kind) (subst (λ k. RunsAs k (source_kind w.runs.source)) (ap kind_of e ∙ sym kind) w.runs.runs);
        parameters = w.body.is_body.parameters ∙ w.runs.parameters;
        answer = subst (λ t. IsAnswer t w.body.body.answer) w.runs.answer w.body.is_body.answer;
        sensitive = sensitive;
      }

  process_fits : (k : ℕ) (o : Object) → slice_get d.objects.list k ≡ Some o → (n : ℕ) (f : ObjectForm) → o.form ≡ f → (i : ℕ) (p : ProcessPart)
      → slice_get (process_by (static_lists m.modules) d.ports d.instances n (home_of d.objects.list o.parent) f) i ≡ Some p → ProcessFits d p
  process_fits k o found n (form.Process kind code dont_initialize) e zero p gives =
      let w = runs_body k o found (ap is_process e) in
      let list = sym (w.body.written) ∙ ap (static_list (static_lists m.modules)) (ap code_of e) in
      let events = sensitive_to w.place w.around_it w.there (home_of d.objects.list o.parent) w.home w.item w.listed w.runs.source w.runs.has in
      subst (ProcessFits d) (same_some _ p gives)
      (fits o w (form.Process kind code dont_initialize) e _ refl refl refl (subst (λ us. EachOf (EventFits d) (static_events d.ports (names_at d.instances (home_of d.objects.list o.parent)) us)) list events))
  process_fits k o found n (form.Process kind code dont_initialize) e (suc i) p gives = cc
  process_fits k o found n (form.Clock period high start code) e zero p gives =
      let w = runs_body k o found (ap is_process e) in
      subst (ProcessFits d) (same_some _ p gives) (fits o w (form.Clock period high start code) e _ refl refl refl tt)
  process_fits k o found n (form.Clock period high start code) e (suc i) p gives = cc
  process_fits k o found n other e i p gives = cc

  pub processes_fit : (n : ℕ) (p : ProcessPart) → slice_get d.processes n ≡ Some p → ProcessFits d p
  processes_fit n p e =
      let all = d.objects.list in
      let r =
      from_place (λ c (x : Object). process_by (static_lists m.modules) d.ports d.instances c.objects (home_of all x.parent) x.form) (λ c. c.processes)
      (λ c x. processes_step (static_lists m.modules) d.ports d.instances c.objects (home_of all x.parent) c x.form) nothing_before all n p (sym (ap (λ (xs : List ProcessPart). slice_get xs n) design.processes) ∙ e) in
      process_fits r.place r.object r.found (before all r.place).objects r.object.form refl r.index p r.gives
