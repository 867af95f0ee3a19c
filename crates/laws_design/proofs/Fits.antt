-- What names stand for is there.
use Rattle.std.proofs.Common.{◌≡◌, ◌<◌, ◌≤◌, ℕ, zero, suc, ◌+◌, Bool, true, false, cond, List, [], ◌∷◌, map, length, Option, Some, None, refl, sym, ap, ◌∙◌, subst, arith}
use Rattle.std.specs.Prelude.{slice_get, unwrap_or, option_and_then, position, nat_lt}
use Rattle.std.specs.List.{position_or_len}
use Rattle.std.proofs.lemmas.Bool.{ltb-true}
use Rattle.std.proofs.lemmas.List.{length-map}
use Rattle.std.proofs.lemmas.Option.{slice_get_within}
use Rattle.elaborate_objects.specs.ModelTree.Tree as tree
use Rattle.elaborate_objects.specs.FlatDesign.Denotes.{denoted_at}
use Rattle.elaborate_objects.specs.FlatDesign.Sound.{DenotedFits}
use Rattle.elaborate_objects.specs.FlatDesign.declared.objects.Object.{Object}
use Rattle.elaborate_objects.specs.FlatDesign.declared.objects.ObjectForm.{ObjectForm}
use Rattle.elaborate_objects.specs.FlatDesign.declared.objects.ObjectForm.TheVariants as form
use Rattle.elaborate_objects.specs.FlatDesign.declared.design.Denoted.{Denoted}
use Rattle.elaborate_objects.specs.FlatDesign.declared.design.Denoted.TheVariants as denoted
use Rattle.elaborate_objects.specs.FlatDesign.declared.design.InstancePart.{InstancePart}
use Rattle.elaborate_objects.specs.FlatDesign.declared.design.ProcessPart.{ProcessPart}
use Rattle.elaborate_objects.specs.FlatDesign.declared.design.Design.{Design}
use Rattle.elaborate_objects.specs.ModelRules.Meanings.{Declared, declarations}
use Rattle.elaborate_objects.specs.DesignRules.declared.bindings.Joined.{Joined}
use Rattle.elaborate_objects.specs.DesignRules.Bound.{bound}
use Rattle.elaborate_objects.specs.DesignRules.Forms.{items_at}
use Rattle.elaborate_objects.specs.DesignRules.declared.counts.Counts.{Counts}
use Rattle.elaborate_objects.specs.DesignRules.Counting.{nothing_before, along, totals}
use Rattle.elaborate_objects.specs.DesignRules.Denoting.{begins_at, ends_at, socket_end, denoted_by, object_denoted, named_in, names_in}
use Rattle.elaborate_objects.specs.DesignRules.Parts.{denotes, hop_of, signal_by, resolved_by, fifo_by, semaphore_by, memory_by, variable_by, port_by, instance_by}
use Rattle.elaborate_objects.specs.DesignRules.Parts.{home_of}
use Rattle.elaborate_objects.specs.DesignRules.Statics.{static_lists, process_by}
use Rattle.elaborate_objects.specs.DesignRules.Paths.{ends_of}
use Rattle.elaborate_objects.specs.DesignRules.Designs.{IsDesignOf}
use Rattle.laws_design.proofs.Along.{same_some, before, at_place, from_place}
use Rattle.laws_design.proofs.Numbered.{objects_step, instances_step, signals_step, resolved_step, fifos_step, semaphores_step, memories_step, variables_step, ports_step, processes_step, events_there, mutexes_there, keepers_there}

-- a position is below the length
pub below_length : (b : Bool) (n k l : ℕ) → nat_lt n l ≡ b → cond b (Some n) None ≡ Some k → k < l
below_length true n k l e h = subst (λ j. j < l) (same_some n k h) (ltb-true n l e)
below_length false n k l e h = cc

module _ (m : tree.Model) (d : Design) (design : IsDesignOf m d) where
  abbrev pub hops : List Joined
  hops = (bound d.objects).hops

  abbrev pub all : List Object
  all = d.objects.list

  socket_fits : (forward : Bool) (test : Joined → Bool) (o : Option ℕ) → position test hops ≡ o → DenotedFits d (socket_end forward o)
  socket_fits forward test None e = tt
  socket_fits forward test (Some h) e =
      let l = length-map hops (hop_of d.objects) in
      let long = ap (λ (xs : List _). length xs) design.hops in
      let short = below_length (nat_lt (position_or_len test hops) (length hops)) (position_or_len test hops) h (length hops) refl e in
      omega (arith, l, long, short)

  -- the object of this number
  module _ (k : ℕ) (o : Object) (found : slice_get all k ≡ Some o) where
    abbrev pub n : Counts
    n = before all k

    events_fit : (f : ObjectForm) → o.form ≡ f → (Rattle.elaborate_objects.specs.DesignRules.Counting.behind n f).events ≤ d.events
    events_fit f e = subst (λ j. (Rattle.elaborate_objects.specs.DesignRules.Counting.behind n f).events ≤ j) (sym design.events) (events_there all k o found f e)

    pub signal_there : (f : ObjectForm) (p : _) → o.form ≡ f → slice_get (signal_by n f) 0 ≡ Some p → slice_get d.signals n.signals ≡ Some p
    signal_there f p e h =
        ap (λ (xs : List _). slice_get xs n.signals) design.signals
        ∙ at_place (λ c (x : Object). signal_by c x.form) (λ c. c.signals) (λ c x. signals_step c x.form) nothing_before all k o found 0 p (ap (λ g. slice_get (signal_by n g) 0) e ∙ h) n.signals (omega arith)

    pub resolved_there : (f : ObjectForm) (p : _) → o.form ≡ f → slice_get (resolved_by n f) 0 ≡ Some p → slice_get d.resolved n.resolved ≡ Some p
    resolved_there f p e h =
        ap (λ (xs : List _). slice_get xs n.resolved) design.resolved
        ∙ at_place (λ c (x : Object). resolved_by c x.form) (λ c. c.resolved) (λ c x. resolved_step c x.form) nothing_before all k o found 0 p (ap (λ g. slice_get (resolved_by n g) 0) e ∙ h) n.resolved (omega arith)

    pub fifo_there : (f : ObjectForm) (p : _) → o.form ≡ f → slice_get (fifo_by n f) 0 ≡ Some p → slice_get d.fifos n.fifos ≡ Some p
    fifo_there f p e h =
        ap (λ (xs : List _). slice_get xs n.fifos) design.fifos
        ∙ at_place (λ c (x : Object). fifo_by c x.form) (λ c. c.fifos) (λ c x. fifos_step c x.form) nothing_before all k o found 0 p (ap (λ g. slice_get (fifo_by n g) 0) e ∙ h) n.fifos (omega arith)

    pub semaphore_there : (f : ObjectForm) (p : _) → o.form ≡ f → slice_get (semaphore_by n f) 0 ≡ Some p → slice_get d.semaphores n.semaphores ≡ Some p
    semaphore_there f p e h =
        ap (λ (xs : List _). slice_get xs n.semaphores) design.semaphores
        ∙ at_place (λ c (x : Object). semaphore_by c x.form) (λ c. c.semaphores) (λ c x. semaphores_step c x.form) nothing_before all k o found 0 p (ap (λ g. slice_get (semaphore_by n g) 0) e ∙ h) n.semaphores (omega arith)

    pub memory_there : (f : ObjectForm) (p : _) → o.form ≡ f → slice_get (memory_by n f) 0 ≡ Some p → slice_get d.memories n.memories ≡ Some p
    memory_there f p e h =
        ap (λ (xs : List _). slice_get xs n.memories) design.memories
        ∙ at_place (λ c (x : Object). memory_by c x.form) (λ c. c.memories) (λ c x. memories_step c x.form) nothing_before all k o found 0 p (ap (λ g. slice_get (memory_by n g) 0) e ∙ h) n.memories (omega arith)

    pub variable_there : (f : ObjectForm) (p : _) → o.form ≡ f → slice_get (variable_by n f) 0 ≡ Some p → slice_get d.variables n.variables ≡ Some p
    variable_there f p e h =
        ap (λ (xs : List _). slice_get xs n.variables) design.variables
        ∙ at_place (λ c (x : Object). variable_by c x.form) (λ c. c.variables) (λ c x. variables_step c x.form) nothing_before all k o found 0 p (ap (λ g. slice_get (variable_by n g) 0) e ∙ h) n.variables (omega arith)

    pub port_there : (f : ObjectForm) (p : _) → o.form ≡ f → slice_get (port_by (denotes d.objects) (ends_of d.objects n.objects) n.objects f) 0 ≡ Some p → slice_get d.ports n.ports ≡ Some p
    port_there f p e h =
        ap (λ (xs : List _). slice_get xs n.ports) design.ports
        ∙ at_place (λ c (x : Object). port_by (denotes d.objects) (ends_of d.objects c.objects) c.objects x.form) (λ c. c.ports) (λ c x. ports_step (denotes d.objects) (ends_of d.objects c.objects) c.objects c x.form) nothing_before all k o found 0 p
        (ap (λ g. slice_get (port_by (denotes d.objects) (ends_of d.objects n.objects) n.objects g) 0) e ∙ h) n.ports (omega arith)

    abbrev process_given : Counts → Object → List ProcessPart
    process_given c x = process_by (static_lists m.modules) d.ports d.instances c.objects (home_of all x.parent) x.form

    pub process_there : (f : ObjectForm) (p : _) → o.form ≡ f → slice_get (process_by (static_lists m.modules) d.ports d.instances n.objects (home_of all o.parent) f) 0 ≡ Some p → slice_get d.processes n.processes ≡ Some p
    process_there f p e h =
        ap (λ (xs : List _). slice_get xs n.processes) design.processes
        ∙ at_place process_given (λ c. c.processes) (λ c x. processes_step (static_lists m.modules) d.ports d.instances c.objects (home_of all x.parent) c x.form) nothing_before all k o found 0 p
        (ap (λ g. slice_get (process_by (static_lists m.modules) d.ports d.instances n.objects (home_of all o.parent) g) 0) e ∙ h) n.processes (omega arith)

    pub form_fits : (f : ObjectForm) → o.form ≡ f → DenotedFits d (denoted_by hops n f)
    form_fits (form.Instance p) e = tt
    form_fits (form.Signal kind many t initial) e = let w = events_fit (form.Signal kind many t initial) e in (_, signal_there (form.Signal kind many t initial) _ e refl, refl, omega (arith, w))
    form_fits form.Resolved e = let w = events_fit form.Resolved e in (_, resolved_there form.Resolved _ e refl, refl, omega (arith, w))
    form_fits (form.Clock period high start code) e = let w = events_fit (form.Clock period high start code) e in (_, signal_there (form.Clock period high start code) _ e refl, refl, omega (arith, w))
    form_fits (form.Fifo t size) e = let w = events_fit (form.Fifo t size) e in (_, fifo_there (form.Fifo t size) _ e refl, refl, omega (arith, w))
    form_fits form.Mutex e =
        let w = events_fit form.Mutex e in
        let u = mutexes_there all k o found form.Mutex e in
        let v = design.mutexes in
        (omega (arith, u, v), omega (arith, w))
    form_fits form.Event e = let w = events_fit form.Event e in omega (arith, w)
    form_fits form.Keeper e = let u = keepers_there all k o found form.Keeper e in let v = design.keepers in omega (arith, u, v)
    form_fits (form.Semaphore start) e = let w = events_fit (form.Semaphore start) e in (slice_get_within d.semaphores n.semaphores _ (semaphore_there (form.Semaphore start) _ e refl), omega (arith, w))
    form_fits (form.Memory size) e = slice_get_within d.memories n.memories _ (memory_there (form.Memory size) _ e refl)
    form_fits (form.Variable t initial) e = slice_get_within d.variables n.variables _ (variable_there (form.Variable t initial) _ e refl)
    form_fits (form.Port leads_to size rule) e = slice_get_within d.ports n.ports _ (port_there (form.Port leads_to size rule) _ e refl)
    form_fits (form.Export leads_to) e = tt
    form_fits (form.Initiator pass backward) e = socket_fits true (begins_at n.objects) (position (begins_at n.objects) hops) refl
    form_fits (form.Target pass blocking forward) e = socket_fits false (ends_at n.objects) (position (ends_at n.objects) hops) refl
    form_fits (form.Process kind code dont_initialize) e = slice_get_within d.processes n.processes _ (process_there (form.Process kind code dont_initialize) _ e refl)

  -- an object by its number among all of them
  one_of : {X : Type 0} (x y : X) (i : ℕ) → slice_get (x ∷ []) i ≡ Some y → x ≡ y
  one_of x y zero h = same_some x y h
  one_of x y (suc i) h = cc

  fits_by : (c : ℕ) (x : Option Denoted) → slice_get (denotes d.objects) c ≡ x → DenotedFits d (unwrap_or x denoted.Nothing)
  fits_by c None e = tt
  fits_by c (Some x) e =
      let r = from_place (λ n (y : Object). denoted_by hops n y.form ∷ []) (λ n. n.objects) (λ n y. objects_step n y.form) nothing_before all c x e in
      subst (DenotedFits d) (one_of (denoted_by hops (before all r.place) r.object.form) x r.index r.gives) (form_fits r.place r.object r.found r.object.form refl)

  pub object_fits : (c : ℕ) → DenotedFits d (object_denoted (denotes d.objects) c)
  object_fits c = fits_by c (slice_get (denotes d.objects) c) refl

  named_fits : (f : Declared → Denoted) (ds : List Declared) → ((y : Declared) → DenotedFits d (f y)) → (n : ℕ) → DenotedFits d (unwrap_or (slice_get (map f ds) n) denoted.Nothing)
  named_fits f [] h n = tt
  named_fits f (y ∷ ds) h zero = h y
  named_fits f (y ∷ ds) h (suc n) = named_fits f ds h n

  -- an instance among the instances comes from an object
  pub record IsInstancePart (home : ℕ) (i : InstancePart) : Type 0 where
    pub number : ℕ
    pub object : Object
    pub found : slice_get all number ≡ Some object
    pub is_instance : object.form ≡ form.Instance i.module_place
    pub names : i.names ≡ names_in (denotes d.objects) all (before all number).objects (items_at m.modules i.module_place)
    pub counted : home ≡ (before all number).instances

  instance_by_form : (home k : ℕ) (o : Object) (i : InstancePart) (index : ℕ) (f : ObjectForm) → slice_get all k ≡ Some o → o.form ≡ f → slice_get (instance_by m.modules (denotes d.objects) all (before all k).objects f) index ≡ Some i
      → home ≡ (before all k).instances + index → IsInstancePart home i
  instance_by_form home k o i zero (form.Instance p) found e gives number =
      let same = same_some _ i gives in
      record {
        number = k;
        object = o;
        found = found;
        is_instance = e ∙ ap (λ (x : InstancePart). form.Instance x.module_place) same;
        names = subst (λ (x : InstancePart). x.names ≡ names_in (denotes d.objects) all (before all k).objects (items_at m.modules x.module_place)) same refl;
        counted = omega (arith, number);
      }
  instance_by_form home k o i (suc index) (form.Instance p) found e gives number = cc
  instance_by_form home k o i index other found e gives number = cc

  pub instance_part : (home : ℕ) (i : InstancePart) → slice_get d.instances home ≡ Some i → IsInstancePart home i
  instance_part home i e =
      let r =
      from_place (λ c (x : Object). instance_by m.modules (denotes d.objects) all c.objects x.form) (λ c. c.instances) (λ c x. instances_step m.modules (denotes d.objects) all c.objects c x.form) nothing_before all home i
      (sym (ap (λ (xs : List InstancePart). slice_get xs home) design.instances) ∙ e) in
      let number = r.number_is in
      instance_by_form home r.place r.object i r.index r.object.form r.found refl r.gives (omega (arith, number))

  at_home : (home n : ℕ) (i : Option InstancePart) → slice_get d.instances home ≡ i → DenotedFits d (unwrap_or (option_and_then (λ (x : InstancePart). slice_get x.names n) i) denoted.Nothing)
  at_home home n None e = tt
  at_home home n (Some i) e =
      let r = instance_part home i e in
      subst (λ (xs : List Denoted). DenotedFits d (unwrap_or (slice_get xs n) denoted.Nothing)) (sym r.names)
      (named_fits (λ (y : Declared). named_in (denotes d.objects) all (before all r.number).objects y.name) (declarations (items_at m.modules i.module_place)) (λ y. object_fits _) n)

  pub names_fit : (home n : ℕ) → DenotedFits d (denoted_at d home n)
  names_fit home n = at_home home n (slice_get d.instances home) refl
