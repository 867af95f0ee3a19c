-- The channels of a port are what it leads to.
use Rattle.std.proofs.Common.{◌≡◌, ◌==◌, ℕ, zero, suc, Bool, true, false, cond, not, List, [], ◌∷◌, Option, Some, None, refl, sym, ap, ◌∙◌, subst, inl, inr, arith}
use Rattle.std.specs.Prelude.{⊤, ◌⊎◌, slice_get, option_map, unwrap_or, filter}
use Rattle.std.specs.List.{AllByRecursion, flat_map, cons_option}
use Rattle.std.proofs.lemmas.Bool.{eqb-true, false≢true}
use Rattle.std.proofs.lemmas.Option.{slice_get_within}
use Rattle.elaborate_objects.specs.ModelTree.Tree as tree
use Rattle.elaborate_objects.specs.FlatDesign.Typed.{EachOf, ChannelOffers}
use Rattle.elaborate_objects.specs.FlatDesign.Sound.{ChannelFits, DenotedFits, PortFits}
use Rattle.elaborate_objects.specs.FlatDesign.declared.value_types.ValueType.{ValueType}
use Rattle.elaborate_objects.specs.FlatDesign.declared.value_types.ValueType.TheVariants as type
use Rattle.elaborate_objects.specs.FlatDesign.declared.objects.LeadsTo.{LeadsTo}
use Rattle.elaborate_objects.specs.FlatDesign.declared.objects.LeadsTo.TheVariants as leads
use Rattle.elaborate_objects.specs.FlatDesign.declared.objects.Object.{Object}
use Rattle.elaborate_objects.specs.FlatDesign.declared.objects.Objects.{Objects}
use Rattle.elaborate_objects.specs.FlatDesign.declared.objects.ObjectForm.{ObjectForm}
use Rattle.elaborate_objects.specs.FlatDesign.declared.objects.ObjectForm.TheVariants as form
use Rattle.elaborate_objects.specs.FlatDesign.declared.objects.Binding.{Binding}
use Rattle.elaborate_objects.specs.FlatDesign.declared.design.ChannelId.{ChannelId}
use Rattle.elaborate_objects.specs.FlatDesign.declared.design.Denoted.{Denoted}
use Rattle.elaborate_objects.specs.FlatDesign.declared.design.Denoted.TheVariants as denoted
use Rattle.elaborate_objects.specs.FlatDesign.declared.design.PortPart.{PortPart}
use Rattle.elaborate_objects.specs.FlatDesign.declared.design.Design.{Design}
use Rattle.elaborate_objects.proofs.ModelRules.Firsts.{or_none}
use Rattle.elaborate_objects.specs.DesignRules.Listing.{objects_of}
use Rattle.elaborate_objects.specs.DesignRules.Objects.{form_at, bindings_of}
use Rattle.elaborate_objects.specs.DesignRules.Fits.{is_same_type, leads_through, fits, fits_end, differs_at, kind_differs}
use Rattle.elaborate_objects.specs.DesignRules.Paths.{ends_path, is_end, itself_or, ends_within, ends_of, steps}
use Rattle.elaborate_objects.specs.DesignRules.BindingFaults.{fault_if, binding_fault, bindings_fault, objects_fault, first_fault}
use Rattle.elaborate_objects.specs.DesignRules.declared.counts.Counts.{Counts}
use Rattle.elaborate_objects.specs.DesignRules.Counting.{behind, along, nothing_before}
use Rattle.elaborate_objects.specs.DesignRules.Denoting.{socket_end, denoted_by, object_denoted}
use Rattle.elaborate_objects.specs.DesignRules.Parts.{denotes, channel_in, channels_among, port_by}
use Rattle.elaborate_objects.specs.DesignRules.Designs.{IsDesignOf}
use Rattle.laws_design.proofs.Along.{before, from_place}
use Rattle.laws_design.proofs.Numbered.{ports_step, number_of, denoted_there}
use Rattle.laws_design.proofs.Fits.{hops, signal_there, fifo_there, form_fits}
use Rattle.laws_design.proofs.Children.{all_append, same_some}

-- equality of types

same_int : (f : ℕ → ValueType) (v w : ℕ) → (v == w) ≡ true → f v ≡ f w
same_int f v w h = ap f (eqb-true v w h)

pub same_type : (s t : ValueType) → is_same_type s t ≡ true → s ≡ t
same_type type.Bool type.Bool h = refl
same_type (type.Int v) (type.Int w) h = same_int type.Int v w h
same_type (type.Uint v) (type.Uint w) h = same_int type.Uint v w h
same_type type.Logic type.Logic h = refl
same_type (type.Vector v) (type.Vector w) h = same_int type.Vector v w h
same_type type.Time type.Time h = refl
same_type type.Process type.Process h = refl
same_type type.Payload type.Payload h = refl
same_type s t h = absurd (false≢true h)

-- what leads through another port or export leads to the same, or reads what that writes
abbrev Through : LeadsTo → LeadsTo → Type 0
Through l k = (l ≡ k) ⊎ ((t : ValueType) × (l ≡ leads.In t) × (k ≡ leads.Out t))

through : (l k : LeadsTo) → leads_through l k ≡ true → Through l k
through (leads.In s) (leads.In t) h = inl (ap leads.In (same_type s t h))
through (leads.In s) (leads.Out t) h = inr (t, ap leads.In (same_type s t h), refl)
through (leads.Out s) (leads.Out t) h = inl (ap leads.Out (same_type s t h))
through (leads.FifoIn s) (leads.FifoIn t) h = inl (ap leads.FifoIn (same_type s t h))
through (leads.FifoOut s) (leads.FifoOut t) h = inl (ap leads.FifoOut (same_type s t h))
through leads.Mutex leads.Mutex h = inl refl
through leads.Semaphore leads.Semaphore h = inl refl
through l k h = absurd (false≢true h)

reads_too : (t : ValueType) (f : ObjectForm) → ends_path f ≡ true → fits (leads.Out t) f ≡ true → fits (leads.In t) f ≡ true
reads_too t (form.Signal kind many u initial) e h = h
reads_too t form.Resolved e h = h
reads_too t other e h = cc

fits_through : (l k : LeadsTo) (f : ObjectForm) → ends_path f ≡ true → Through l k → fits k f ≡ true → fits l f ≡ true
fits_through l k f e (inl same) h = subst (λ x. fits x f ≡ true) (sym same) h
fits_through l k f e (inr w) h = subst (λ x. fits x f ≡ true) (sym w.1) (reads_too w.0 f e (subst (λ x. fits x f ≡ true) w.2 h))

module _ (os : Objects) (none : bindings_fault os os.binds ≡ None) where
  abbrev FitsAt : LeadsTo → ℕ → Type 0
  FitsAt l t = (f : ObjectForm) → form_at os t ≡ Some f → ends_path f ≡ true → fits l f ≡ true

  not_differs : (b : Bool) → not b ≡ false → b ≡ true
  not_differs true h = refl
  not_differs false h = cc

  no_fault : (b : Binding) (k : Bool) → fault_if os b k ≡ None → k ≡ false
  no_fault b true h = cc
  no_fault b false h = refl

  all_agree : (bs : List Binding) → bindings_fault os bs ≡ None → AllByRecursion (λ (b : Binding). kind_differs os b ≡ false) bs
  all_agree [] h = tt
  all_agree (b ∷ bs) h = let w = or_none (binding_fault os b) (bindings_fault os bs) h in (no_fault b (kind_differs os b) w.0, all_agree bs w.1)

  -- the bindings of a left end agree in kind with it
  abbrev Agrees : ℕ → Binding → Type 0
  Agrees i b = (b.left ≡ i) × (kind_differs os b ≡ false)

  kept_one : (i : ℕ) (t : Bool) (b : Binding) (bs : List Binding) → (b.left == i) ≡ t → kind_differs os b ≡ false → AllByRecursion (Agrees i) bs
      → AllByRecursion (Agrees i) (cond t (b ∷ bs) bs)
  kept_one i true b bs e h k = ((eqb-true b.left i e, h), k)
  kept_one i false b bs e h k = k

  left_agree : (i : ℕ) (bs : List Binding) → AllByRecursion (λ (b : Binding). kind_differs os b ≡ false) bs → AllByRecursion (Agrees i) (filter (λ (b : Binding). b.left == i) bs)
  left_agree i [] h = tt
  left_agree i (b ∷ bs) h = kept_one i (b.left == i) b (filter (λ (x : Binding). x.left == i) bs) refl h.0 (left_agree i bs h.1)

  -- what a port or an export leads to
  abbrev leads_of : ObjectForm → Option LeadsTo
  leads_of (form.Port l size rule) = Some l
  leads_of (form.Export l) = Some l
  leads_of other = None

  right_fits : (f : ObjectForm) (l : LeadsTo) (g : Option ObjectForm) → leads_of f ≡ Some l → differs_at g (Some f) ≡ false → fits_end l g ≡ true
  right_fits (form.Port k size rule) l g e h = subst (λ x. fits_end x g ≡ true) (same_some k l e) (not_differs (fits_end k g) h)
  right_fits (form.Export k) l g e h = subst (λ x. fits_end x g ≡ true) (same_some k l e) (not_differs (fits_end k g) h)
  right_fits other l g e h = cc

  weaker : (l k : LeadsTo) → leads_through l k ≡ true → (ts : List ℕ) → AllByRecursion (FitsAt k) ts → AllByRecursion (FitsAt l) ts
  weaker l k h [] a = tt
  weaker l k h (t ∷ ts) a = (λ f e last. fits_through l k f last (through l k h) (a.0 f e last), weaker l k h ts a.1)

  abbrev Follows : ℕ → Type 0
  Follows n = (i : ℕ) (f : ObjectForm) (l : LeadsTo) → form_at os i ≡ Some f → leads_of f ≡ Some l → AllByRecursion (FitsAt l) (ends_within n os i)

  one_end : (n t : ℕ) (l : LeadsTo) (g : ObjectForm) → Follows n → form_at os t ≡ Some g → fits l g ≡ true → AllByRecursion (FitsAt l) (itself_or (ends_within n os t) t (ends_path g))
  one_end n t l (form.Port k size rule) follows e h = weaker l k h (ends_within n os t) (follows t (form.Port k size rule) k e refl)
  one_end n t l (form.Export k) follows e h = weaker l k h (ends_within n os t) (follows t (form.Export k) k e refl)
  one_end n t l (form.Initiator pass backward) follows e h = absurd (false≢true h)
  one_end n t l (form.Target pass blocking forward) follows e h = absurd (false≢true h)
  one_end n t l other follows e h = (λ f k last. subst (λ x. fits l x ≡ true) (same_some other f (sym e ∙ k)) h, tt)

  end_by : (n t : ℕ) (l : LeadsTo) (g : Option ObjectForm) → Follows n → form_at os t ≡ g → fits_end l g ≡ true → AllByRecursion (FitsAt l) (itself_or (ends_within n os t) t (is_end g))
  end_by n t l None follows e h = absurd (false≢true h)
  end_by n t l (Some g) follows e h = one_end n t l g follows e h

  all_follow : (n i : ℕ) (f : ObjectForm) (l : LeadsTo) (bs : List Binding) → Follows n → form_at os i ≡ Some f → leads_of f ≡ Some l → AllByRecursion (Agrees i) bs
      → AllByRecursion (FitsAt l) (flat_map (λ (b : Binding). itself_or (ends_within n os b.right) b.right (is_end (form_at os b.right))) bs)
  all_follow n i f l [] follows e k h = tt
  all_follow n i f l (b ∷ bs) follows e k h =
      let left : form_at os b.left ≡ Some f = ap (form_at os) h.0.0 ∙ e in
      let agrees = subst (λ x. differs_at (form_at os b.right) x ≡ false) left h.0.1 in
      all_append (FitsAt l) (itself_or (ends_within n os b.right) b.right (is_end (form_at os b.right))) _
      (end_by n b.right l (form_at os b.right) follows refl (right_fits f l (form_at os b.right) k agrees)) (all_follow n i f l bs follows e k h.1)

  pub follow : (n : ℕ) → Follows n
  unfolding ends_within
  follow zero i f l e k = tt
  follow (suc n) i f l e k = all_follow n i f l (bindings_of os i) (follow n) e k (left_agree i os.binds (all_agree os.binds none))

-- channels

-- past the objects nothing is denoted
denoted_past : (g : Counts → Object → Denoted) (n : Counts) (os : List Object) (k : ℕ) → slice_get os k ≡ None → slice_get (along (λ c o. g c o ∷ []) n os) k ≡ None
denoted_past g n [] k h = refl
denoted_past g n (o ∷ os) zero h = cc
denoted_past g n (o ∷ os) (suc k) h = denoted_past g (behind n o.form) os k h

module _ (m : tree.Model) (d : Design) (design : IsDesignOf m d) (none : bindings_fault d.objects d.objects.binds ≡ None) where
  abbrev Leads : LeadsTo → ChannelId → Type 0
  Leads l c = ChannelFits d c × ChannelOffers d c l

  abbrev LeadsIf : LeadsTo → Option ChannelId → Type 0
  LeadsIf l None = ⊤
  LeadsIf l (Some c) = Leads l c

  module _ (k : ℕ) (o : Object) (found : slice_get d.objects.list k ≡ Some o) where
    abbrev n : Counts
    n = before d.objects.list k

    there : (f : ObjectForm) → o.form ≡ f → DenotedFits d (denoted_by (hops m d design) n f)
    there f e = form_fits m d design k o found f e

    offers : (l : LeadsTo) (f : ObjectForm) → o.form ≡ f → fits l f ≡ true → LeadsIf l (channel_in (denoted_by (hops m d design) n f))
    offers (leads.In s) (form.Signal kind many t initial) e h = (there _ e, (_, signal_there m d design k o found _ _ e refl, sym (same_type s t h)))
    offers (leads.Out s) (form.Signal kind many t initial) e h = (there _ e, (_, signal_there m d design k o found _ _ e refl, sym (same_type s t h)))
    offers (leads.In s) form.Resolved e h = (there _ e, same_type s type.Logic h)
    offers (leads.Out s) form.Resolved e h = (there _ e, same_type s type.Logic h)
    offers (leads.In s) (form.Clock period high start code) e h = (there _ e, (_, signal_there m d design k o found _ _ e refl, sym (same_type s type.Bool h)))
    offers (leads.FifoIn s) (form.Fifo t size) e h = (there _ e, (_, fifo_there m d design k o found _ _ e refl, sym (same_type s t h)))
    offers (leads.FifoOut s) (form.Fifo t size) e h = (there _ e, (_, fifo_there m d design k o found _ _ e refl, sym (same_type s t h)))
    offers leads.Mutex form.Mutex e h = (there _ e, tt)
    offers leads.Semaphore (form.Semaphore start) e h = (there _ e, tt)
    offers l (form.Port leads_to size rule) e h = tt
    offers l (form.Export leads_to) e h = tt
    offers l f e h = absurd (false≢true h)

    -- a socket is no channel
    socket_leads : (l : LeadsTo) (forward : Bool) (h : Option ℕ) → LeadsIf l (channel_in (socket_end forward h))
    socket_leads l forward None = tt
    socket_leads l forward (Some h) = tt

    offers_by : (l : LeadsTo) (f : ObjectForm) → o.form ≡ f → (ends_path f ≡ true → fits l f ≡ true) → LeadsIf l (channel_in (denoted_by (hops m d design) n f))
    offers_by l (form.Instance p) e h = tt
    offers_by l (form.Signal kind many t initial) e h = offers l (form.Signal kind many t initial) e (h refl)
    offers_by l form.Resolved e h = offers l form.Resolved e (h refl)
    offers_by l (form.Clock period high start code) e h = offers l (form.Clock period high start code) e (h refl)
    offers_by l (form.Fifo t size) e h = offers l (form.Fifo t size) e (h refl)
    offers_by l form.Mutex e h = offers l form.Mutex e (h refl)
    offers_by l form.Event e h = tt
    offers_by l form.Keeper e h = tt
    offers_by l (form.Semaphore start) e h = offers l (form.Semaphore start) e (h refl)
    offers_by l (form.Memory size) e h = tt
    offers_by l (form.Variable t initial) e h = tt
    offers_by l (form.Port leads_to size rule) e h = tt
    offers_by l (form.Export leads_to) e h = tt
    offers_by l (form.Initiator pass backward) e h = socket_leads l true _
    offers_by l (form.Target pass blocking forward) e h = socket_leads l false _
    offers_by l (form.Process kind code dont_initialize) e h = tt

    number : n.objects ≡ k
    number = let short = slice_get_within d.objects.list k o found in let e = number_of nothing_before d.objects.list k (omega (arith, short)) in omega (arith, e)

  -- the object of a number
  leads_at : (l : LeadsTo) (t : ℕ) (o : Option Object) → slice_get d.objects.list t ≡ o → FitsAt d.objects none l t → LeadsIf l (channel_in (object_denoted (denotes d.objects) t))
  leads_at l t None e h =
      let past = denoted_past (λ n (x : Object). denoted_by (hops m d design) n x.form) nothing_before d.objects.list t e in
      subst (λ (x : Option Denoted). LeadsIf l (channel_in (unwrap_or x denoted.Nothing))) (sym past) tt
  leads_at l t (Some o) e h =
      let short = slice_get_within d.objects.list t o e in
      let at = denoted_there (hops m d design) d.objects.list t o e (omega (arith, short)) in
      subst (λ (x : Option Denoted). LeadsIf l (channel_in (unwrap_or x denoted.Nothing))) (sym at) (offers_by t o e l o.form refl (λ last. h o.form (ap (option_map (λ (x : Object). x.form)) e) last))

  cons_leads : (l : LeadsTo) (o : Option ChannelId) (cs : List ChannelId) → LeadsIf l o → EachOf (Leads l) cs → EachOf (Leads l) (cons_option o cs)
  cons_leads l None cs h k = k
  cons_leads l (Some c) cs h k = (h, k)

  all_lead : (l : LeadsTo) (ts : List ℕ) → AllByRecursion (FitsAt d.objects none l) ts → EachOf (Leads l) (channels_among (denotes d.objects) ts)
  all_lead l [] h = tt
  all_lead l (t ∷ ts) h = cons_leads l (channel_in (object_denoted (denotes d.objects) t)) (channels_among (denotes d.objects) ts) (leads_at l t (slice_get d.objects.list t) refl h.0) (all_lead l ts h.1)

  -- ports

  port_fits : (k : ℕ) (o : Object) → slice_get d.objects.list k ≡ Some o → (f : ObjectForm) → o.form ≡ f → (i : ℕ) (p : PortPart)
      → slice_get (port_by (denotes d.objects) (ends_of d.objects (before d.objects.list k).objects) (before d.objects.list k).objects f) i ≡ Some p → PortFits d p
  port_fits k o found (form.Port l size rule) e zero p gives =
      let j = number k o found in
      let there : form_at d.objects (before d.objects.list k).objects ≡ Some (form.Port l size rule) = ap (form_at d.objects) j ∙ ap (option_map (λ (x : Object). x.form)) found ∙ ap Some e in
      subst (PortFits d) (same_some _ p gives) (all_lead l (ends_of d.objects (before d.objects.list k).objects) (follow d.objects none (steps d.objects) (before d.objects.list k).objects (form.Port l size rule) l there refl))
  port_fits k o found (form.Port l size rule) e (suc i) p gives = cc
  port_fits k o found other e i p gives = cc

  pub ports_fit : (n : ℕ) (p : PortPart) → slice_get d.ports n ≡ Some p → PortFits d p
  ports_fit n p e =
      let r =
      from_place (λ c (x : Object). port_by (denotes d.objects) (ends_of d.objects c.objects) c.objects x.form) (λ c. c.ports) (λ c x. ports_step (denotes d.objects) (ends_of d.objects c.objects) c.objects c x.form) nothing_before
      d.objects.list n p (sym (ap (λ (xs : List PortPart). slice_get xs n) design.ports) ∙ e) in
      port_fits r.place r.object r.found r.object.form refl r.index p r.gives

-- no binding of an accepted model has a fault
pub no_binding_fault : (m : tree.Model) (d : Design) → IsDesignOf m d → first_fault (objects_of m) ≡ None → bindings_fault d.objects d.objects.binds ≡ None
no_binding_fault m d design none =
    subst (λ (os : Objects). bindings_fault os os.binds ≡ None) (sym design.objects) (or_none (bindings_fault (objects_of m) (objects_of m).binds) (objects_fault (objects_of m) 0 (objects_of m).list) none).0
