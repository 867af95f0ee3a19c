-- The events that a static sensitivity names are there.
use Rattle.std.proofs.Common.{◌≡◌, ◌≤◌, ℕ, zero, suc, List, [], ◌∷◌, ◌++◌, map, Option, Some, None, refl, sym, ◌∙◌, subst, inl, inr, arith}
use Rattle.std.specs.Prelude.{⊤, ◌⊎◌, slice_get, unwrap_or, option_and_then, option_to_list}
use Rattle.elaborate_objects.specs.ModelTree.Tree as tree
use Rattle.elaborate_objects.specs.FlatDesign.Denotes.{Context, declared, denoted_at}
use Rattle.elaborate_objects.specs.FlatDesign.Typed.{EachOf, ChannelOffers, PortOffers, Offers, HasEvent, IsStaticUse}
use Rattle.elaborate_objects.specs.FlatDesign.Sound.{ChannelFits, DenotedFits, EventFits}
use Rattle.elaborate_objects.specs.FlatDesign.declared.value_types.ValueType.{ValueType}
use Rattle.elaborate_objects.specs.FlatDesign.declared.value_types.ValueType.TheVariants as type
use Rattle.elaborate_objects.specs.FlatDesign.declared.names.EventMember.{EventMember}
use Rattle.elaborate_objects.specs.FlatDesign.declared.names.EventMember.TheVariants as event
use Rattle.elaborate_objects.specs.FlatDesign.declared.objects.LeadsTo.{LeadsTo}
use Rattle.elaborate_objects.specs.FlatDesign.declared.objects.LeadsTo.TheVariants as leads
use Rattle.elaborate_objects.specs.FlatDesign.declared.code.StaticUse.{StaticUse}
use Rattle.elaborate_objects.specs.FlatDesign.declared.design.ChannelId.{ChannelId}
use Rattle.elaborate_objects.specs.FlatDesign.declared.design.ChannelId.TheVariants as channel
use Rattle.elaborate_objects.specs.FlatDesign.declared.design.Denoted.{Denoted}
use Rattle.elaborate_objects.specs.FlatDesign.declared.design.Denoted.TheVariants as denoted
use Rattle.elaborate_objects.specs.FlatDesign.declared.design.InstancePart.{InstancePart}
use Rattle.elaborate_objects.specs.FlatDesign.declared.design.PortPart.{PortPart}
use Rattle.elaborate_objects.specs.FlatDesign.declared.design.Design.{Design}
use Rattle.elaborate_objects.specs.DesignRules.Denoting.{object_denoted}
use Rattle.elaborate_objects.specs.DesignRules.Designs.{IsDesignOf}
use Rattle.elaborate_objects.specs.DesignRules.Statics.{event_place, channel_event, process_events, channels_of_port, at_place, events_of, names_of, names_at, static_events}
use Rattle.laws_design.proofs.Fits.{names_fit}
use Rattle.laws_design.proofs.Children.{same_some}
use Rattle.laws_design.specs.Fields.{PortsFit}

-- lists

each_append : {A : Type 0} (P : A → Type 0) (xs ys : List A) → EachOf P xs → EachOf P ys → EachOf P (xs ++ ys)
each_append P [] ys h k = k
each_append P (x ∷ xs) ys h k = (h.0, each_append P xs ys h.1 k)

each_if : {A : Type 0} (P : A → Type 0) (xs : List A) (k : ℕ) (o : Option A) → EachOf P xs → slice_get xs k ≡ o → EachOf P (option_to_list o)
each_if P xs k None h e = tt
each_if P [] k (Some x) h e = cc
each_if P (y ∷ ys) zero (Some x) h e = (subst P (same_some y x e) h.0, tt)
each_if P (y ∷ ys) (suc k) (Some x) h e = each_if P ys k (Some x) h.1 e

each_at : (P : ChannelId → Type 0) (cs : List ChannelId) (place : Option ℕ) → EachOf P cs → EachOf P (at_place cs place)
each_at P cs None h = h
each_at P cs (Some k) h = each_if P cs k (slice_get cs k) h refl

neither_one : {A : Type 0} → ⊥ ⊎ ⊥ → A
neither_one (inl x) = absurd x
neither_one (inr x) = absurd x

place_small : (e : EventMember) → event_place e ≤ 2
place_small event.Own = omega arith
place_small event.Posedge = omega arith
place_small event.Negedge = omega arith
place_small event.DataWritten = omega arith
place_small event.DataRead = omega arith
place_small event.Terminated = omega arith
place_small event.Reset = omega arith

module _ (d : Design) where
  -- what a name is that has an event behind the first one of a channel
  abbrev pub Has : Denoted → EventMember → Type 0
  Has x event.Own = ⊤
  Has x event.Posedge = Offers d x (leads.In type.Bool) ⊎ Offers d x (leads.In type.Logic)
  Has x event.Negedge = Offers d x (leads.In type.Bool) ⊎ Offers d x (leads.In type.Logic)
  Has x event.DataWritten = ⊤
  Has x event.DataRead = (t : ValueType) × (Offers d x (leads.FifoIn t) ⊎ Offers d x (leads.FifoOut t))
  Has x event.Terminated = ⊤
  Has x event.Reset = ⊤

  channel_fits : (c : ChannelId) (e : EventMember) → ChannelFits d c → Has (denoted.Channel c) e → EventFits d (channel_event e c)
  channel_fits (channel.Signal n events) e f h = let p = place_small e in let w = f.3 in omega (arith, p, w)
  channel_fits (channel.Resolved n events) e f h = let p = place_small e in let w = f.3 in omega (arith, p, w)
  channel_fits (channel.Fifo n events) event.Own f h = let w = f.3 in omega (arith, w)
  channel_fits (channel.Fifo n events) event.Posedge f h = let w = f.3 in omega (arith, w)
  channel_fits (channel.Fifo n events) event.Negedge f h = neither_one h
  channel_fits (channel.Fifo n events) event.DataWritten f h = let w = f.3 in omega (arith, w)
  channel_fits (channel.Fifo n events) event.DataRead f h = let w = f.3 in omega (arith, w)
  channel_fits (channel.Fifo n events) event.Terminated f h = let w = f.3 in omega (arith, w)
  channel_fits (channel.Fifo n events) event.Reset f h = let w = f.3 in omega (arith, w)
  channel_fits (channel.Mutex n events) event.Own f h = let w = f.1 in omega (arith, w)
  channel_fits (channel.Mutex n events) event.Posedge f h = neither_one h
  channel_fits (channel.Mutex n events) event.Negedge f h = neither_one h
  channel_fits (channel.Mutex n events) event.DataWritten f h = let w = f.1 in omega (arith, w)
  channel_fits (channel.Mutex n events) event.DataRead f h = neither_one h.1
  channel_fits (channel.Mutex n events) event.Terminated f h = let w = f.1 in omega (arith, w)
  channel_fits (channel.Mutex n events) event.Reset f h = let w = f.1 in omega (arith, w)
  channel_fits (channel.Semaphore n events) event.Own f h = let w = f.1 in omega (arith, w)
  channel_fits (channel.Semaphore n events) event.Posedge f h = neither_one h
  channel_fits (channel.Semaphore n events) event.Negedge f h = neither_one h
  channel_fits (channel.Semaphore n events) event.DataWritten f h = let w = f.1 in omega (arith, w)
  channel_fits (channel.Semaphore n events) event.DataRead f h = neither_one h.1
  channel_fits (channel.Semaphore n events) event.Terminated f h = let w = f.1 in omega (arith, w)
  channel_fits (channel.Semaphore n events) event.Reset f h = let w = f.1 in omega (arith, w)

  -- what a port is used as, its channels are
  read_too : (c : ChannelId) (t : ValueType) → ChannelOffers d c (leads.Out t) → ChannelOffers d c (leads.In t)
  read_too (channel.Signal n events) t h = h
  read_too (channel.Resolved n events) t h = h
  read_too (channel.Fifo n events) t h = h
  read_too (channel.Mutex n events) t h = h
  read_too (channel.Semaphore n events) t h = h

  offered : (c : ChannelId) (kind wanted : LeadsTo) → PortOffers kind wanted → ChannelOffers d c kind → ChannelOffers d c wanted
  offered c kind wanted (inl same) h = subst (ChannelOffers d c) same h
  offered c kind wanted (inr w) h = subst (ChannelOffers d c) (sym w.2) (read_too c w.0 (subst (ChannelOffers d c) w.1 h))

  module _ (n : ℕ) (p : PortPart) (at : slice_get d.ports n ≡ Some p) where
    abbrev Leads : ChannelId → Type 0
    Leads c = ChannelFits d c × ChannelOffers d c p.leads_to

    as_channel : (c : ChannelId) (wanted : LeadsTo) → ChannelOffers d c p.leads_to → Offers d (denoted.Port n) wanted → Offers d (denoted.Channel c) wanted
    as_channel c wanted h w = offered c p.leads_to wanted (subst (λ (x : PortPart). PortOffers x.leads_to wanted) (same_some w.0 p (sym w.1 ∙ at)) w.2) h

    either : (c : ChannelId) (s t : LeadsTo) → ChannelOffers d c p.leads_to → Offers d (denoted.Port n) s ⊎ Offers d (denoted.Port n) t → Offers d (denoted.Channel c) s ⊎ Offers d (denoted.Channel c) t
    either c s t h (inl x) = inl (as_channel c s h x)
    either c s t h (inr x) = inr (as_channel c t h x)

    port_has : (c : ChannelId) (e : EventMember) → ChannelOffers d c p.leads_to → Has (denoted.Port n) e → Has (denoted.Channel c) e
    port_has c event.Own h k = tt
    port_has c event.Posedge h k = either c (leads.In type.Bool) (leads.In type.Logic) h k
    port_has c event.Negedge h k = either c (leads.In type.Bool) (leads.In type.Logic) h k
    port_has c event.DataWritten h k = tt
    port_has c event.DataRead h k = (k.0, either c (leads.FifoIn k.0) (leads.FifoOut k.0) h k.1)
    port_has c event.Terminated h k = tt
    port_has c event.Reset h k = tt

    port_events : (e : EventMember) (cs : List ChannelId) → Has (denoted.Port n) e → EachOf Leads cs → EachOf (EventFits d) (map (channel_event e) cs)
    port_events e [] k h = tt
    port_events e (c ∷ cs) k h = (channel_fits c e h.0.0 (port_has c e h.0.1 k), port_events e cs k h.1)

  module _ (ports : PortsFit d) where
    port_fits : (n : ℕ) (e : EventMember) (place : Option ℕ) (o : Option PortPart) → slice_get d.ports n ≡ o → Has (denoted.Port n) e → EachOf (EventFits d) (map (channel_event e) (at_place (channels_of_port o) place))
    port_fits n e None None at k = tt
    port_fits n e (Some j) None at k = tt
    port_fits n e place (Some p) at k = port_events n p at e (at_place p.channels place) k (each_at (Leads n p at) p.channels place (ports n p at))

    process_fits : (p : ℕ) (e : EventMember) → DenotedFits d (denoted.Process p) → EachOf (EventFits d) (process_events e p)
    process_fits p event.Own f = tt
    process_fits p event.Posedge f = tt
    process_fits p event.Negedge f = tt
    process_fits p event.DataWritten f = tt
    process_fits p event.DataRead f = tt
    process_fits p event.Terminated f = (f, tt)
    process_fits p event.Reset f = (f, tt)

    name_fits : (x : Denoted) (e : EventMember) (place : Option ℕ) → DenotedFits d x → Has x e → EachOf (EventFits d) (events_of d.ports e place x)
    name_fits denoted.Nothing e place f h = tt
    name_fits (denoted.Channel c) e place f h = (channel_fits c e f h, tt)
    name_fits (denoted.Event n) e place f h = (f, tt)
    name_fits (denoted.Keeper k) e place f h = tt
    name_fits (denoted.Memory k) e place f h = tt
    name_fits (denoted.Variable v) e place f h = tt
    name_fits (denoted.Port n) e place f h = port_fits n e place (slice_get d.ports n) refl h
    name_fits (denoted.Process p) e place f h = process_fits p e f
    name_fits (denoted.Socket hop forward) e place f h = tt

-- the events of a typed sensitivity
has_event : (c : Context) (n : ℕ) (e : EventMember) → HasEvent c n e → Has c.design (declared c n) e
has_event c n event.Own h = tt
has_event c n event.Posedge h = h
has_event c n event.Negedge h = h
has_event c n event.DataWritten h = tt
has_event c n event.DataRead h = h
has_event c n event.Terminated h = tt
has_event c n event.Reset h = tt

same_name : (o : Option InstancePart) (n : ℕ) → unwrap_or (option_and_then (λ (i : InstancePart). slice_get i.names n) o) denoted.Nothing ≡ object_denoted (names_of o) n
same_name None n = refl
same_name (Some i) n = refl

module _ (m : tree.Model) (d : Design) (design : IsDesignOf m d) (ports : PortsFit d) (home : ℕ) where
  abbrev pub context : Context
  context = record { design = d; home = home; locals = [] }

  pub uses_fit : (us : List StaticUse) → EachOf (IsStaticUse context) us → EachOf (EventFits d) (static_events d.ports (names_at d.instances home) us)
  uses_fit [] h = tt
  uses_fit (u ∷ us) h =
      each_append (EventFits d) (events_of d.ports u.event u.place (object_denoted (names_at d.instances home) u.name)) (static_events d.ports (names_at d.instances home) us)
      (subst (λ x. EachOf (EventFits d) (events_of d.ports u.event u.place x)) (same_name (slice_get d.instances home) u.name)
      (name_fits d ports (denoted_at d home u.name) u.event u.place (names_fit m d design home u.name) (has_event context u.name u.event h.0.0)))
      (uses_fit us h.1)
