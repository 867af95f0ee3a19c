-- Channels and events of statements fit.
use Rattle.std.proofs.Common.{◌≡◌, ◌⊎◌, inl, inr, ℕ, Bool, true, false, not, ◌&&◌, List, [], ◌∷◌, Option, Some, None, refl, sym, ◌∙◌, ap, subst, true≢false}
use Rattle.std.specs.Prelude.{option_map, option_and_then}
use Rattle.std.specs.List.{AllByRecursion}
use Rattle.code_rules.specs.ModelTree.Tree as tree
use Rattle.code_rules.specs.ModelTree.Limits.{fits, fits_option, fits_place, fits_channel, fits_event, fits_events, fits_waiting, option_name, is_some_of}
use Rattle.code_rules.specs.ModelTree.Leaves.{is_name}
use Rattle.code_rules.specs.FlatDesign.Code as code
use Rattle.code_rules.specs.FlatDesign.Code.{Term, ChannelTerm}
use Rattle.code_rules.specs.FlatDesign.Denotes.{Context, declared, variable_type}
use Rattle.code_rules.specs.FlatDesign.Typed.{Offers, IsProcess, GivesInteger, IfWritten, EachOf, PlaceFits, UsesAs, HasEvent, HasLocalEvent, IsEventAt, IsEventUse, IsPlaceOfPort, IsStaticUse, GivesTime, IsAwait}
use Rattle.code_rules.specs.FlatDesign.declared.value_types.ValueType.{ValueType}
use Rattle.code_rules.specs.FlatDesign.declared.value_types.ValueType.TheVariants as type
use Rattle.code_rules.specs.FlatDesign.declared.names.NameUse.{NameUse}
use Rattle.code_rules.specs.FlatDesign.declared.names.NameUse.TheVariants as name_use
use Rattle.code_rules.specs.FlatDesign.declared.names.EventMember.{EventMember}
use Rattle.code_rules.specs.FlatDesign.declared.names.EventMember.TheVariants as event
use Rattle.code_rules.specs.FlatDesign.declared.objects.LeadsTo.{LeadsTo}
use Rattle.code_rules.specs.FlatDesign.declared.objects.LeadsTo.TheVariants as leads
use Rattle.code_rules.specs.FlatDesign.declared.design.Denoted.{Denoted}
use Rattle.code_rules.specs.ModelRules.Members.{variable_row, row_of, event_members, event_member, has_edges}
use Rattle.code_rules.specs.ModelRules.Scopes.{Scope, meaning_of}
use Rattle.code_rules.specs.ModelRules.Operators.{is_time}
use Rattle.code_rules.specs.ModelRules.Types.{is_port, with_place, channel_of}
use Rattle.code_rules.specs.ModelRules.declared.meanings.Meaning.{Meaning}
use Rattle.code_rules.specs.ModelRules.declared.meanings.Meaning.TheVariants as meaning
use Rattle.code_rules.specs.ModelRules.declared.meanings.Row.{Row}
use Rattle.code_rules.specs.ModelRules.declared.meanings.Row.TheVariants as row
use Rattle.code_rules.specs.ModelRules.declared.needs.Need.{Need}
use Rattle.code_rules.specs.ModelRules.Sites as part
use Rattle.code_rules.specs.ModelRules.Sites.{Site, site, channel_site, channel_sites, place_sites, expression_sites, option_sites, event_need, event_sites, events_sites, waiting_sites}
use Rattle.code_rules.specs.ModelRules.Names.{meets, row_lacks, is_event, lacks_edges, is_no_event, is_static, unknown_in_row, wrong_in_row, unknown_member, wrong_member}
use Rattle.code_rules.specs.ModelRules.Values.{fails, option_type, time_differs, waiting_differs}
use Rattle.code_rules.specs.ModelRules.Passes.{constructs, fault_at, fault_of}
use Rattle.code_rules.specs.Terms.{number, term_of}
use Rattle.code_rules.specs.Deeds.{with_two, with_three, if_written, each, place_term, channel_term, event_of, event_term, static_place, static_use, await_term}
use Rattle.laws_code.specs.Known.{TypesAreKnown}
use Rattle.laws_code.proofs.FaultlessConstructs.{keeps}
use Rattle.laws_code.proofs.Coded.{same_some}
use Rattle.laws_code.proofs.Typed.{neither, same_false, not_named, parts_none, head_none, and_true, IsChannelKept, channel_kept}
use Rattle.laws_code.proofs.Named.{no_variable}
use Rattle.laws_code.proofs.Deeds.{placed_right}
use Rattle.laws_code.specs.Standing.{Standing, NamesStand}
use Rattle.laws_code.proofs.Has.{Has, map_has, two_has}
use Rattle.laws_code.proofs.Operands.{both_true}
use Rattle.laws_code.proofs.Places.{UseStands, use_stands, place_stands, signal_offers, fifo_offers, port_offers, resolved_offers, in_offers, out_offers}
use Rattle.laws_code.proofs.ReadTypes.{process_variable, entry_has}
use Rattle.laws_code.proofs.Terms.{number_has}
use Rattle.laws_code.proofs.Channels.{within_is, standing_port, use_variable, integer_there, time_there}

-- an event that is found among the members
pub record EventFound (r : Option Row) (name : List ℕ) : Type 0 where
  pub row : Row
  pub event : EventMember
  pub is_row : r ≡ Some row
  pub is_event : event_member row name ≡ Some event
  pub edges : is_no_event row (Some event) ≡ false

member_found : (r : Row) (name : List ℕ) (o : Option EventMember) → event_member r name ≡ o → is_no_event r o ≡ false → EventFound (Some r) name
member_found r name None e h = absurd (true≢false h)
member_found r name (Some x) e h = record { row = r; event = x; is_row = refl; is_event = e; edges = h }

row_event : (r : Option Row) (of name : List ℕ) → unknown_in_row name r ≡ None → wrong_in_row (λ x. is_no_event x (event_member x name)) of name r ≡ None → EventFound r name
row_event None of name h k = cc
row_event (Some r) of name h k =
    member_found r name (event_member r name) refl
    (and_true (is_no_event r (event_member r name)) (row_lacks r name) (not_named (is_no_event r (event_member r name) && not (row_lacks r name)) name k) (not_named (row_lacks r name) name h))

with_edges : (P : LeadsTo → Type 0) (s : ValueType) → has_edges s ≡ true → P (leads.In s) → P (leads.In type.Bool) ⊎ P (leads.In type.Logic)
with_edges P type.Bool h k = inl k
with_edges P type.Logic h k = inr k
with_edges P other h k = absurd (true≢false (sym h))

abbrev EdgesGood : Option ValueType → Type 0
EdgesGood o = lacks_edges (row.Signals o) ≡ false

edges_good : (o : Option ValueType) (s : ValueType) → o ≡ Some s → EdgesGood o → has_edges s ≡ true
edges_good o s is h = same_false (has_edges s) (sym (ap (λ x. lacks_edges (row.Signals x)) is) ∙ h)

module _ (c : Context) where
  -- what a name's event asks of the name
  abbrev pub EventOf : NameUse → EventMember → Type 0
  EventOf (name_use.Local i) e = HasLocalEvent c i e
  EventOf (name_use.Declared n) e = HasEvent c n e

  abbrev pub EventPlace : NameUse → Option Term → Type 0
  EventPlace (name_use.Local i) place = place ≡ None
  EventPlace (name_use.Declared n) place = PlaceFits c n place

  event_at : (u : NameUse) (place : Option Term) (e : EventMember) → EventOf u e → EventPlace u place → IsEventAt c u place e
  event_at (name_use.Local i) place e h k = (h, k)
  event_at (name_use.Declared n) place e h k = (h, k)

  -- the events in the row of what is declared
  abbrev Good : Row → EventMember → Type 0
  Good r e = is_no_event r (Some e) ≡ false

  abbrev AllEvents : NameUse → Row → Type 0
  AllEvents u r = AllByRecursion (λ (x : List ℕ × EventMember). Good r x.1 → EventOf u x.1) (event_members r)

  signal_events : (n : ℕ) (o : Option ValueType) (r : Row) → ((s : ValueType) × (o ≡ Some s) × Offers c.design (declared c n) (leads.In s)) → Some (row.Signals o) ≡ Some r → AllEvents (name_use.Declared n) r
  signal_events n o r h k =
      subst (AllEvents (name_use.Declared n)) (same_some (row.Signals o) r k)
      ((λ good. with_edges (Offers c.design (declared c n)) h.0 (edges_good o h.0 h.1 good) h.2), ((λ good. with_edges (Offers c.design (declared c n)) h.0 (edges_good o h.0 h.1 good) h.2), tt))

  fifo_events : (n : ℕ) (r : Row) → ((s : ValueType) × (Offers c.design (declared c n) (leads.FifoIn s) ⊎ Offers c.design (declared c n) (leads.FifoOut s))) → Some row.Fifos ≡ Some r → AllEvents (name_use.Declared n) r
  fifo_events n r h k = subst (AllEvents (name_use.Declared n)) (same_some row.Fifos r k) ((λ good. h), ((λ good. h), tt))

  of_process : (u : NameUse) → IsProcess c u → (EventOf u event.Terminated) × (EventOf u event.Reset)
  of_process (name_use.Local i) h = (h, h)
  of_process (name_use.Declared n) h = (h, h)

  process_events : (u : NameUse) (r : Row) → IsProcess c u → Some row.Processes ≡ Some r → AllEvents u r
  process_events u r h k = let x = of_process u h in subst (AllEvents u) (same_some row.Processes r k) ((λ good. x.0), ((λ good. x.1), tt))

  no_events : (u : NameUse) (r x : Row) → event_members x ≡ [] → Some x ≡ Some r → AllEvents u r
  no_events u r x e k = subst (AllEvents u) (same_some x r k) (subst (AllByRecursion (λ (y : List ℕ × EventMember). Good x y.1 → EventOf u y.1)) (sym e) tt)

  variable_events : (u : NameUse) (s : ValueType) (r : Row) → variable_type c u ≡ Some s → variable_row (Some s) ≡ Some r → AllEvents u r
  variable_events u type.Process r h k = process_events u r (process_variable c u h) k
  variable_events u type.Payload r h k = no_events u r row.Payloads refl k
  variable_events u other r h k = cc

  declared_events : (n : ℕ) (m : Meaning) (r : Row) → Standing c.design m (declared c n) → row_of m ≡ Some r → AllEvents (name_use.Declared n) r
  declared_events n (meaning.Signal o) r h k = let x = signal_offers c.design (declared c n) o h in signal_events n o r (x.0, x.1, x.2) k
  declared_events n meaning.Resolved r h k = signal_events n (Some type.Logic) r (type.Logic, refl, (resolved_offers c.design (declared c n) h).0) k
  declared_events n meaning.Clock r h k = let x = signal_offers c.design (declared c n) (Some type.Bool) h in signal_events n (Some type.Bool) r (x.0, x.1, x.2) k
  declared_events n (meaning.Fifo o) r h k = let x = fifo_offers c.design (declared c n) o h in fifo_events n r (x.0, inl x.2) k
  declared_events n meaning.Keeper r h k = no_events (name_use.Declared n) r row.Keepers refl k
  declared_events n meaning.Semaphore r h k = no_events (name_use.Declared n) r row.Semaphores refl k
  declared_events n (meaning.Variable o) r h k =
      variable_events (name_use.Declared n) h.1.value_type r (use_variable c (name_use.Declared n) o h ∙ h.4) (sym (ap variable_row h.4) ∙ k)
  declared_events n (meaning.In o size) r h k = signal_events n o r (in_offers c.design (declared c n) o h) k
  declared_events n (meaning.Out o size) r h k = signal_events n o r (out_offers c.design (declared c n) o h).0 k
  declared_events n (meaning.FifoIn o size) r h k = fifo_events n r (h.0, inl (port_offers c.design (declared c n) (leads.FifoIn h.0) (leads.FifoIn h.0) h.2 (inl refl))) k
  declared_events n (meaning.FifoOut o size) r h k = fifo_events n r (h.0, inr (port_offers c.design (declared c n) (leads.FifoOut h.0) (leads.FifoOut h.0) h.2 (inl refl))) k
  declared_events n (meaning.SemaphorePort size) r h k = no_events (name_use.Declared n) r row.Semaphores refl k
  declared_events n meaning.Process r h k = process_events (name_use.Declared n) r (inl (h.0, h.1)) k
  declared_events n other r h k = cc

  row_events : (u : NameUse) (m : Meaning) (r : Row) → UseStands c u m → row_of m ≡ Some r → AllEvents u r
  row_events (name_use.Local i) m r h k = variable_events (name_use.Local i) h.0 r h.2 (sym (ap row_of h.1) ∙ k)
  row_events (name_use.Declared n) m r h k = declared_events n m r h k

  found_event : (u : NameUse) (m : Meaning) (name : List ℕ) (f : EventFound (row_of m) name) → UseStands c u m → EventOf u f.event
  found_event u m name f h = entry_has (λ e. Good f.row e → EventOf u e) name (event_members f.row) f.event (row_events u m f.row h f.is_row) f.is_event f.edges

  -- an event of its own
  own_event : (n : ℕ) (m : Meaning) → is_event m ≡ true → Standing c.design m (declared c n) → HasEvent c n event.Own
  own_event n meaning.Event h k = inl (k.0, k.1, k.2)
  own_event n (meaning.Signal o) h k = let x = signal_offers c.design (declared c n) o k in inr (x.0, x.2)
  own_event n meaning.Resolved h k = inr (type.Logic, (resolved_offers c.design (declared c n) k).0)
  own_event n meaning.Clock h k = let x = signal_offers c.design (declared c n) (Some type.Bool) k in inr (x.0, x.2)
  own_event n (meaning.In o size) h k = let x = in_offers c.design (declared c n) o k in inr (x.0, x.2)
  own_event n (meaning.Out o size) h k = let x = (out_offers c.design (declared c n) o k).0 in inr (x.0, x.2)
  own_event n other h k = absurd (true≢false (sym h))

  own_of : (u : NameUse) (m : Meaning) → is_event m ≡ true → UseStands c u m → EventOf u event.Own
  own_of (name_use.Local i) m h k = absurd (true≢false (sym h ∙ ap is_event k.1))
  own_of (name_use.Declared n) m h k = own_event n m h k

  module _ (s : Scope) (names : NamesStand s c) (known : TypesAreKnown s) where
    -- the place of a port's channel
    port_of : (need : Need) (name : List ℕ) (k : ℕ) (kept : IsChannelKept s need name (tree.place_number k)) → is_port kept.meaning_ ≡ true
    port_of need name k kept = same_false (is_port kept.meaning_) kept.right_place

    port_by : (need : Need) (name : List ℕ) (e : tree.Expression) (kept : IsChannelKept s need name (tree.computed e)) → is_port kept.meaning_ ≡ true
    port_by need name e kept = same_false (is_port kept.meaning_) (neither (not (is_port kept.meaning_)) (is_static need) kept.right_place).0

    computed_place : (n : ℕ) (e : tree.Expression) → fits_place n (tree.computed e) ≡ true → fault_of constructs (expression_sites s e) ≡ None → Rattle.code_rules.specs.ModelRules.Values.place_differs s (tree.computed e) ≡ false → Has (GivesInteger c) (term_of s e)
    computed_place n e h clean ok = let w = within_is n (λ m. fits m e) h in integer_there s c names known w.0 e w.1 clean ok

    place_there : (n : ℕ) (need : Need) (name : List ℕ) (place : tree.Place) (kept : IsChannelKept s need name place) (k : ℕ) → fits_place n place ≡ true → fault_of constructs (place_sites s place) ≡ None
        → Standing c.design kept.meaning_ (declared c k) → Has (PlaceFits c k) (place_term s place)
    place_there n need name tree.first kept k h clean standing = (None, refl, tt)
    place_there n need name (tree.place_number j) kept k h clean standing =
        (Some (number j), refl, (standing_port c.design kept.meaning_ (declared c k) (port_of need name j kept) standing, number_has c j))
    place_there n need name (tree.computed e) kept k h clean standing =
        let g = computed_place n e h clean kept.place_type in
        (Some g.0, ap (option_map Some) g.1, (standing_port c.design kept.meaning_ (declared c k) (port_by need name e kept) standing, g.2))

    -- a channel
    pub record ChannelIs (need : Need) (ch : tree.Channel) : Type 0 where
      pub meaning_ : Meaning
      pub met : meets need meaning_ ≡ true
      pub of_channel : channel_of s ch ≡ Some meaning_
      pub there : Has (λ (z : ChannelTerm). Standing c.design meaning_ (declared c z.channel_name) × PlaceFits c z.channel_name z.place) (channel_term s ch)

    pub channel_is : (n : ℕ) (need : Need) → ((o : Option ValueType) → meets need (meaning.Variable o) ≡ false) → (ch : tree.Channel) → fits_channel n ch ≡ true → fault_of constructs (channel_sites s need ch) ≡ None → ChannelIs need ch
    channel_is n need f ch h clean =
        let p = head_none (channel_site s need ch) (place_sites s ch.place) clean in
        let k = channel_kept s need ch p.0 in
        let u = place_stands s c names ch.name k.meaning_ k.known (no_variable need f k.meaning_ k.met) in
        let w = place_there n need ch.name ch.place k u.0 (both_true (is_name ch.name) (fits_place n ch.place) h).1 p.1 u.2 in
        record {
          meaning_ = k.meaning_;
          met = k.met;
          of_channel = ap (option_and_then (with_place s ch.place)) k.known ∙ placed_right s known need ch.name ch.place k p.1;
          there = (record { channel_name = u.0; place = w.0 }, (λ i. with_two (λ a b. record { channel_name = a; place = b }) (u.1 i) (w.1 i)), (u.2, w.2));
        }

    -- the channel as what it is used as
    pub uses_as : (need : Need) (ch : tree.Channel) (wanted : LeadsTo) (k : ChannelIs need ch) → ((x : Denoted) → Standing c.design k.meaning_ x → Offers c.design x wanted) → Has (λ z. UsesAs c z wanted) (channel_term s ch)
    uses_as need ch wanted k f = (k.there.0, k.there.1, (f (declared c k.there.0.channel_name) k.there.2.0, k.there.2.1))

    -- events
    no_port : (m : Meaning) (x : ValueType) → m ≡ meaning.Variable (Some x) → is_port m ≡ true → ⊥
    no_port m x h k = true≢false (sym k ∙ ap is_port h)

    event_place : (n : ℕ) (need : Need) (name : List ℕ) (place : tree.Place) (kept : IsChannelKept s need name place) (u : NameUse) → fits_place n place ≡ true → fault_of constructs (place_sites s place) ≡ None
        → UseStands c u kept.meaning_ → Has (EventPlace u) (place_term s place)
    event_place n need name place kept (name_use.Declared k) h clean standing = place_there n need name place kept k h clean standing
    event_place n need name tree.first kept (name_use.Local i) h clean standing = (None, refl, refl)
    event_place n need name (tree.place_number j) kept (name_use.Local i) h clean standing = absurd (no_port kept.meaning_ standing.0 standing.1 (port_of need name j kept))
    event_place n need name (tree.computed e) kept (name_use.Local i) h clean standing = absurd (no_port kept.meaning_ standing.0 standing.1 (port_by need name e kept))

    member_there : (static : Bool) (channel : tree.Channel) (member : Option (List ℕ)) (m : Meaning) (u : NameUse) → meaning_of s channel.name ≡ Some m → meets (event_need static member) m ≡ true → UseStands c u m
        → fault_at constructs (site s channel.line (part.of_event static (record { channel = channel; member = member }))) ≡ None → Has (EventOf u) (event_of s channel.name member)
    member_there true channel None m u is met stands h = (event.Own, refl, own_of u m met stands)
    member_there false channel None m u is met stands h = (event.Own, refl, own_of u m met stands)
    member_there static channel (Some name) m u is met stands h =
        let k = keeps (site s channel.line (part.of_event static (record { channel = channel; member = Some name }))) h in
        let f =
        row_event (row_of m) channel.name name (subst (λ o. unknown_member o name ≡ None) is k.known)
        (subst (λ o. wrong_member (λ x. is_no_event x (event_member x name)) channel.name name o ≡ None) is k.kind) in (
          f.event,
          ap (λ o. option_and_then (λ x. event_member x name) (option_and_then row_of o)) is ∙ ap (option_and_then (λ x. event_member x name)) f.is_row ∙ f.is_event,
          found_event u m name f stands,
        )

    pub event_there : (n : ℕ) (e : tree.Event) → fits_event n e ≡ true → fault_of constructs (event_sites s false e) ≡ None → Has (IsEventUse c) (event_term s e)
    event_there n e h clean =
        let p = head_none (site s e.channel.line (part.of_event false e)) (channel_sites s (event_need false e.member) e.channel) clean in
        let q = head_none (channel_site s (event_need false e.member) e.channel) (place_sites s e.channel.place) p.1 in
        let k = channel_kept s (event_need false e.member) e.channel q.0 in
        let u = use_stands s c names e.channel.name k.meaning_ k.known in
        let w = event_place n (event_need false e.member) e.channel.name e.channel.place k u.0 (both_true (is_name e.channel.name) (fits_place n e.channel.place) (both_true (fits_channel n e.channel) (option_name e.member) h).0).1 q.1 u.2 in
        let x = member_there false e.channel e.member k.meaning_ u.0 k.known k.met u.2 p.0 in
        (record { event_name = u.0; place = w.0; event = x.0 }, (λ i. with_three (λ a b d. record { event_name = a; place = b; event = d }) (u.1 i) (w.1 i) (x.1 i)), event_at u.0 w.0 x.0 x.2 w.2)

    pub events_there : (n : ℕ) (es : List tree.Event) → fits_events n es ≡ true → fault_of constructs (events_sites s false es) ≡ None → Has (EachOf (IsEventUse c)) (each (event_term s) es)
    events_there n [] h clean = ([], refl, tt)
    events_there n (e ∷ es) h clean =
        let p = parts_none (event_sites s false e) (events_sites s false es) clean in
        let two = both_true (fits_event n e) (fits_events n es) h in
        two_has (IsEventUse c) (EachOf (IsEventUse c)) (EachOf (IsEventUse c)) _ (event_term s e) (each (event_term s) es) (λ y ys a b. (a, b)) (event_there n e two.0 p.0) (events_there n es two.1 p.1)

    -- times
    pub time_option : (n : ℕ) (e : Option tree.Expression) → fits_option n e ≡ true → fault_of constructs (option_sites s e) ≡ None → fails is_time (option_type s e) ≡ false → Has (IfWritten (GivesTime c)) (if_written (term_of s) e)
    time_option n None h clean ok = (None, refl, tt)
    time_option n (Some e) h clean ok = let g = time_there s c names known n e h clean ok in (Some g.0, ap (option_map Some) g.1, g.2)

    pub await_there : (n : ℕ) (w : tree.Waiting) → fits_waiting n w ≡ true → fault_of constructs (waiting_sites s w) ≡ None → waiting_differs s w ≡ false → Has (IsAwait c) (await_term s w)
    await_there n tree.static h clean ok = (code.static, refl, tt)
    await_there n tree.delta h clean ok = (code.delta, refl, tt)
    await_there n (tree.for_ e) h clean ok = map_has (GivesTime c) (IsAwait c) code.for_ (term_of s e) (λ x p. p) (time_there s c names known n e h clean ok)
    await_there n (tree.one e t) h clean ok =
        let p = parts_none (event_sites s false e) (option_sites s t) clean in
        let two = both_true (fits_event n e) (fits_option n t) h in
        two_has (IsEventUse c) (IfWritten (GivesTime c)) (IsAwait c) _ (event_term s e) (if_written (term_of s) t) (λ x y a b. ((a, tt), b)) (event_there n e two.0 p.0) (time_option n t two.1 p.1 ok)
    await_there n (tree.any es t) h clean ok =
        let p = parts_none (events_sites s false es) (option_sites s t) clean in
        let two = both_true (fits_events n es) (fits_option n t) (both_true (is_some_of es) (fits_events n es && fits_option n t) h).1 in
        two_has (EachOf (IsEventUse c)) (IfWritten (GivesTime c)) (IsAwait c) code.any (each (event_term s) es) (if_written (term_of s) t) (λ x y a b. (a, b)) (events_there n es two.0 p.0) (time_option n t two.1 p.1 ok)
    await_there n (tree.all es t) h clean ok =
        let p = parts_none (events_sites s false es) (option_sites s t) clean in
        let two = both_true (fits_events n es) (fits_option n t) (both_true (is_some_of es) (fits_events n es && fits_option n t) h).1 in
        two_has (EachOf (IsEventUse c)) (IfWritten (GivesTime c)) (IsAwait c) code.all (each (event_term s) es) (if_written (term_of s) t) (λ x y a b. (a, b)) (events_there n es two.0 p.0) (time_option n t two.1 p.1 ok)

    -- static sensitivities
    static_meets : (member : Option (List ℕ)) (o : Option ValueType) → meets (event_need true member) (meaning.Variable o) ≡ false
    static_meets None o = refl
    static_meets (Some name) o = refl

    static_needs : (member : Option (List ℕ)) → is_static (event_need true member) ≡ true
    static_needs None = refl
    static_needs (Some name) = refl

    static_at : (need : Need) (name : List ℕ) (place : tree.Place) (kept : IsChannelKept s need name place) (k : ℕ) → is_static need ≡ true → Standing c.design kept.meaning_ (declared c k) → Has (IsPlaceOfPort c k) (static_place place)
    static_at need name tree.first kept k h standing = (None, refl, tt)
    static_at need name (tree.place_number j) kept k h standing = (Some j, refl, standing_port c.design kept.meaning_ (declared c k) (port_of need name j kept) standing)
    static_at need name (tree.computed e) kept k h standing = absurd (true≢false (sym h ∙ (neither (not (is_port kept.meaning_)) (is_static need) kept.right_place).1))

    pub static_there : (e : tree.Event) → fault_of constructs (event_sites s true e) ≡ None → Has (IsStaticUse c) (static_use s e)
    static_there e clean =
        let p = head_none (site s e.channel.line (part.of_event true e)) (channel_sites s (event_need true e.member) e.channel) clean in
        let q = head_none (channel_site s (event_need true e.member) e.channel) (place_sites s e.channel.place) p.1 in
        let k = channel_kept s (event_need true e.member) e.channel q.0 in
        let u = place_stands s c names e.channel.name k.meaning_ k.known (no_variable (event_need true e.member) (static_meets e.member) k.meaning_ k.met) in
        let w = static_at (event_need true e.member) e.channel.name e.channel.place k u.0 (static_needs e.member) u.2 in
        let x = member_there true e.channel e.member k.meaning_ (name_use.Declared u.0) k.known k.met u.2 p.0 in
        (record { name = u.0; place = w.0; event = x.0 }, (λ i. with_three (λ a b d. record { name = a; place = b; event = d }) (u.1 i) (w.1 i) (x.1 i)), (x.2, w.2))

    pub statics_there : (es : List tree.Event) → fault_of constructs (events_sites s true es) ≡ None → Has (EachOf (IsStaticUse c)) (each (static_use s) es)
    statics_there [] clean = ([], refl, tt)
    statics_there (e ∷ es) clean =
        let p = parts_none (event_sites s true e) (events_sites s true es) clean in
        two_has (IsStaticUse c) (EachOf (IsStaticUse c)) (EachOf (IsStaticUse c)) _ (static_use s e) (each (static_use s) es) (λ y ys a b. (a, b)) (static_there e p.0) (statics_there es p.1)
