-- What a process reads, where it sees two configurations alike: expressions that use only what is its own have the same values.
use Rattle.std.proofs.Common.{◌≡◌, ℕ, Bool, false, cond, List, [], ◌∷◌, ◌++◌, length, slice_get, Option, Some, None, option_map, unwrap_or, Contains, refl, sym, ap, ◌∙◌, subst, arith}
use Rattle.std.specs.Prelude.{Result, Ok, Err}
use Rattle.std.specs.List.{flat_map}
use Rattle.std.proofs.lemmas.List.Elements.{Contains-append_left, Contains-append_right}
use Rattle.std.proofs.lemmas.Grind.{flat_map-append}
use Rattle.sim_model.specs.LogicValues.declared.kinds.Value.{Value}
use Rattle.sim_model.specs.LogicValues.declared.kinds.Value.TheVariants as value
use Rattle.sim_model.specs.EventCore.declared.notifications.Pending.{Pending}
use Rattle.sim_model.specs.SignalChannel.Drivers.{Driven}
use Rattle.sim_model.specs.SignalChannel.declared.signal.Signal.{Signal}
use Rattle.sim_model.specs.FlatDesign.Code as code
use Rattle.sim_model.specs.FlatDesign.Code.{Term}
use Rattle.sim_model.specs.FlatDesign.Denotes.{denoted_at}
use Rattle.sim_model.specs.FlatDesign.declared.names.NameUse.{NameUse}
use Rattle.sim_model.specs.FlatDesign.declared.names.NameUse.TheVariants as name_use
use Rattle.sim_model.specs.FlatDesign.declared.names.Member.{Member}
use Rattle.sim_model.specs.FlatDesign.declared.names.Member.TheVariants as member
use Rattle.sim_model.specs.FlatDesign.declared.design.ChannelId.{ChannelId}
use Rattle.sim_model.specs.FlatDesign.declared.design.ChannelId.TheVariants as channel
use Rattle.sim_model.specs.FlatDesign.declared.design.Denoted.{Denoted}
use Rattle.sim_model.specs.FlatDesign.declared.design.Denoted.TheVariants as denoted
use Rattle.sim_model.specs.FlatDesign.declared.faults.RunFault.{RunFault}
use Rattle.sim_model.specs.Values.{on_ok, truth, bits, payload_handle, widened, unsigned, bool_value, binary, decides}
use Rattle.sim_model.specs.Configuration.{Config, Processes, Channels, Store, Quantum, Trace}
use Rattle.sim_model.specs.Reading.{Here, channel_of, signal_value, resolved_value, channel_value, channel_changed, variable_value, read_denoted, read_name, handle_in, not_empty, live_payload, field_value, channel_member, member_of_channel, keeper_number, keeper_at, keeper_here, keeper_member, is_live, member_value, byte_in, memory_number, memory_at, payload_bytes, read_wide, val, val_if, place_in}
use Rattle.sim_model.specs.declared.plain.Command.{Command}
use Rattle.order_free.specs.declared.uses.Deed.{Deed}
use Rattle.order_free.specs.declared.uses.Deed.TheVariants as deed
use Rattle.order_free.specs.declared.uses.Use.{Use}
use Rattle.order_free.specs.declared.uses.Use.TheVariants as used
use Rattle.order_free.specs.Uses.{deeds_of_name, deeds_of_member, deeds_of_term, deeds_of_written, uses_of_deed, kept_under}
use Rattle.laws_order.specs.Sees.{value_of, Sees}

-- ---- answers

pub on_ok-alike : {A B : Type 0} (m n : Result A RunFault) (f g : A → Result B RunFault) → n ≡ m → ((v : A) → g v ≡ f v) → on_ok n g ≡ on_ok m f
on_ok-alike {A} {B} m n f g e h = ap (λ k. on_ok k g) e ∙ same m
  where
    same : (k : Result A RunFault) → on_ok k g ≡ on_ok k f
    same (Ok v) = h v
    same (Err w) = refl

signal_shown : (o : Option Signal) → signal_value o ≡ unwrap_or (option_map value_of o) (value.Bool false)
signal_shown None = refl
signal_shown (Some s) = refl

resolved_shown : (o : Option Driven) → resolved_value o ≡ unwrap_or (option_map value.Logic (option_map (λ (r : Driven). r.value) o)) (value.Bool false)
resolved_shown None = refl
resolved_shown (Some r) = refl

pub contains-first : {A : Type 0} (x : A) (xs : List A) → Contains (x ∷ xs) x
contains-first x xs = Contains-append_left (x ∷ []) xs x (0, omega arith, refl)

module _ (Has : Use → Type 0) (unfit : Has used.Unfit → ⊥) (watches : Has used.Watches → ⊥) (p : ℕ) (c : Config) (ps : Processes) (es : List Pending) (ch : Channels) (st : Store) (qu : Quantum) (sc : List Command) (tr : Trace) where
  -- another configuration of this design, at the same moment and with the same transactions
  abbrev pub x : Config
  x = record c { processes = ps; events = es; channels = ch; store = st; quantum = qu; script = sc; trace = tr }

  module _ (s : Sees Has p c x) (home : ℕ) (locals : List Value) where
    abbrev pub h : Here
    h = record { config = c; serial = p; home = home; locals = locals }

    abbrev pub k : Here
    k = record { config = x; serial = p; home = home; locals = locals }

    -- what these deeds use, in this instance of a module, is one's own
    abbrev pub Owns : List Deed → Type 0
    Owns ds = (u : Use) → Contains (flat_map (uses_of_deed c.design home) ds) u → Has u

    pub owns-left : (ds ts : List Deed) → Owns (ds ++ ts) → Owns ds
    owns-left ds ts own u there =
        own u (subst (λ us. Contains us u) (sym (flat_map-append (uses_of_deed c.design home) ds ts)) (Contains-append_left (flat_map (uses_of_deed c.design home) ds) (flat_map (uses_of_deed c.design home) ts) u there))

    pub owns-right : (ds ts : List Deed) → Owns (ds ++ ts) → Owns ts
    owns-right ds ts own u there =
        own u (subst (λ us. Contains us u) (sym (flat_map-append (uses_of_deed c.design home) ds ts)) (Contains-append_right (flat_map (uses_of_deed c.design home) ds) (flat_map (uses_of_deed c.design home) ts) u there))

    pub owns-first : (a : Deed) (ds : List Deed) → Owns (a ∷ ds) → (u : Use) → Contains (uses_of_deed c.design home a) u → Has u
    owns-first a ds own u there = own u (Contains-append_left (uses_of_deed c.design home a) (flat_map (uses_of_deed c.design home) ds) u there)

    pub owns-later : (a : Deed) (ds : List Deed) → Owns (a ∷ ds) → Owns ds
    owns-later a ds own u there = own u (Contains-append_right (uses_of_deed c.design home a) (flat_map (uses_of_deed c.design home) ds) u there)

    pub never-unfit : {A : Type 0} (ds : List Deed) → Owns (deed.Unfit ∷ ds) → A
    never-unfit ds own = absurd (unfit (own used.Unfit (contains-first used.Unfit (flat_map (uses_of_deed c.design home) ds))))

    pub never-watches : {A : Type 0} (ds : List Deed) → Owns (deed.Watches ∷ ds) → A
    never-watches ds own = absurd (watches (own used.Watches (contains-first used.Watches (flat_map (uses_of_deed c.design home) ds))))

    -- ---- channels

    channel_same : (y : ChannelId) → channel_value x y ≡ channel_value c y
    channel_same (channel.Signal n events) =
        signal_shown (slice_get ch.signals n) ∙ ap (λ o. unwrap_or o (value.Bool false)) (s.values n) ∙ sym (signal_shown (slice_get c.channels.signals n))
    channel_same (channel.Resolved n events) =
        resolved_shown (slice_get ch.resolved n) ∙ ap (λ o. unwrap_or (option_map value.Logic o) (value.Bool false)) (s.resolved n) ∙ sym (resolved_shown (slice_get c.channels.resolved n))
    channel_same (channel.Fifo n events) = refl
    channel_same (channel.Mutex n events) = refl
    channel_same (channel.Semaphore n events) = refl

    changed_same : (y : ChannelId) → channel_changed x y ≡ channel_changed c y
    changed_same (channel.Signal n events) = ap (λ (bs : List Bool). unwrap_or (slice_get bs n) false) s.changed
    changed_same (channel.Resolved n events) = ap (λ (bs : List Bool). unwrap_or (slice_get bs n) false) s.resolved_changed
    changed_same (channel.Fifo n events) = refl
    changed_same (channel.Mutex n events) = refl
    changed_same (channel.Semaphore n events) = refl

    member_same : (m : Member) → Owns (deeds_of_member m) → (y : ChannelId) → channel_member x m y ≡ channel_member c m y
    member_same member.Changed own y = ap bool_value (changed_same y)
    member_same member.Available own y = never-watches [] own
    member_same member.Free own y = never-watches [] own
    member_same member.Value own y = never-unfit [] own
    member_same member.Valid own y = refl
    member_same member.Terminated own y = refl
    member_same member.Live own y = refl
    member_same (member.Field f) own y = refl
    member_same member.Length own y = refl
    member_same member.EnableLength own y = refl
    member_same member.Local own y = refl
    member_same member.Next own y = refl
    member_same member.NeedSync own y = refl

    -- ---- names

    variable_same : (v : ℕ) → Has (used.Variable v) → variable_value k v ≡ variable_value h v
    variable_same v has = ap (λ o. unwrap_or o (value.Bool false)) (s.variables v has)

    read_same : (y : Denoted) → ((u : Use) → Contains (kept_under y) u → Has u) → read_denoted k y ≡ read_denoted h y
    read_same denoted.Nothing own = refl
    read_same (denoted.Channel y) own = ap Ok (channel_same y)
    read_same (denoted.Event e) own = refl
    read_same (denoted.Keeper n) own = refl
    read_same (denoted.Memory m) own = refl
    read_same (denoted.Variable v) own = ap Ok (variable_same v (own (used.Variable v) (contains-first (used.Variable v) [])))
    read_same (denoted.Port n) own = on_ok-alike (channel_of c.design (denoted.Port n) None) (channel_of c.design (denoted.Port n) None) _ _ refl (λ y. ap Ok (channel_same y))
    read_same (denoted.Process q) own = refl
    read_same (denoted.Socket hop forward) own = refl

    pub name-same : (n : NameUse) → Owns (deeds_of_name n) → read_name k n ≡ read_name h n
    name-same (name_use.Local i) own = refl
    name-same (name_use.Declared n) own = read_same (denoted_at c.design home n) (owns-first (deed.Keeps n) [] own)

    pub keepers-same : (y : Denoted) → ((u : Use) → Contains (kept_under y) u → Has u) → keeper_at x (keeper_number y) ≡ keeper_at c (keeper_number y)
    keepers-same denoted.Nothing own = refl
    keepers-same (denoted.Channel y) own = refl
    keepers-same (denoted.Event e) own = refl
    keepers-same (denoted.Keeper n) own = ap (λ (q : Quantum). slice_get q.keepers n) (s.quantum (own used.Quantum (contains-first used.Quantum [])))
    keepers-same (denoted.Memory m) own = refl
    keepers-same (denoted.Variable v) own = refl
    keepers-same (denoted.Port n) own = refl
    keepers-same (denoted.Process q) own = refl
    keepers-same (denoted.Socket hop forward) own = refl

    keeper_same : (n : NameUse) (m : Member) → Owns (deeds_of_name n) → keeper_member c.cycle.now m (keeper_here k n) ≡ keeper_member c.cycle.now m (keeper_here h n)
    keeper_same (name_use.Local i) m own = refl
    keeper_same (name_use.Declared n) m own = ap (keeper_member c.cycle.now m) (keepers-same (denoted_at c.design home n) (owns-first (deed.Keeps n) [] own))

    pub memories-same : (y : Denoted) → ((u : Use) → Contains (kept_under y) u → Has u) → memory_at x (memory_number y) ≡ memory_at c (memory_number y)
    memories-same denoted.Nothing own = refl
    memories-same (denoted.Channel y) own = refl
    memories-same (denoted.Event e) own = refl
    memories-same (denoted.Keeper n) own = refl
    memories-same (denoted.Memory m) own = ap (λ o. unwrap_or o []) (s.memories m (own (used.Memory m) (contains-first (used.Memory m) [])))
    memories-same (denoted.Variable v) own = refl
    memories-same (denoted.Port n) own = refl
    memories-same (denoted.Process q) own = refl
    memories-same (denoted.Socket hop forward) own = refl

    -- ---- members

    of_channel : (n : NameUse) (m : Member) → Owns (deeds_of_member m) → member_of_channel k n m ≡ member_of_channel h n m
    of_channel (name_use.Local i) m own = refl
    of_channel (name_use.Declared n) m own = on_ok-alike (channel_of c.design (denoted_at c.design home n) None) (channel_of c.design (denoted_at c.design home n) None) _ _ refl (λ y. ap Ok (member_same m own y))

    members_same : (n : NameUse) (m : Member) → Owns (deeds_of_name n ++ deeds_of_member m) → member_value k n m ≡ member_value h n m
    members_same n member.Changed own = of_channel n member.Changed (owns-right (deeds_of_name n) (deeds_of_member member.Changed) own)
    members_same n member.Available own = never-watches [] (owns-right (deeds_of_name n) (deeds_of_member member.Available) own)
    members_same n member.Free own = never-watches [] (owns-right (deeds_of_name n) (deeds_of_member member.Free) own)
    members_same n member.Value own = never-unfit [] (owns-right (deeds_of_name n) (deeds_of_member member.Value) own)
    members_same n member.Valid own = never-watches [] (owns-right (deeds_of_name n) (deeds_of_member member.Valid) own)
    members_same n member.Terminated own = never-watches [] (owns-right (deeds_of_name n) (deeds_of_member member.Terminated) own)
    members_same n member.Live own = ap (λ v. Ok (bool_value (is_live c (handle_in v payload_handle)))) (name-same n (owns-left (deeds_of_name n) [] own))
    members_same n (member.Field f) own = ap (λ v. on_ok (on_ok (not_empty (handle_in v payload_handle)) (live_payload c)) (λ q. Ok (field_value f q))) (name-same n (owns-left (deeds_of_name n) [] own))
    members_same n member.Length own =
        ap (λ v. on_ok (on_ok (not_empty (handle_in v payload_handle)) (live_payload c)) (λ q. Ok (unsigned (length q.bytes)))) (name-same n (owns-left (deeds_of_name n) [] own))
    members_same n member.EnableLength own =
        ap (λ v. on_ok (on_ok (not_empty (handle_in v payload_handle)) (live_payload c)) (λ q. Ok (unsigned (length q.enables)))) (name-same n (owns-left (deeds_of_name n) [] own))
    members_same n member.Local own = keeper_same n member.Local (owns-left (deeds_of_name n) [] own)
    members_same n member.Next own = keeper_same n member.Next (owns-left (deeds_of_name n) [] own)
    members_same n member.NeedSync own = keeper_same n member.NeedSync (owns-left (deeds_of_name n) [] own)

    -- ---- expressions

    pub val-same : (e : Term) → Owns (deeds_of_term e) → val k e ≡ val h e
    val-same (code.literal v) own = refl
    val-same code.now own = refl
    val-same code.myself own = refl
    val-same (code.name n) own = ap read_wide (name-same n own)
    val-same (code.placed n e) own = on_ok-alike (val h e) (val k e) _ _ (val-same e own) (λ v. on_ok-alike (channel_of c.design (denoted_at c.design home n) (Some (bits v))) (channel_of c.design (denoted_at c.design home n) (Some (bits v))) _ _ refl (λ y. ap (λ w. Ok (widened w)) (channel_same y)))
    val-same (code.member n m) own = members_same n m own
    val-same (code.placed_member n e m) own =
        on_ok-alike (val h e) (val k e) _ _ (val-same e (owns-left (deeds_of_term e) (deeds_of_member m) own)) (λ v.
        on_ok-alike (channel_of c.design (denoted_at c.design home n) (Some (bits v))) (channel_of c.design (denoted_at c.design home n) (Some (bits v))) _ _ refl (λ y. ap Ok (member_same m (owns-right (deeds_of_term e) (deeds_of_member m) own) y)))
    val-same (code.element n e) own =
        on_ok-alike (val h e) (val k e) _ _ (val-same e (owns-later (deed.Keeps n) (deeds_of_term e) own)) (λ v. ap (λ bytes. byte_in bytes (bits v)) (memories-same (denoted_at c.design home n) (owns-first (deed.Keeps n) (deeds_of_term e) own)))
    val-same (code.payload_byte n b e) own =
        on_ok-alike (val h e) (val k e) _ _ (val-same e (owns-right (deeds_of_name n) (deeds_of_term e) own)) (λ v.
        ap (λ w. on_ok (on_ok (not_empty (handle_in w payload_handle)) (live_payload c)) (λ q. byte_in (payload_bytes b q) (bits v))) (name-same n (owns-left (deeds_of_name n) (deeds_of_term e) own)))
    val-same (code.digit t e i) own =
        on_ok-alike (val h e) (val k e) _ _ (val-same e (owns-left (deeds_of_term e) (deeds_of_term i) own)) (λ v. on_ok-alike (val h i) (val k i) _ _ (val-same i (owns-right (deeds_of_term e) (deeds_of_term i) own)) (λ w. refl))
    val-same (code.digits t e high low) own = on_ok-alike (val h e) (val k e) _ _ (val-same e own) (λ v. refl)
    val-same (code.unary o t e) own = on_ok-alike (val h e) (val k e) _ _ (val-same e own) (λ v. refl)
    val-same (code.binary o t l r) own =
        on_ok-alike (val h l) (val k l) _ _ (val-same l (owns-left (deeds_of_term l) (deeds_of_term r) own)) (λ v.
        ap (λ m. cond (decides o v) (Ok (bool_value (truth v))) m) (on_ok-alike (val h r) (val k r) (λ w. binary o t v w) (λ w. binary o t v w) (val-same r (owns-right (deeds_of_term l) (deeds_of_term r) own)) (λ w. refl)))
    val-same (code.convert to from e) own = on_ok-alike (val h e) (val k e) _ _ (val-same e own) (λ v. refl)
    val-same (code.concat u l) own =
        on_ok-alike (val h u) (val k u) _ _ (val-same u (owns-left (deeds_of_term u) (deeds_of_term l) own)) (λ v. on_ok-alike (val h l) (val k l) _ _ (val-same l (owns-right (deeds_of_term u) (deeds_of_term l) own)) (λ w. refl))

    pub val_if-same : (e : Option Term) → Owns (deeds_of_written e) → val_if k e ≡ val_if h e
    val_if-same None own = refl
    val_if-same (Some e) own = on_ok-alike (val h e) (val k e) _ _ (val-same e own) (λ v. refl)

    pub place-same : (e : Option Term) → Owns (deeds_of_written e) → place_in k e ≡ place_in h e
    place-same None own = refl
    place-same (Some e) own = on_ok-alike (val h e) (val k e) _ _ (val-same e own) (λ v. refl)
