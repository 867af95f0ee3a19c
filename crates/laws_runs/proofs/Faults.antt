-- A fault is of the base protocol only where a hop is judged: nothing else that a step evaluates or does gives such a one.
use Rattle.std.proofs.Common.{◌≡◌, ℕ, suc, ◌+◌, ◌==◌, ◌||◌, not, Bool, true, false, cond, List, [], ◌∷◌, Option, Some, None, length, slice_get, refl}
use Rattle.std.specs.Prelude.{⊤, Result, Ok, Err, nat_lt, nat_le, ◌&&◌}
use Rattle.sim_model.specs.LogicValues.declared.kinds.Value.{Value}
use Rattle.sim_model.specs.LogicValues.declared.kinds.Sign.{Sign}
use Rattle.sim_model.specs.PayloadPool.declared.payload.Payload.{Payload}
use Rattle.sim_model.specs.SignalChannel.Signals.{conflict_of}
use Rattle.sim_model.specs.SignalChannel.declared.signal.Signal.{Signal}
use Rattle.sim_model.specs.SignalChannel.declared.signal.WriterConflict.{WriterConflict}
use Rattle.sim_model.specs.QuantumKeeper.declared.keeper.Keeper.{Keeper}
use Rattle.sim_model.specs.ModelTree.declared.expressions.BinaryOp.{BinaryOp}
use Rattle.sim_model.specs.ModelTree.declared.expressions.BinaryOp.TheVariants as op
use Rattle.sim_model.specs.ModelTree.declared.statements.Control.{Control}
use Rattle.sim_model.specs.ModelTree.declared.statements.Control.TheVariants as control
use Rattle.sim_model.specs.FlatDesign.Code as code
use Rattle.sim_model.specs.FlatDesign.Code.{Term, ArgumentTerm, SpawnTerm, EventTerm, AwaitTerm, DestinationTerm, ChannelTerm, Statement, body_at}
use Rattle.sim_model.specs.FlatDesign.declared.value_types.ValueType.{ValueType}
use Rattle.sim_model.specs.FlatDesign.declared.value_types.ValueType.TheVariants as type
use Rattle.sim_model.specs.FlatDesign.declared.names.NameUse.{NameUse}
use Rattle.sim_model.specs.FlatDesign.declared.names.NameUse.TheVariants as name_use
use Rattle.sim_model.specs.FlatDesign.declared.names.Member.{Member}
use Rattle.sim_model.specs.FlatDesign.declared.names.Member.TheVariants as member
use Rattle.sim_model.specs.FlatDesign.declared.names.EventMember.{EventMember}
use Rattle.sim_model.specs.FlatDesign.declared.names.EventMember.TheVariants as event
use Rattle.sim_model.specs.FlatDesign.declared.code.Local.{Local}
use Rattle.sim_model.specs.FlatDesign.declared.code.Controlled.{Controlled}
use Rattle.sim_model.specs.FlatDesign.declared.code.Controlled.TheVariants as controlled
use Rattle.sim_model.specs.FlatDesign.declared.code.Store.{Store as Target}
use Rattle.sim_model.specs.FlatDesign.declared.design.ChannelId.{ChannelId}
use Rattle.sim_model.specs.FlatDesign.declared.design.ChannelId.TheVariants as channel
use Rattle.sim_model.specs.FlatDesign.declared.design.Denoted.{Denoted}
use Rattle.sim_model.specs.FlatDesign.declared.design.Denoted.TheVariants as denoted
use Rattle.sim_model.specs.FlatDesign.declared.design.PortPart.{PortPart}
use Rattle.sim_model.specs.FlatDesign.declared.design.Design.{Design}
use Rattle.sim_model.specs.FlatDesign.declared.faults.RunFault.{RunFault}
use Rattle.sim_model.specs.FlatDesign.declared.faults.RunFault.TheVariants as fault
use Rattle.sim_model.specs.Values.{on_ok, bits, moment, time_within, time_value, time_less, unless_zero, binary, decides, truth, bool_value, index_within, digit_at}
use Rattle.sim_model.specs.Residual.{Residual, has_goal}
use Rattle.sim_model.specs.Unwinding.{catches}
use Rattle.sim_model.specs.Configuration.{Config, Instance, arena, instance_at}
use Rattle.sim_model.specs.Payloads.{payload_of}
use Rattle.sim_model.specs.Waits.{deadline_in}
use Rattle.sim_model.specs.Reading.{Here, denotes, channel_or, port_channel, channel_of, channel_here, read_denoted, read_name, process_of, payload_handle_of, not_empty, not_freed, payload_number, live_payload, payload_here, member_of_channel, sync_needed, keeper_here, keeper_member, member_value, byte_in, payload_bytes, memory_here, val, val_if, place_in}
use Rattle.sim_model.specs.Storing.{passes, bytes_in, do_assign}
use Rattle.sim_model.specs.Waiting.{object_event, named_object_event, event_of, places_in, events_at, time_if, deadline_if, awaits, awaited, when_after, do_notify_after}
use Rattle.sim_model.specs.Channels.{channel_in, written_unless, write_signal, write_channel, do_write, do_nb_write}
use Rattle.sim_model.specs.Calls.{locals_in, argument_value, argument_values, may_enter, do_call, thrown, may_spawn, first_arguments, do_spawn}
use Rattle.sim_model.specs.Transport.{size_within, size_or, may_make, do_make, kept, on_keeper, may_enter_handler, do_b_transport, do_nb_transport}
use Rattle.sim_model.specs.Statements.{do_statement, owed_call, owed_by}
use Rattle.sim_model.specs.Control.{is_top, is_below_top, is_thread, ends_or_restarts, injected, throws_at, controlled_by, unless_ended, control_call, throw_call, target_of, do_control, do_throw_it}

-- B is what is said of a fault of the protocol, by its rule, its hop and its payload; of other faults nothing is said
module _ (B : ℕ → ℕ → ℕ → Type 0) where
  abbrev pub Blames : RunFault → Type 0
  Blames (fault.Protocol n hop t) = B n hop t
  Blames other = ⊤

  abbrev pub IfFault : {A : Type 0} → Result A RunFault → Type 0
  IfFault (Ok x) = ⊤
  IfFault (Err f) = Blames f

  pub on-fault : {A C : Type 0} (m : Result A RunFault) (f : A → Result C RunFault) → IfFault m → ((x : A) → m ≡ Ok x → IfFault (f x)) → IfFault (on_ok m f)
  on-fault (Ok x) f h later = later x refl
  on-fault (Err g) f h later = h

  then_on : {A C : Type 0} (m : Result A RunFault) (f : A → Result C RunFault) → IfFault m → ((x : A) → IfFault (f x)) → IfFault (on_ok m f)
  then_on m f h later = on-fault m f h (λ x is. later x)

  pub either-fault : {A : Type 0} (b : Bool) (x y : Result A RunFault) → IfFault x → IfFault y → IfFault (cond b x y)
  either-fault true x y one two = one
  either-fault false x y one two = two

  -- ---- values

  time_is : (t : ℕ) → IfFault (time_within t)
  time_is t = either-fault (nat_lt t _) (Ok t) (Err fault.TimeOverflow) tt tt

  time_value_is : (t : ℕ) → IfFault (time_value t)
  time_value_is t = then_on (time_within t) _ (time_is t) (λ u. tt)

  time_less_is : (s t : ℕ) → IfFault (time_less s t)
  time_less_is s t = either-fault (nat_lt s t) (Err fault.TimeOverflow) _ tt tt

  unless_is : (s : Sign) (o : Option ℕ) → IfFault (unless_zero s o)
  unless_is s None = tt
  unless_is s (Some n) = tt

  sum_is : (t : ValueType) (l r : Value) → IfFault (binary op.Add t l r)
  sum_is type.Time l r = time_value_is _
  sum_is other l r = tt

  difference_is : (t : ValueType) (l r : Value) → IfFault (binary op.Subtract t l r)
  difference_is type.Time l r = time_less_is _ _
  difference_is other l r = tt

  product_is : (t : ValueType) (l r : Value) → IfFault (binary op.Multiply t l r)
  product_is type.Time l r = time_value_is _
  product_is other l r = tt

  binary_is : (o : BinaryOp) (t : ValueType) (l r : Value) → IfFault (binary o t l r)
  binary_is op.Add t l r = sum_is t l r
  binary_is op.Subtract t l r = difference_is t l r
  binary_is op.Multiply t l r = product_is t l r
  binary_is op.Divide t l r = unless_is _ _
  binary_is op.Remainder t l r = unless_is _ _
  binary_is other t l r = tt

  index_is : (i n : ℕ) → IfFault (index_within i n)
  index_is i n = either-fault (nat_lt i n) (Ok i) (Err (fault.IndexRange i n)) tt tt

  digit_is : (t : ValueType) (v : Value) (i : ℕ) → IfFault (digit_at t v i)
  digit_is (type.Int width) v i = then_on (index_within i 64) _ (index_is i 64) (λ n. tt)
  digit_is (type.Uint width) v i = then_on (index_within i 64) _ (index_is i 64) (λ n. tt)
  digit_is (type.Vector width) v i = then_on (index_within i width) _ (index_is i width) (λ n. tt)
  digit_is other v i = tt

  -- ---- names

  channel_or_is : (cs : List ChannelId) (k : ℕ) (o : Option ChannelId) → IfFault (channel_or cs k o)
  channel_or_is cs k None = tt
  channel_or_is cs k (Some ch) = tt

  port_is : (o : Option PortPart) (k : ℕ) → IfFault (port_channel o k)
  port_is None k = tt
  port_is (Some p) k = channel_or_is p.channels k (slice_get p.channels k)

  channel_is : (d : Design) (x : Denoted) (k : Option ℕ) → IfFault (channel_of d x k)
  channel_is d (denoted.Port n) k = port_is (slice_get d.ports n) _
  channel_is d other k = tt

  empty_is : (o : Option ℕ) → IfFault (not_empty o)
  empty_is None = tt
  empty_is (Some n) = tt

  freed_is : (t : ℕ) (o : Option Payload) → IfFault (not_freed t o)
  freed_is t None = tt
  freed_is t (Some q) = tt

  pub live-fault : (c : Config) (t : ℕ) → IfFault (live_payload c t)
  live-fault c t = freed_is t (payload_of c.transactions.pool t)

  sync_is : (o : Option Bool) → IfFault (sync_needed o)
  sync_is None = tt
  sync_is (Some b) = tt

  keeper_is : (now : ℕ) (m : Member) (o : Option Keeper) → IfFault (keeper_member now m o)
  keeper_is now m None = tt
  keeper_is now member.NeedSync (Some k) = sync_is _
  keeper_is now other (Some k) = tt

  byte_is : (xs : List ℕ) (i : ℕ) → IfFault (byte_in xs i)
  byte_is xs i = then_on (index_within i (length xs)) _ (index_is i (length xs)) (λ n. tt)

  module _ (h : Here) where
    here_is : (n : ℕ) (k : Option ℕ) → IfFault (channel_here h n k)
    here_is n k = channel_is h.config.design (denotes h n) k

    read_is : (x : Denoted) → IfFault (read_denoted h x)
    read_is (denoted.Port n) = then_on (channel_of h.config.design (denoted.Port n) None) _ (channel_is h.config.design (denoted.Port n) None) (λ ch. tt)
    read_is other = tt

    name_is : (n : NameUse) → IfFault (read_name h n)
    name_is (name_use.Local i) = tt
    name_is (name_use.Declared n) = read_is (denotes h n)

    pub number-fault : (n : NameUse) → IfFault (payload_number h n)
    number-fault n = empty_is (payload_handle_of h n)

    payload_is : (n : NameUse) → IfFault (payload_here h n)
    payload_is n = then_on (payload_number h n) _ (number-fault n) (λ t. live-fault h.config t)

    of_channel_is : (n : NameUse) (m : Member) → IfFault (member_of_channel h n m)
    of_channel_is (name_use.Local i) m = tt
    of_channel_is (name_use.Declared n) m = then_on (channel_here h n None) _ (here_is n None) (λ ch. tt)

    member_is : (n : NameUse) (m : Member) → IfFault (member_value h n m)
    member_is n member.Changed = of_channel_is n member.Changed
    member_is n member.Available = of_channel_is n member.Available
    member_is n member.Free = of_channel_is n member.Free
    member_is n member.Value = of_channel_is n member.Value
    member_is n member.Valid = tt
    member_is n member.Terminated = then_on (not_empty (process_of h n)) _ (empty_is (process_of h n)) (λ p. tt)
    member_is n member.Live = tt
    member_is n (member.Field f) = then_on (payload_here h n) _ (payload_is n) (λ p. tt)
    member_is n member.Length = then_on (payload_here h n) _ (payload_is n) (λ p. tt)
    member_is n member.EnableLength = then_on (payload_here h n) _ (payload_is n) (λ p. tt)
    member_is n member.Local = keeper_is h.config.cycle.now member.Local (keeper_here h n)
    member_is n member.Next = keeper_is h.config.cycle.now member.Next (keeper_here h n)
    member_is n member.NeedSync = keeper_is h.config.cycle.now member.NeedSync (keeper_here h n)

    -- ---- expressions

    val_is : (e : Term) → IfFault (val h e)
    val_is (code.literal v) = tt
    val_is code.now = tt
    val_is code.myself = tt
    val_is (code.name n) = then_on (read_name h n) _ (name_is n) (λ v. tt)
    val_is (code.placed n e) = then_on (val h e) _ (val_is e) (λ k. then_on (channel_here h n (Some (bits k))) _ (here_is n (Some (bits k))) (λ ch. tt))
    val_is (code.member n m) = member_is n m
    val_is (code.placed_member n e m) = then_on (val h e) _ (val_is e) (λ k. then_on (channel_here h n (Some (bits k))) _ (here_is n (Some (bits k))) (λ ch. tt))
    val_is (code.element n e) = then_on (val h e) _ (val_is e) (λ i. byte_is (memory_here h n) (bits i))
    val_is (code.payload_byte n b e) = then_on (val h e) _ (val_is e) (λ i. then_on (payload_here h n) _ (payload_is n) (λ p. byte_is (payload_bytes b p) (bits i)))
    val_is (code.digit t e i) = then_on (val h e) _ (val_is e) (λ v. then_on (val h i) _ (val_is i) (λ k. digit_is t v (bits k)))
    val_is (code.digits t e high low) = then_on (val h e) _ (val_is e) (λ v. tt)
    val_is (code.unary o t e) = then_on (val h e) _ (val_is e) (λ v. tt)
    val_is (code.binary o t l r) = then_on (val h l) _ (val_is l) (λ x. either-fault (decides o x) (Ok (bool_value (truth x))) (on_ok (val h r) (λ y. binary o t x y)) tt (then_on (val h r) _ (val_is r) (λ y. binary_is o t x y)))
    val_is (code.convert to from e) = then_on (val h e) _ (val_is e) (λ v. tt)
    val_is (code.concat u l) = then_on (val h u) _ (val_is u) (λ x. then_on (val h l) _ (val_is l) (λ y. tt))

    val_if_is : (e : Option Term) → IfFault (val_if h e)
    val_if_is None = tt
    val_if_is (Some e) = then_on (val h e) _ (val_is e) (λ v. tt)

    place_is : (e : Option Term) → IfFault (place_in h e)
    place_is None = tt
    place_is (Some e) = then_on (val h e) _ (val_is e) (λ v. tt)

    -- ---- waits and events

    object_is : (m : EventMember) (k : Option ℕ) (x : Denoted) → IfFault (object_event h m k x)
    object_is m k (denoted.Channel ch) = tt
    object_is m k (denoted.Event n) = tt
    object_is m k (denoted.Port n) = then_on (channel_of h.config.design (denoted.Port n) k) _ (channel_is h.config.design (denoted.Port n) k) (λ ch. tt)
    object_is m k other = tt

    named_is : (m : EventMember) (k : Option ℕ) (n : NameUse) → IfFault (named_object_event h m k n)
    named_is m k (name_use.Local n) = tt
    named_is m k (name_use.Declared n) = object_is m k (denotes h n)

    event_is : (n : NameUse) (k : Option ℕ) (m : EventMember) → IfFault (event_of h n k m)
    event_is n k event.Own = named_is event.Own k n
    event_is n k event.Posedge = named_is event.Posedge k n
    event_is n k event.Negedge = named_is event.Negedge k n
    event_is n k event.DataWritten = named_is event.DataWritten k n
    event_is n k event.DataRead = named_is event.DataRead k n
    event_is n k event.Terminated = then_on (not_empty (process_of h n)) _ (empty_is (process_of h n)) (λ p. tt)
    event_is n k event.Reset = then_on (not_empty (process_of h n)) _ (empty_is (process_of h n)) (λ p. tt)

    places_are : (es : List EventTerm) → IfFault (places_in h es)
    places_are [] = tt
    places_are (e ∷ es) = then_on (place_in h e.place) _ (place_is e.place) (λ k. then_on (places_in h es) _ (places_are es) (λ ks. tt))

    events_are : (es : List EventTerm) (ks : List (Option ℕ)) → IfFault (events_at h es ks)
    events_are [] ks = tt
    events_are (e ∷ es) [] = tt
    events_are (e ∷ es) (k ∷ ks) = then_on (event_of h e.event_name k e.event) _ (event_is e.event_name k e.event) (λ x. then_on (events_at h es ks) _ (events_are es ks) (λ xs. tt))

    time_if_is : (e : Option Term) → IfFault (time_if h e)
    time_if_is None = tt
    time_if_is (Some e) = then_on (val h e) _ (val_is e) (λ v. tt)

    deadline_is : (now t : ℕ) → IfFault (deadline_in now t)
    deadline_is now t = either-fault (t == 0) _ _ tt (then_on (time_within (now + t)) _ (time_is (now + t)) (λ u. tt))

    deadline_if_is : (now : ℕ) (o : Option ℕ) → IfFault (deadline_if now o)
    deadline_if_is now None = tt
    deadline_if_is now (Some t) = deadline_is now t

    awaits_is : (how : _) (es : List EventTerm) (t : Option Term) → IfFault (awaits h how es t)
    awaits_is how es t =
        then_on (places_in h es) _ (places_are es) (λ ks. then_on (time_if h t) _ (time_if_is t) (λ u. then_on (events_at h es ks) _ (events_are es ks) (λ xs.
        then_on (deadline_if h.config.cycle.now u) _ (deadline_if_is h.config.cycle.now u) (λ d. tt))))

    awaited_is : (w : AwaitTerm) → IfFault (awaited h w)
    awaited_is code.static = tt
    awaited_is code.delta = tt
    awaited_is (code.for_ e) = then_on (val h e) _ (val_is e) (λ v. then_on (deadline_in h.config.cycle.now (moment v)) _ (deadline_is h.config.cycle.now (moment v)) (λ d. tt))
    awaited_is (code.any es t) = awaits_is _ es t
    awaited_is (code.all es t) = awaits_is _ es t

    when_is : (now t : ℕ) → IfFault (when_after now t)
    when_is now t = either-fault (t == 0) _ _ tt (then_on (time_within (now + t)) _ (time_is (now + t)) (λ u. tt))

    -- ---- arguments, and targets of control

    argument_is : (x : ArgumentTerm) → IfFault (argument_value h x)
    argument_is (code.by_value e) = val_is e
    argument_is (code.inout n) = name_is n

    arguments_are : (ls : List Local) (i : ℕ) (xs : List ArgumentTerm) → IfFault (argument_values h ls i xs)
    arguments_are ls i [] = tt
    arguments_are ls i (x ∷ xs) = then_on (argument_value h x) _ (argument_is x) (λ v. then_on (argument_values h ls (suc i) xs) _ (arguments_are ls (suc i) xs) (λ vs. tt))

    first_are : (ls : List Local) (i : ℕ) (es : List Term) → IfFault (first_arguments h ls i es)
    first_are ls i [] = tt
    first_are ls i (e ∷ es) = then_on (val h e) _ (val_is e) (λ v. then_on (first_arguments h ls (suc i) es) _ (first_are ls (suc i) es) (λ vs. tt))

    target_is : (p : ℕ) (who : Controlled) → IfFault (target_of h p who)
    target_is p (controlled.Named n) = empty_is (process_of h n)
    target_is p controlled.Myself = tt

    channel_in_is : (ch : ChannelTerm) (k : Option ℕ) → IfFault (channel_in h ch k)
    channel_in_is ch k = here_is ch.channel_name k

  -- ---- statements but transport calls

  pub enter-fault : (r : Residual) → IfFault (may_enter r)
  enter-fault r = either-fault (nat_lt _ _) (Ok tt) (Err fault.FrameDepth) tt tt

  pub handler-fault : (r : Residual) (o : Option ℕ) → IfFault (may_enter_handler r o)
  handler-fault r None = tt
  handler-fault r (Some f) = enter-fault r

  written_is : (c : Config) (n : ℕ) (s : Signal) (v : Value) (p : ℕ) (o : Option WriterConflict) → IfFault (written_unless c n s v p o)
  written_is c n s v p None = tt
  written_is c n s v p (Some w) = tt

  write_signal_is : (c : Config) (n : ℕ) (v : Value) (p : ℕ) (o : Option Signal) → IfFault (write_signal c n v p o)
  write_signal_is c n v p None = tt
  write_signal_is c n v p (Some s) = written_is c n s v p (conflict_of (Some p) s.writer)

  write_is : (c : Config) (p : ℕ) (r : Residual) (v : Value) (ch : ChannelId) → IfFault (write_channel c p r v ch)
  write_is c p r v (channel.Signal n events) = write_signal_is (passes c p r) n v p _
  write_is c p r v other = tt

  pub thrown-fault : (c : Config) (p : ℕ) (r : Residual) (e : ℕ) → IfFault (thrown c p r e)
  thrown-fault c p r e = either-fault (catches r e) _ _ tt tt

  spawn_is : (c : Config) → IfFault (may_spawn c)
  spawn_is c = either-fault (nat_lt _ _) (Ok tt) (Err fault.TooManyInstances) tt tt

  size_is : (least n : ℕ) → IfFault (size_within least n)
  size_is least n = either-fault (nat_le least n && nat_le n _) (Ok n) _ tt tt

  make_is : (c : Config) → IfFault (may_make c)
  make_is c = either-fault (nat_lt _ _) (Ok tt) (Err fault.TooManyPayloads) tt tt

  kept_is : (c : Config) (n : Option ℕ) (k : Option Keeper) → IfFault (kept c n k)
  kept_is c n None = tt
  kept_is c n (Some k) = tt

  on_keeper_is : (c : Config) (o : Option Keeper) (f : Keeper → Result Config RunFault) → ((k : Keeper) → IfFault (f k)) → IfFault (on_keeper c o f)
  on_keeper_is c None f h = tt
  on_keeper_is c (Some k) f h = h k

  ends_is : (c : Config) (q : ℕ) (i : Instance) (k : _) → IfFault (ends_or_restarts c q i k)
  ends_is c q i k = either-fault (is_below_top c q) _ _ tt (either-fault (is_top c q && _) _ _ tt tt)

  injected_is : (c : Config) (q : ℕ) (i : Instance) (e : ℕ) → IfFault (injected c q i e)
  injected_is c q i e = either-fault {A = Config} (not (is_thread i.kind) || not i.started) _ _ tt (either-fault (catches i.residual e) _ _ tt tt)

  throws_is : (c : Config) (q : ℕ) (i : Instance) (e : ℕ) → IfFault (throws_at c q i e)
  throws_is c q i e = either-fault (is_below_top c q) _ _ tt (either-fault (is_top c q) _ _ (either-fault (has_goal i.residual) (Ok c) _ tt (thrown-fault c q i.residual e)) (injected_is c q i e))

  controlled_is : (c : Config) (q : ℕ) (i : Instance) (k : Control) → IfFault (controlled_by c q i k)
  controlled_is c q i control.Kill = ends_is c q i _
  controlled_is c q i control.Reset = ends_is c q i _
  controlled_is c q i other = tt

  unless_ended_is : (c : Config) (o : Option Instance) (f : Instance → Result Config RunFault) → ((i : Instance) → IfFault (f i)) → IfFault (unless_ended c o f)
  unless_ended_is c None f h = tt
  unless_ended_is c (Some i) f h = either-fault i.ended (Ok c) (f i) tt (h i)

  control_is : (c : Config) (q : ℕ) (k : Control) → IfFault (control_call c q k)
  control_is c q k = unless_ended_is c (instance_at c q) _ (λ j. controlled_is c q j k)

  throw_is : (c : Config) (q e : ℕ) → IfFault (throw_call c q e)
  throw_is c q e = unless_ended_is c (instance_at c q) _ (λ j. throws_is c q j e)

  owed_call_is : (c : Config) (q : ℕ) (x : Statement) → IfFault (owed_call c q x)
  owed_call_is c q (code.control k who all) = control_is c q k
  owed_call_is c q (code.throw_it who e all) = throw_is c q e
  owed_call_is c q other = tt

  pub owed-fault : (c : Config) (q : ℕ) (o : Option Statement) → IfFault (owed_by c q o)
  owed-fault c q None = tt
  owed-fault c q (Some x) = owed_call_is c q x

  assign_is : (c : Config) (p : ℕ) (r : Residual) (h : Here) (x : DestinationTerm) (e : Term) → IfFault (do_assign c p r h x e)
  assign_is c p r h (code.to_name target) e = then_on (val h e) _ (val_is h e) (λ v. tt)
  assign_is c p r h (code.to_field n f) e =
      then_on (val h e) _ (val_is h e) (λ v. then_on (payload_number h n) _ (number-fault h n) (λ t. then_on (live_payload c t) _ (live-fault c t) (λ q. tt)))
  assign_is c p r h (code.to_element n index) e =
      then_on (val h index) _ (val_is h index) (λ i. then_on (val h e) _ (val_is h e) (λ v. then_on (index_within (bits i) (length (memory_here h n))) _ (index_is (bits i) (length (memory_here h n))) (λ k. tt)))
  assign_is c p r h (code.to_payload_byte n b index) e =
      then_on (val h index) _ (val_is h index) (λ i. then_on (val h e) _ (val_is h e) (λ v. then_on (payload_number h n) _ (number-fault h n) (λ t. then_on (live_payload c t) _ (live-fault c t) (λ q.
      then_on (index_within (bits i) (length (bytes_in b q))) _ (index_is (bits i) (length (bytes_in b q))) (λ k. tt)))))

  module _ (c : Config) (p : ℕ) (i : Instance) (r : Residual) (h : Here) where
    -- a channel statement that evaluates no more than the place of its port
    on_channel_is : (t : ChannelTerm) (f : ChannelId → Config) → IfFault (on_ok (place_in h t.place) (λ k. on_ok (channel_in h t k) (λ ch. Ok (f ch))))
    on_channel_is t f = then_on (place_in h t.place) _ (place_is h t.place) (λ k. then_on (channel_in h t k) _ (channel_in_is h t k) (λ ch. tt))

    -- one on a payload that lives
    on_payload_is : (n : NameUse) (f : ℕ → Payload → Config) → IfFault (on_ok (payload_number h n) (λ t. on_ok (live_payload c t) (λ q. Ok (f t q))))
    on_payload_is n f = then_on (payload_number h n) _ (number-fault h n) (λ t. then_on (live_payload c t) _ (live-fault c t) (λ q. tt))

    make_statement : (n : NameUse) (e : Term) (m : Option Term) → IfFault (do_make c p r h n e m)
    make_statement n e m =
        then_on (val h e) _ (val_is h e) (λ v. then_on (val_if h m) _ (val_if_is h m) (λ w. then_on (size_within 1 (bits v)) _ (size_is 1 (bits v)) (λ x.
        then_on (size_within 0 (size_or w)) _ (size_is 0 (size_or w)) (λ y. then_on (may_make c) _ (make_is c) (λ ok. tt)))))

    write_statement : (ch : ChannelTerm) (t : ValueType) (e : Term) → IfFault (do_write c p r h ch t e)
    write_statement ch t e =
        then_on (place_in h ch.place) _ (place_is h ch.place) (λ k. then_on (val h e) _ (val_is h e) (λ v. then_on (channel_in h ch k) _ (channel_in_is h ch k) (λ x. write_is c p r _ x)))

    nb_write_statement : (x : Option Target) (ch : ChannelTerm) (s : ValueType) (e : Term) → IfFault (do_nb_write c p r h x ch s e)
    nb_write_statement x ch s e =
        then_on (place_in h ch.place) _ (place_is h ch.place) (λ k. then_on (val h e) _ (val_is h e) (λ v. then_on (channel_in h ch k) _ (channel_in_is h ch k) (λ y. tt)))

    spawn_statement : (s : SpawnTerm) → IfFault (do_spawn c p r h s)
    spawn_statement s = then_on (first_arguments h (locals_in (body_at (arena c) s.function)) 0 s.arguments) _ (first_are h _ 0 s.arguments) (λ vs. then_on (may_spawn c) _ (spawn_is c) (λ ok. tt))

    call_statement : (s f : ℕ) (arguments : List ArgumentTerm) → IfFault (do_call c p r h s f arguments)
    call_statement s f arguments = then_on (argument_values h (locals_in (body_at (arena c) f)) 0 arguments) _ (arguments_are h _ 0 arguments) (λ vs. then_on (may_enter r) _ (enter-fault r) (λ ok. tt))

    after_statement : (n : ℕ) (e : Term) → IfFault (do_notify_after c p r h n e)
    after_statement n e = then_on (val h e) _ (val_is h e) (λ v. then_on (when_after c.cycle.now (moment v)) _ (when_is h c.cycle.now (moment v)) (λ w. tt))

    control_statement : (s : ℕ) (k : Control) (who : Controlled) (all : Bool) → IfFault (do_control c p r h s k who all)
    control_statement s k who false = then_on (target_of h p who) _ (target_is h p who) (λ q. control_is (passes c p r) q k)
    control_statement s k who true = then_on (target_of h p who) _ (target_is h p who) (λ q. tt)

    throw_it_statement : (s : ℕ) (who : Controlled) (e : ℕ) (all : Bool) → IfFault (do_throw_it c p r h s who e all)
    throw_it_statement s who e false = then_on (target_of h p who) _ (target_is h p who) (λ q. throw_is (passes c p r) q e)
    throw_it_statement s who e true = then_on (target_of h p who) _ (target_is h p who) (λ q. tt)

    -- whatever is said of faults of the protocol holds of those of a statement, but of the two transport calls
    pub statement-fault : (s : ℕ) (x : Statement) → ((socket : ℕ) (n d : NameUse) → x ≡ code.b_transport socket n d → IfFault (do_b_transport c p r h s socket n d))
        → ((y : Option Target) (socket : ℕ) (n ph d : NameUse) → x ≡ code.nb_transport y socket n ph d → IfFault (do_nb_transport c p r h s socket n ph d)) → IfFault (do_statement c p i r h s x)
    statement-fault s (code.var n t e) one two = then_on (val_if h e) _ (val_if_is h e) (λ v. tt)
    statement-fault s (code.assign x e) one two = assign_is c p r h x e
    statement-fault s (code.call x f arguments) one two = call_statement s f arguments
    statement-fault s (code.read x t) one two = on_channel_is t _
    statement-fault s (code.nb_read x t y) one two = on_channel_is t _
    statement-fault s (code.nb_write x t v e) one two = nb_write_statement x t v e
    statement-fault s (code.trylock x t) one two = on_channel_is t _
    statement-fault s (code.unlock x t) one two = on_channel_is t _
    statement-fault s (code.sem_trywait x t) one two = on_channel_is t _
    statement-fault s (code.nb_transport y socket n ph d) one two = two y socket n ph d refl
    statement-fault s (code.write t v e) one two = write_statement t v e
    statement-fault s (code.print text e) one two = then_on (val_if h e) _ (val_if_is h e) (λ v. tt)
    statement-fault s (code.notify_after n e) one two = after_statement n e
    statement-fault s (code.wait w) one two = then_on (awaited h w) _ (awaited_is h w) (λ t. tt)
    statement-fault s (code.next_trigger w) one two = then_on (awaited h w) _ (awaited_is h w) (λ t. tt)
    statement-fault s (code.lock t) one two = on_channel_is t _
    statement-fault s (code.sem_wait t) one two = on_channel_is t _
    statement-fault s (code.post t) one two = on_channel_is t _
    statement-fault s (code.make n e m) one two = make_statement n e m
    statement-fault s (code.acquire n) one two = on_payload_is n _
    statement-fault s (code.release n) one two = on_payload_is n _
    statement-fault s (code.carry n m) one two = on_payload_is n _
    statement-fault s (code.b_transport socket n d) one two = one socket n d refl
    statement-fault s (code.qk_global e) one two = then_on (val h e) _ (val_is h e) (λ v. tt)
    statement-fault s (code.spawn x) one two = spawn_statement x
    statement-fault s (code.control k who all) one two = control_statement s k who all
    statement-fault s (code.throw_it who e all) one two = throw_it_statement s who e all
    statement-fault s (code.throw e) one two = thrown-fault c p r e
    statement-fault s (code.return_ e) one two = then_on (val_if h e) _ (val_if_is h e) (λ v. tt)
    statement-fault s (code.if_ e b other) one two = then_on (val h e) _ (val_is h e) (λ v. tt)
    statement-fault s (code.while_ e b) one two = then_on (val h e) _ (val_is h e) (λ v. tt)
    statement-fault s other one two = search (then_on, val_is h, on_keeper_is (passes c p r), kept_is (passes c p r))

  pub begin-fault : (now t : ℕ) (f : ℕ → Result Config RunFault) → ((e : ℕ) → IfFault (f e)) → IfFault (on_ok (time_within (now + t)) f)
  begin-fault now t f h = then_on (time_within (now + t)) f (time_is (now + t)) h
