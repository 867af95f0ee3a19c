-- One statement of a process that sees two configurations alike, form by form: it does the same in both.
use Rattle.std.proofs.Common.{◌≡◌, ◌+◌, ◌==◌, ℕ, zero, suc, Bool, true, false, cond, List, [], ◌∷◌, ◌++◌, length, get_or, slice_get, slice_set, Option, Some, None, option_map, Contains, refl, sym, ap, ◌∙◌, subst, arith}
use Rattle.std.specs.Prelude.{⊤, ◌<◌, Result, Ok, Err, nat_lt}
use Rattle.std.specs.List.{flat_map}
use Rattle.std.proofs.lemmas.Option.{none-some, same_Some, slice_get_within, get_or_from_slice_get}
use Rattle.std.proofs.lemmas.List.Elements.{Contains-append_left, Contains-append_right}
use Rattle.sim_model.specs.LogicValues.declared.kinds.Value.{Value}
use Rattle.sim_model.specs.LogicValues.declared.kinds.Value.TheVariants as value
use Rattle.sim_model.specs.EventCore.declared.event.Ev.{Ev}
use Rattle.sim_model.specs.EventCore.declared.notifications.When.{When}
use Rattle.sim_model.specs.EventCore.declared.notifications.When.TheVariants as when
use Rattle.sim_model.specs.EventCore.declared.notifications.Pending.{Pending}
use Rattle.sim_model.specs.FifoSync.Fifos.{Queued, free, readable}
use Rattle.sim_model.specs.FlatDesign.Code as code
use Rattle.sim_model.specs.FlatDesign.Code.{Term, ChannelTerm, DestinationTerm, AwaitTerm, ArgumentTerm, Statement, body_at}
use Rattle.sim_model.specs.FlatDesign.Denotes.{denoted_at}
use Rattle.sim_model.specs.FlatDesign.declared.value_types.ValueType.{ValueType}
use Rattle.sim_model.specs.FlatDesign.declared.names.NameUse.{NameUse}
use Rattle.sim_model.specs.FlatDesign.declared.names.NameUse.TheVariants as name_use
use Rattle.sim_model.specs.FlatDesign.declared.names.EventMember.TheVariants as event
use Rattle.sim_model.specs.FlatDesign.declared.code.Handler.{Handler}
use Rattle.sim_model.specs.FlatDesign.declared.code.Store.{Store as Target}
use Rattle.sim_model.specs.FlatDesign.declared.design.ChannelId.{ChannelId}
use Rattle.sim_model.specs.FlatDesign.declared.design.ChannelId.TheVariants as channel
use Rattle.sim_model.specs.FlatDesign.declared.design.Denoted.{Denoted}
use Rattle.sim_model.specs.FlatDesign.declared.design.Denoted.TheVariants as denoted
use Rattle.sim_model.specs.FlatDesign.declared.design.PortPart.{PortPart}
use Rattle.sim_model.specs.FlatDesign.declared.faults.RunFault.{RunFault}
use Rattle.sim_model.specs.FlatDesign.declared.faults.RunFault.TheVariants as fault
use Rattle.sim_model.specs.QuantumKeeper.Keepers.{after_inc, with_local, after_reset}
use Rattle.sim_model.specs.QuantumKeeper.declared.keeper.Keeper.{Keeper}
use Rattle.sim_model.specs.Values.{on_ok, truth, bits, moment, time_within, cut_to, index_within}
use Rattle.sim_model.specs.Residual.{Residual, Frame, guard, try_, put, block, entered, innermost, open_frames, enter}
use Rattle.sim_model.specs.Configuration.{Config, Processes, Channels, Store, Quantum, Trace, waits_for_any, Instance, no_deadline, arena, with_residual, with_marks}
use Rattle.sim_model.specs.Reading.{Here, channel_or, port_channel, channel_of, channel_here, keeper_at, memory_number, memory_here, val, val_if, place_in}
use Rattle.sim_model.specs.Storing.{passes, set_denoted, set_name, stored_if, set_memory, low_byte, first_value, do_var, do_assign, do_print, chosen, do_if, looped, do_while}
use Rattle.sim_model.specs.Waiting.{channel_event, event_number, on_event, do_notify_delta, when_after, do_notify_after, cancelled, do_cancel, awaited, do_wait, do_next_trigger}
use Rattle.sim_model.specs.Waits.{notify}
use Rattle.sim_model.specs.Channels.{channel_in, blocks, fifo_here, write_fifo, write_channel, do_write, read_value, read_fifo, do_read, nb_read_value, nb_read_fifo, do_nb_read, nb_write_fifo, do_nb_write}
use Rattle.sim_model.specs.Calls.{locals_in, argument_values, frame_limit, may_enter, do_call, answer_type, cut_answer, do_return, final_value, given_back, answer_of, do_guard, do_try, with_left, thrown}
use Rattle.sim_model.specs.Transport.{with_keeper, kept, on_keeper, keeper_named, do_qk_global, do_qk_inc, do_qk_set, do_qk_reset}
use Rattle.sim_model.specs.Unwinding.{returned, return_marks, catches, raise, left_by_raise}
use Rattle.sim_model.specs.Statements.{do_statement, hands_back}
use Rattle.sim_model.specs.declared.plain.Goal.TheVariants as goal_of
use Rattle.sim_model.specs.declared.plain.Command.{Command}
use Rattle.kernel_bodies.specs.Strip.{strip}
use Rattle.kernel_bodies.proofs.Strips.{strip-put, strip-innermost, strip-open_frames, strip-catches, strip-raise, strip-left_by_raise, strip-returned}
use Rattle.order_free.specs.declared.uses.Deed.{Deed}
use Rattle.order_free.specs.declared.uses.Deed.TheVariants as deed
use Rattle.order_free.specs.declared.uses.Use.{Use}
use Rattle.order_free.specs.declared.uses.Use.TheVariants as used
use Rattle.order_free.specs.Uses.{deeds_of_name, deeds_of_term, deeds_of_written, deeds_of_store, deeds_of_read, deeds_of_write, deeds_of_destination, deeds_of_await, deeds_of_argument, deeds_of, uses_of_deed, kept_under, channels_under, channels_of_port, written_to, read_from, events_under}
use Rattle.laws_order.specs.Acts as act
use Rattle.laws_order.specs.Acts.{IsLater}
use Rattle.laws_order.specs.Sees.{in_reach, Sees}
use Rattle.laws_order.specs.Alongside.{Both}
use Rattle.laws_order.proofs.Along.{Along, own, telling, marking, numbering, acting}
use Rattle.laws_order.proofs.Ends.{readable-shown}
use Rattle.laws_order.proofs.Changes.{same-change, both_by, both-ok, both-if, residual-along, passes-along, local-along, waits-along, notify-along, write-along, given-along, taken-along}
use Rattle.laws_order.proofs.Reading as reading
use Rattle.laws_order.proofs.Waits.{awaited-same, arguments-same}
use Rattle.laws_order.proofs.Reading.{contains-first}

-- ---- the channel that a statement names is one of those under the name

abbrev IsFault : {A : Type 0} → Result A RunFault → Type 0
IsFault (Ok v) = ⊥
IsFault (Err g) = ⊤

abbrev value_or : {A : Type 0} → A → Result A RunFault → A
value_or d (Ok v) = v
value_or d (Err g) = d

never_ok : {A B : Type 0} (f : RunFault) (x : A) → ◌≡◌ {A = Result A RunFault} (Err f) (Ok x) → B
never_ok f x e = absurd (subst IsFault e tt)

same_ok : {A : Type 0} (x y : A) → ◌≡◌ {A = Result A RunFault} (Ok x) (Ok y) → x ≡ y
same_ok x y e = ap (value_or x) e

later_of : (t : Bool) (m : Result ℕ RunFault) (w : When) → cond t (Ok when.Delta) (on_ok m (λ u. Ok (when.At (record { 0 = u })))) ≡ Ok w → IsLater w
later_of true m w is = subst IsLater (same_ok when.Delta w is) tt
later_of false (Ok u) w is = subst IsLater (same_ok (when.At (record { 0 = u })) w is) tt
later_of false (Err f) w is = never_ok f w is

of_list : (cs : List ChannelId) (k : ℕ) (o : Option ChannelId) (y : ChannelId) → slice_get cs k ≡ o → channel_or cs k o ≡ Ok y → Contains cs y
of_list cs k None y at is = never_ok _ y is
of_list cs k (Some z) y at is =
    let there : slice_get cs k ≡ Some y = at ∙ ap Some (same_ok z y is) in
    (k, slice_get_within cs k y there, get_or_from_slice_get cs k y y there)

of_port : (o : Option PortPart) (k : ℕ) (y : ChannelId) → port_channel o k ≡ Ok y → Contains (channels_of_port o) y
of_port None k y is = never_ok _ y is
of_port (Some q) k y is = of_list q.channels k (slice_get q.channels k) y refl is

module _ (Has : Use → Type 0) (unfit : Has used.Unfit → ⊥) (watches : Has used.Watches → ⊥) (p : ℕ) (c : Config) (ps : Processes) (es : List Pending) (ch : Channels) (st : Store) (qu : Quantum) (sc : List Command) (tr : Trace) where
  abbrev x : Config
  x = record c { processes = ps; events = es; channels = ch; store = st; quantum = qu; script = sc; trace = tr }

  under_name : (d : Denoted) (k : Option ℕ) (y : ChannelId) → channel_of c.design d k ≡ Ok y → Contains (channels_under c.design d) y
  under_name denoted.Nothing k y is = never_ok _ y is
  under_name (denoted.Channel z) k y is = subst (λ w. Contains (z ∷ []) w) (same_ok z y is) (contains-first z [])
  under_name (denoted.Event e) k y is = never_ok _ y is
  under_name (denoted.Keeper n) k y is = never_ok _ y is
  under_name (denoted.Memory m) k y is = never_ok _ y is
  under_name (denoted.Variable v) k y is = never_ok _ y is
  under_name (denoted.Port n) k y is = of_port (slice_get c.design.ports n) _ y is
  under_name (denoted.Process q) k y is = never_ok _ y is
  under_name (denoted.Socket hop forward) k y is = never_ok _ y is

  module _ (s : Sees Has p c x) (home : ℕ) (locals : List Value) where
    abbrev h : Here
    h = record { config = c; serial = p; home = home; locals = locals }

    abbrev k : Here
    k = record { config = x; serial = p; home = home; locals = locals }

    abbrev Owns : List Deed → Type 0
    Owns ds = (u : Use) → Contains (flat_map (uses_of_deed c.design home) ds) u → Has u

    abbrev left : (ds ts : List Deed) → Owns (ds ++ ts) → Owns ds
    left = reading.owns-left Has unfit watches p c ps es ch st qu sc tr s home locals

    abbrev right : (ds ts : List Deed) → Owns (ds ++ ts) → Owns ts
    right = reading.owns-right Has unfit watches p c ps es ch st qu sc tr s home locals

    abbrev first : (a : Deed) (ds : List Deed) → Owns (a ∷ ds) → (u : Use) → Contains (uses_of_deed c.design home a) u → Has u
    first = reading.owns-first Has unfit watches p c ps es ch st qu sc tr s home locals

    abbrev later : (a : Deed) (ds : List Deed) → Owns (a ∷ ds) → Owns ds
    later = reading.owns-later Has unfit watches p c ps es ch st qu sc tr s home locals

    abbrev value_same : (e : Term) → Owns (deeds_of_term e) → val k e ≡ val h e
    value_same = reading.val-same Has unfit watches p c ps es ch st qu sc tr s home locals

    abbrev written_same : (e : Option Term) → Owns (deeds_of_written e) → val_if k e ≡ val_if h e
    written_same = reading.val_if-same Has unfit watches p c ps es ch st qu sc tr s home locals

    abbrev place_same : (e : Option Term) → Owns (deeds_of_written e) → place_in k e ≡ place_in h e
    place_same = reading.place-same Has unfit watches p c ps es ch st qu sc tr s home locals

    abbrev never : {A : Type 0} (ds : List Deed) → Owns (deed.Unfit ∷ ds) → A
    never {A} ds = reading.never-unfit Has unfit watches p c ps es ch st qu sc tr s home locals {A = A} ds

    -- the channel that is written, or read, is one that one may write, or read
    in_flat_map : (f : ChannelId → List Use) (ys : List ChannelId) (y : ChannelId) (u : Use) → Contains ys y → Contains (f y) u → Contains (flat_map f ys) u
    in_flat_map f [] y u there of_it = absurd (let below = there.1 in omega (arith, below))
    in_flat_map f (z ∷ zs) y u there of_it = stands there.0 there.1 there.2 (λ later_on. in_flat_map f zs y u later_on of_it)
      where
        stands : (i : ℕ) → i < length (z ∷ zs) → get_or (z ∷ zs) i y ≡ y → (Contains zs y → Contains (flat_map f zs) u) → Contains (flat_map f (z ∷ zs)) u
        stands zero below is more = Contains-append_left (f z) (flat_map f zs) u (subst (λ w. Contains (f w) u) (sym is) of_it)
        stands (suc i) below is more = Contains-append_right (f z) (flat_map f zs) u (more (i, omega (arith, below), is))

    may_write : (n : ℕ) (place : Option ℕ) (y : ChannelId) → ((u : Use) → Contains (uses_of_deed c.design home (deed.Writes n)) u → Has u) → channel_here h n place ≡ Ok y → (u : Use) → Contains (written_to y) u → Has u
    may_write n place y mine is u there = mine u (in_flat_map written_to (channels_under c.design (denoted_at c.design home n)) y u (under_name (denoted_at c.design home n) place y is) there)

    may_read : (n : ℕ) (place : Option ℕ) (y : ChannelId) → ((u : Use) → Contains (uses_of_deed c.design home (deed.Reads n)) u → Has u) → channel_here h n place ≡ Ok y → (u : Use) → Contains (read_from y) u → Has u
    may_read n place y mine is u there = mine u (in_flat_map read_from (channels_under c.design (denoted_at c.design home n)) y u (under_name (denoted_at c.design home n) place y is) there)

    module _ (b z : Config) (r t : Residual) (same : strip t ≡ strip r) (start : Along Has p b z c x) where
      abbrev R : Config → Config → Type 0
      R = Along Has p b z

      passed : R (passes c p r) (passes x p t)
      passed = passes-along Has p b z c x start r t same

      placed : (new old : Residual) → strip old ≡ strip new → R (with_residual c p (put r new)) (with_residual x p (put t old))
      placed new old alike =
          residual-along Has p b z c x start (put r new) (put t old)
          (strip-put t old ∙ ap (λ q. put q (strip old)) same ∙ ap (put (strip r)) alike ∙ sym (strip-put r new))

      blocked : (e : Ev) → R (blocks c p r e) (blocks x p t e)
      blocked e = waits-along Has p b z (with_residual c p r) (with_residual x p t) (residual-along Has p b z c x start r t same) (waits_for_any (e ∷ [])) no_deadline

      var-form : (n : ℕ) (ty : ValueType) (e : Option Term) → Owns (deeds_of_written e) → Both R (do_var c p r h n ty e) (do_var x p t k n ty e)
      var-form n ty e mine = both-ok R (val_if h e) (val_if k e) _ _ (written_same e mine) (λ v. local-along Has p b z (passes c p r) (passes x p t) passed n (first_value ty v))

      -- ---- writes

      fifo_written : (n : ℕ) (y : ChannelId) (v : Value) (o q : Option Queued) → Has (used.WritesFifo n) → slice_get c.channels.fifos n ≡ o → slice_get ch.fifos n ≡ q → option_map free q ≡ option_map free o
          → R (write_fifo c p r n y v o) (write_fifo x p t n y v q)
      fifo_written n y v None None has here there alike = passed
      fifo_written n y v None (Some q) has here there alike = absurd (none-some (free q) (sym alike))
      fifo_written n y v (Some o) None has here there alike = absurd (none-some (free o) alike)
      fifo_written n y v (Some o) (Some q) has here there alike =
          both-if R (free o == 0) (free q == 0) _ _ _ _ (ap (λ m. m == 0) (same_Some (free q) (free o) alike)) (λ full. blocked (channel_event event.DataRead y))
          (λ room. given-along Has p b z (passes c p r) (passes x p t) passed n v o q has here there)

      channel_written : (v : Value) (y : ChannelId) → ((u : Use) → Contains (written_to y) u → Has u) → Both R (write_channel c p r v y) (write_channel x p t v y)
      channel_written v (channel.Signal n events) mine =
          let has : Has (used.WritesSignal n) = mine (used.WritesSignal n) (contains-first (used.WritesSignal n) []) in
          write-along Has p b z (passes c p r) (passes x p t) passed n v (slice_get c.channels.signals n) (slice_get ch.signals n) has refl refl (s.written n has)
      channel_written v (channel.Resolved n events) mine = acting (passes c p r) (passes x p t) (act.drives n v) tt passed
      channel_written v (channel.Fifo n events) mine =
          let has : Has (used.WritesFifo n) = mine (used.WritesFifo n) (contains-first (used.WritesFifo n) []) in
          fifo_written n (channel.Fifo n events) v (slice_get c.channels.fifos n) (slice_get ch.fifos n) has refl refl (s.room n has)
      channel_written v (channel.Mutex n events) mine = passed
      channel_written v (channel.Semaphore n events) mine = passed

      write-form : (to : ChannelTerm) (ty : ValueType) (e : Term) → Owns (deeds_of_write to ++ deeds_of_term e) → Both R (do_write c p r h to ty e) (do_write x p t k to ty e)
      write-form to ty e mine =
          let place = left (deeds_of_write to) (deeds_of_term e) mine in
          both-ok R (place_in h to.place) (place_in k to.place) _ _ (place_same to.place (later (deed.Writes to.channel_name) (deeds_of_written to.place) place)) (λ i.
          both-ok R (val h e) (val k e) _ _ (value_same e (right (deeds_of_write to) (deeds_of_term e) mine)) (λ v.
          both_by R (channel_in h to i) (channel_in k to i) _ _ refl (λ y is.
          channel_written (cut_to ty v) y (may_write to.channel_name i y (first (deed.Writes to.channel_name) (deeds_of_written to.place) place) is))))

      -- ---- notifications, guards

      delta_notified : (d : Denoted) → ((u : Use) → Contains (events_under (λ e. used.Notifies e) d) u → Has u)
          → R (on_event (passes c p r) (event_number d) (λ e. notify (passes c p r) e when.Delta)) (on_event (passes x p t) (event_number d) (λ e. notify (passes x p t) e when.Delta))
      delta_notified denoted.Nothing mine = passed
      delta_notified (denoted.Channel y) mine = passed
      delta_notified (denoted.Event e) mine = notify-along Has p b z (passes c p r) (passes x p t) passed e when.Delta (mine (used.Notifies e) (contains-first (used.Notifies e) [])) tt
      delta_notified (denoted.Keeper n) mine = passed
      delta_notified (denoted.Memory m) mine = passed
      delta_notified (denoted.Variable v) mine = passed
      delta_notified (denoted.Port n) mine = passed
      delta_notified (denoted.Process q) mine = passed
      delta_notified (denoted.Socket hop forward) mine = passed

      notify_delta-form : (n : ℕ) → Owns (deed.Notifies n ∷ []) → Both R (do_notify_delta c p r h n) (do_notify_delta x p t k n)
      notify_delta-form n mine = delta_notified (denoted_at c.design home n) (first (deed.Notifies n) [] mine)

      guard-form : (j u : ℕ) → Both R (do_guard c p r j u) (do_guard x p t j u)
      guard-form j u =
          numbering (with_marks (with_residual c p (put r (guard (block (arena c) j) c.trace.next_guard u))) (enter p c.trace.next_guard ∷ [])) (with_marks (with_residual x p (put t (guard (block (arena c) j) tr.next_guard u))) (enter p tr.next_guard ∷ []))
          (c.trace.next_guard + 1) (tr.next_guard + 1)
          (marking (with_residual c p (put r (guard (block (arena c) j) c.trace.next_guard u))) (with_residual x p (put t (guard (block (arena c) j) tr.next_guard u))) (enter p c.trace.next_guard ∷ []) (enter p tr.next_guard ∷ [])
          (placed (guard (block (arena c) j) c.trace.next_guard u) (guard (block (arena c) j) tr.next_guard u) refl))

      -- ---- where values go

      denoted_set : (e y : Config) → R e y → (d : Denoted) (v : Value) → ((u : Use) → Contains (kept_under d) u → Has u) → R (set_denoted e d v) (set_denoted y d v)
      denoted_set e y a denoted.Nothing v mine = a
      denoted_set e y a (denoted.Channel w) v mine = a
      denoted_set e y a (denoted.Event w) v mine = a
      denoted_set e y a (denoted.Keeper w) v mine = a
      denoted_set e y a (denoted.Memory w) v mine = a
      denoted_set e y a (denoted.Variable w) v mine = acting e y (act.stores w v) (mine (used.Variable w) (contains-first (used.Variable w) [])) a
      denoted_set e y a (denoted.Port w) v mine = a
      denoted_set e y a (denoted.Process w) v mine = a
      denoted_set e y a (denoted.Socket hop forward) v mine = a

      named : (e y : Config) → R e y → (n : NameUse) (v : Value) → Owns (deeds_of_name n) → R (set_name e p h n v) (set_name y p k n v)
      named e y a (name_use.Local i) v mine = local-along Has p b z e y a i v
      named e y a (name_use.Declared n) v mine = denoted_set e y a (denoted_at c.design home n) v (first (deed.Keeps n) [] mine)

      stored_along : (e y : Config) → R e y → (to : Option Target) (v : Value) → Owns (deeds_of_store to) → R (stored_if e p h to v) (stored_if y p k to v)
      stored_along e y a None v mine = a
      stored_along e y a (Some to) v mine = named e y a to.name (cut_to to.value_type v) mine

      memory_set : (e y : Config) → R e y → (d : Denoted) → ((u : Use) → Contains (kept_under d) u → Has u) → (old new : List ℕ) → new ≡ old → R (set_memory e (memory_number d) old) (set_memory y (memory_number d) new)
      memory_set e y a denoted.Nothing mine old new alike = a
      memory_set e y a (denoted.Channel w) mine old new alike = a
      memory_set e y a (denoted.Event w) mine old new alike = a
      memory_set e y a (denoted.Keeper w) mine old new alike = a
      memory_set e y a (denoted.Memory w) mine old new alike =
          subst (λ bytes. R (set_memory e (Some w) old) (set_memory y (Some w) bytes)) (sym alike) (acting e y (act.fills w old) (mine (used.Memory w) (contains-first (used.Memory w) [])) a)
      memory_set e y a (denoted.Variable w) mine old new alike = a
      memory_set e y a (denoted.Port w) mine old new alike = a
      memory_set e y a (denoted.Process w) mine old new alike = a
      memory_set e y a (denoted.Socket hop forward) mine old new alike = a

      assign-form : (to : DestinationTerm) (e : Term) → Owns (deeds_of_destination to ++ deeds_of_term e) → Both R (do_assign c p r h to e) (do_assign x p t k to e)
      assign-form (code.to_name to) e mine =
          both-ok R (val h e) (val k e) _ _ (value_same e (right (deeds_of_name to.name) (deeds_of_term e) mine)) (λ v.
          named (passes c p r) (passes x p t) passed to.name (cut_to to.value_type v) (left (deeds_of_name to.name) (deeds_of_term e) mine))
      assign-form (code.to_field n f) e mine = never (deeds_of_term e) mine
      assign-form (code.to_element n i) e mine =
          let of_it = left (deed.Keeps n ∷ deeds_of_term i) (deeds_of_term e) mine in
          let bytes = reading.memories-same Has unfit watches p c ps es ch st qu sc tr s home locals (denoted_at c.design home n) (first (deed.Keeps n) (deeds_of_term i) of_it) in
          both-ok R (val h i) (val k i) _ _ (value_same i (later (deed.Keeps n) (deeds_of_term i) of_it)) (λ w.
          both-ok R (val h e) (val k e) _ _ (value_same e (right (deed.Keeps n ∷ deeds_of_term i) (deeds_of_term e) mine)) (λ v.
          both-ok R (index_within (bits w) (length (memory_here h n))) (index_within (bits w) (length (memory_here k n))) _ _ (ap (λ (xs : List ℕ). index_within (bits w) (length xs)) bytes) (λ j.
          memory_set (passes c p r) (passes x p t) passed (denoted_at c.design home n) (first (deed.Keeps n) (deeds_of_term i) of_it) _ _ (ap (λ (xs : List ℕ). slice_set xs j (low_byte v)) bytes))))
      assign-form (code.to_payload_byte n w i) e mine = never (deeds_of_term i ++ deeds_of_term e) mine

      print-form : (i j : Instance) (text : List ℕ) (e : Option Term) → Owns (deeds_of_written e) → Both R (do_print c p i r h text e) (do_print x p j t k text e)
      print-form i j text e mine = both-ok R (val_if h e) (val_if k e) _ _ (written_same e mine) (λ v. telling (passes c p r) (passes x p t) _ _ passed)

      -- ---- choices, loops, tries and returns

      if-form : (e : Term) (j : ℕ) (other : Option ℕ) → Owns (deeds_of_term e) → Both R (do_if c p r h e j other) (do_if x p t k e j other)
      if-form e j other mine = both-ok R (val h e) (val k e) _ _ (value_same e mine) (λ v. placed (chosen c (truth v) j other) (chosen x (truth v) j other) refl)

      while-form : (n : ℕ) (e : Term) (j : ℕ) → Owns (deeds_of_term e) → Both R (do_while c p r h n e j) (do_while x p t k n e j)
      while-form n e j mine = both-ok R (val h e) (val k e) _ _ (value_same e mine) (λ v. placed (looped c (truth v) n j) (looped x (truth v) n j) refl)

      try-form : (j : ℕ) (handlers : List Handler) → Both R (do_try c p r j handlers) (do_try x p t j handlers)
      try-form j handlers = placed (try_ (block (arena c) j) handlers) (try_ (block (arena c) j) handlers) refl

      inner : innermost t ≡ innermost r
      inner = sym (strip-innermost t) ∙ ap innermost same ∙ strip-innermost r

      return-form : (e : Option Term) → Owns (deeds_of_written e) → Both R (do_return c p r h e) (do_return x p t k e)
      return-form e mine =
          both-ok R (val_if h e) (val_if k e) _ _ (written_same e mine) (λ v.
          let old = cut_answer (answer_type (arena c) (innermost r)) v in
          let new = cut_answer (answer_type (arena c) (innermost t)) v in
          marking (with_residual c p (returned old r)) (with_residual x p (returned new t)) (return_marks p r) (return_marks p t)
          (residual-along Has p b z c x start (returned old r) (returned new t)
          (strip-returned new t ∙ ap (returned new) same ∙ ap (λ o. returned (cut_answer (answer_type (arena c) o) v) (strip r)) inner ∙ sym (strip-returned old r))))

      -- ---- notifications and cancels

      event_along : (d : Denoted) (how : ℕ → Use) (f g : ℕ → Config) → ((u : Use) → Contains (events_under how d) u → Has u) → ((n : ℕ) → Has (how n) → R (f n) (g n))
          → R (on_event (passes c p r) (event_number d) f) (on_event (passes x p t) (event_number d) g)
      event_along denoted.Nothing how f g mine does = passed
      event_along (denoted.Channel w) how f g mine does = passed
      event_along (denoted.Event w) how f g mine does = does w (mine (how w) (contains-first (how w) []))
      event_along (denoted.Keeper w) how f g mine does = passed
      event_along (denoted.Memory w) how f g mine does = passed
      event_along (denoted.Variable w) how f g mine does = passed
      event_along (denoted.Port w) how f g mine does = passed
      event_along (denoted.Process w) how f g mine does = passed
      event_along (denoted.Socket hop forward) how f g mine does = passed

      notify_after-form : (n : ℕ) (e : Term) → Owns (deed.Notifies n ∷ deeds_of_term e) → Both R (do_notify_after c p r h n e) (do_notify_after x p t k n e)
      notify_after-form n e mine =
          both-ok R (val h e) (val k e) _ _ (value_same e (later (deed.Notifies n) (deeds_of_term e) mine)) (λ v.
          both_by R (when_after c.cycle.now (moment v)) (when_after c.cycle.now (moment v)) _ _ refl (λ w is.
          event_along (denoted_at c.design home n) (λ y. used.Notifies y) _ _ (first (deed.Notifies n) (deeds_of_term e) mine) (λ y has.
          notify-along Has p b z (passes c p r) (passes x p t) passed y w has (later_of (moment v == 0) (time_within (c.cycle.now + moment v)) w is))))

      cancel-form : (n : ℕ) → Owns (deed.Cancels n ∷ []) → Both R (do_cancel c p r h n) (do_cancel x p t k n)
      cancel-form n mine =
          event_along (denoted_at c.design home n) (λ y. used.Cancels y) (cancelled (passes c p r)) (cancelled (passes x p t)) (first (deed.Cancels n) [] mine) (λ y has. acting (passes c p r) (passes x p t) (act.cancels y) has passed)

      -- ---- reads

      value_read : (to : Option Target) (n events : ℕ) (o q : Queued) (v : Option Value) → Owns (deeds_of_store to) → Has (used.ReadsFifo n) → slice_get c.channels.fifos n ≡ Some o → slice_get ch.fifos n ≡ Some q
          → R (read_value c p r h to (channel.Fifo n events) o v) (read_value x p t k to (channel.Fifo n events) q v)
      value_read to n events o q None mine has here there = blocked (channel_event event.DataWritten (channel.Fifo n events))
      value_read to n events o q (Some v) mine has here there = stored_along _ _ (taken-along Has p b z (passes c p r) (passes x p t) passed n o q has here there) to v mine

      readable_same : (o q : Queued) → in_reach q ≡ in_reach o → readable q ≡ readable o
      readable_same o q alike = readable-shown q ∙ ap (λ (vs : List Value). slice_get vs 0) alike ∙ sym (readable-shown o)

      fifo_read : (to : Option Target) (n events : ℕ) (o q : Option Queued) → Owns (deeds_of_store to) → Has (used.ReadsFifo n) → slice_get c.channels.fifos n ≡ o → slice_get ch.fifos n ≡ q → option_map in_reach q ≡ option_map in_reach o
          → R (read_fifo c p r h to (channel.Fifo n events) o) (read_fifo x p t k to (channel.Fifo n events) q)
      fifo_read to n events None None mine has here there alike = passed
      fifo_read to n events None (Some q) mine has here there alike = absurd (none-some (in_reach q) (sym alike))
      fifo_read to n events (Some o) None mine has here there alike = absurd (none-some (in_reach o) alike)
      fifo_read to n events (Some o) (Some q) mine has here there alike =
          subst (λ v. R (read_value c p r h to (channel.Fifo n events) o (readable o)) (read_value x p t k to (channel.Fifo n events) q v)) (sym (readable_same o q (same_Some (in_reach q) (in_reach o) alike)))
          (value_read to n events o q (readable o) mine has here there)

      channel_read : (to : Option Target) (y : ChannelId) → Owns (deeds_of_store to) → ((u : Use) → Contains (read_from y) u → Has u) → R (read_fifo c p r h to y (fifo_here c y)) (read_fifo x p t k to y (fifo_here x y))
      channel_read to (channel.Signal n events) mine may = passed
      channel_read to (channel.Resolved n events) mine may = passed
      channel_read to (channel.Fifo n events) mine may =
          let has : Has (used.ReadsFifo n) = may (used.ReadsFifo n) (contains-first (used.ReadsFifo n) []) in
          fifo_read to n events (slice_get c.channels.fifos n) (slice_get ch.fifos n) mine has refl refl (s.readable n has)
      channel_read to (channel.Mutex n events) mine may = passed
      channel_read to (channel.Semaphore n events) mine may = passed

      read-form : (to : Option Target) (from : ChannelTerm) → Owns (deeds_of_read from ++ deeds_of_store to) → Both R (do_read c p r h to from) (do_read x p t k to from)
      read-form to from mine =
          let place = left (deeds_of_read from) (deeds_of_store to) mine in
          both-ok R (place_in h from.place) (place_in k from.place) _ _ (place_same from.place (later (deed.Reads from.channel_name) (deeds_of_written from.place) place)) (λ i.
          both_by R (channel_in h from i) (channel_in k from i) _ _ refl (λ y is.
          channel_read to y (right (deeds_of_read from) (deeds_of_store to) mine) (may_read from.channel_name i y (first (deed.Reads from.channel_name) (deeds_of_written from.place) place) is)))

      -- ---- reads and writes that do not block

      value_tried : (to : Option Target) (into : Target) (n events : ℕ) (o q : Queued) (v : Option Value) → Owns (deeds_of_store to) → Owns (deeds_of_name into.name) → Has (used.ReadsFifo n) → slice_get c.channels.fifos n ≡ Some o → slice_get ch.fifos n ≡ Some q
          → R (nb_read_value c p r h to into (channel.Fifo n events) o v) (nb_read_value x p t k to into (channel.Fifo n events) q v)
      value_tried to into n events o q None mine too has here there = stored_along (passes c p r) (passes x p t) passed to (value.Bool false) mine
      value_tried to into n events o q (Some v) mine too has here there =
          named _ _ (stored_along _ _ (taken-along Has p b z (passes c p r) (passes x p t) passed n o q has here there) to (value.Bool true) mine) into.name (cut_to into.value_type v) too

      fifo_tried : (to : Option Target) (into : Target) (n events : ℕ) (o q : Option Queued) → Owns (deeds_of_store to) → Owns (deeds_of_name into.name) → Has (used.ReadsFifo n) → slice_get c.channels.fifos n ≡ o → slice_get ch.fifos n ≡ q → option_map in_reach q ≡ option_map in_reach o
          → R (nb_read_fifo c p r h to into (channel.Fifo n events) o) (nb_read_fifo x p t k to into (channel.Fifo n events) q)
      fifo_tried to into n events None None mine too has here there alike = passed
      fifo_tried to into n events None (Some q) mine too has here there alike = absurd (none-some (in_reach q) (sym alike))
      fifo_tried to into n events (Some o) None mine too has here there alike = absurd (none-some (in_reach o) alike)
      fifo_tried to into n events (Some o) (Some q) mine too has here there alike =
          subst (λ v. R (nb_read_value c p r h to into (channel.Fifo n events) o (readable o)) (nb_read_value x p t k to into (channel.Fifo n events) q v)) (sym (readable_same o q (same_Some (in_reach q) (in_reach o) alike)))
          (value_tried to into n events o q (readable o) mine too has here there)

      channel_tried : (to : Option Target) (into : Target) (y : ChannelId) → Owns (deeds_of_store to) → Owns (deeds_of_name into.name) → ((u : Use) → Contains (read_from y) u → Has u) → R (nb_read_fifo c p r h to into y (fifo_here c y)) (nb_read_fifo x p t k to into y (fifo_here x y))
      channel_tried to into (channel.Signal n events) mine too may = passed
      channel_tried to into (channel.Resolved n events) mine too may = passed
      channel_tried to into (channel.Fifo n events) mine too may =
          let has : Has (used.ReadsFifo n) = may (used.ReadsFifo n) (contains-first (used.ReadsFifo n) []) in
          fifo_tried to into n events (slice_get c.channels.fifos n) (slice_get ch.fifos n) mine too has refl refl (s.readable n has)
      channel_tried to into (channel.Mutex n events) mine too may = passed
      channel_tried to into (channel.Semaphore n events) mine too may = passed

      nb_read-form : (to : Option Target) (from : ChannelTerm) (into : Target) → Owns ((deeds_of_read from ++ deeds_of_store to) ++ deeds_of_name into.name) → Both R (do_nb_read c p r h to from into) (do_nb_read x p t k to from into)
      nb_read-form to from into mine =
          let both = left (deeds_of_read from ++ deeds_of_store to) (deeds_of_name into.name) mine in
          let place = left (deeds_of_read from) (deeds_of_store to) both in
          both-ok R (place_in h from.place) (place_in k from.place) _ _ (place_same from.place (later (deed.Reads from.channel_name) (deeds_of_written from.place) place)) (λ i.
          both_by R (channel_in h from i) (channel_in k from i) _ _ refl (λ y is.
          channel_tried to into y (right (deeds_of_read from) (deeds_of_store to) both) (right (deeds_of_read from ++ deeds_of_store to) (deeds_of_name into.name) mine)
          (may_read from.channel_name i y (first (deed.Reads from.channel_name) (deeds_of_written from.place) place) is)))

      fifo_offered : (to : Option Target) (n events : ℕ) (v : Value) (o q : Option Queued) → Owns (deeds_of_store to) → Has (used.WritesFifo n) → slice_get c.channels.fifos n ≡ o → slice_get ch.fifos n ≡ q → option_map free q ≡ option_map free o
          → R (nb_write_fifo c p r h to (channel.Fifo n events) v o) (nb_write_fifo x p t k to (channel.Fifo n events) v q)
      fifo_offered to n events v None None mine has here there alike = passed
      fifo_offered to n events v None (Some q) mine has here there alike = absurd (none-some (free q) (sym alike))
      fifo_offered to n events v (Some o) None mine has here there alike = absurd (none-some (free o) alike)
      fifo_offered to n events v (Some o) (Some q) mine has here there alike =
          both-if R (free o == 0) (free q == 0) _ _ _ _ (ap (λ m. m == 0) (same_Some (free q) (free o) alike)) (λ full. stored_along (passes c p r) (passes x p t) passed to (value.Bool false) mine)
          (λ room. stored_along _ _ (given-along Has p b z (passes c p r) (passes x p t) passed n v o q has here there) to (value.Bool true) mine)

      channel_offered : (to : Option Target) (v : Value) (y : ChannelId) → Owns (deeds_of_store to) → ((u : Use) → Contains (written_to y) u → Has u) → R (nb_write_fifo c p r h to y v (fifo_here c y)) (nb_write_fifo x p t k to y v (fifo_here x y))
      channel_offered to v (channel.Signal n events) mine may = passed
      channel_offered to v (channel.Resolved n events) mine may = passed
      channel_offered to v (channel.Fifo n events) mine may =
          let has : Has (used.WritesFifo n) = may (used.WritesFifo n) (contains-first (used.WritesFifo n) []) in
          fifo_offered to n events v (slice_get c.channels.fifos n) (slice_get ch.fifos n) mine has refl refl (s.room n has)
      channel_offered to v (channel.Mutex n events) mine may = passed
      channel_offered to v (channel.Semaphore n events) mine may = passed

      nb_write-form : (to : Option Target) (into : ChannelTerm) (ty : ValueType) (e : Term) → Owns ((deeds_of_write into ++ deeds_of_term e) ++ deeds_of_store to) → Both R (do_nb_write c p r h to into ty e) (do_nb_write x p t k to into ty e)
      nb_write-form to into ty e mine =
          let both = left (deeds_of_write into ++ deeds_of_term e) (deeds_of_store to) mine in
          let place = left (deeds_of_write into) (deeds_of_term e) both in
          both-ok R (place_in h into.place) (place_in k into.place) _ _ (place_same into.place (later (deed.Writes into.channel_name) (deeds_of_written into.place) place)) (λ i.
          both-ok R (val h e) (val k e) _ _ (value_same e (right (deeds_of_write into) (deeds_of_term e) both)) (λ v.
          both_by R (channel_in h into i) (channel_in k into i) _ _ refl (λ y is.
          channel_offered to (cut_to ty v) y (right (deeds_of_write into ++ deeds_of_term e) (deeds_of_store to) mine) (may_write into.channel_name i y (first (deed.Writes into.channel_name) (deeds_of_written into.place) place) is))))

      -- ---- keepers

      module _ (has : Has used.Quantum) where
        keeper_set : (n : Option ℕ) (w : Keeper) → R (with_keeper (passes c p r) n w) (with_keeper (passes x p t) n w)
        keeper_set None w = passed
        keeper_set (Some n) w = acting (passes c p r) (passes x p t) (act.keeps n w) has passed

        keeper_kept : (n : Option ℕ) (o q : Option Keeper) → q ≡ o → Both R (kept (passes c p r) n o) (kept (passes x p t) n q)
        keeper_kept n o q alike = subst (λ w. Both R (kept (passes c p r) n o) (kept (passes x p t) n w)) (sym alike) (of_one o)
          where
            of_one : (o : Option Keeper) → Both R (kept (passes c p r) n o) (kept (passes x p t) n o)
            of_one None = refl
            of_one (Some w) = keeper_set n w

        keeper_same : (n : Option ℕ) → keeper_at x n ≡ keeper_at c n
        keeper_same None = refl
        keeper_same (Some n) = ap (λ (q : Quantum). slice_get q.keepers n) (s.quantum has)

        keeper_along : (o q : Option Keeper) (f g : Keeper → Result Config RunFault) → q ≡ o → ((w : Keeper) → Both R (f w) (g w)) → Both R (on_keeper (passes c p r) o f) (on_keeper (passes x p t) q g)
        keeper_along o q f g alike does = subst (λ w. Both R (on_keeper (passes c p r) o f) (on_keeper (passes x p t) w g)) (sym alike) (of_one o)
          where
            of_one : (o : Option Keeper) → Both R (on_keeper (passes c p r) o f) (on_keeper (passes x p t) o g)
            of_one None = passed
            of_one (Some w) = does w

      quantum_of : (ds : List Deed) → Owns (deed.Quantum ∷ ds) → Has used.Quantum
      quantum_of ds mine = first deed.Quantum ds mine used.Quantum (contains-first used.Quantum [])

      qk_global-form : (e : Term) → Owns (deed.Quantum ∷ deeds_of_term e) → Both R (do_qk_global c p r h e) (do_qk_global x p t k e)
      qk_global-form e mine =
          both-ok R (val h e) (val k e) _ _ (value_same e (later deed.Quantum (deeds_of_term e) mine)) (λ v. acting (passes c p r) (passes x p t) (act.sets_global (moment v)) (quantum_of (deeds_of_term e) mine) passed)

      qk_inc-form : (n : ℕ) (e : Term) → Owns (deed.Quantum ∷ deeds_of_term e) → Both R (do_qk_inc c p r h n e) (do_qk_inc x p t k n e)
      qk_inc-form n e mine =
          let has = quantum_of (deeds_of_term e) mine in
          both-ok R (val h e) (val k e) _ _ (value_same e (later deed.Quantum (deeds_of_term e) mine)) (λ v.
          keeper_along has (keeper_at c (keeper_named h n)) (keeper_at x (keeper_named k n)) _ _ (keeper_same has (keeper_named h n)) (λ w. keeper_kept has (keeper_named h n) (after_inc w (moment v)) (after_inc w (moment v)) refl))

      qk_set-form : (n : ℕ) (e : Term) → Owns (deed.Quantum ∷ deeds_of_term e) → Both R (do_qk_set c p r h n e) (do_qk_set x p t k n e)
      qk_set-form n e mine =
          let has = quantum_of (deeds_of_term e) mine in
          both-ok R (val h e) (val k e) _ _ (value_same e (later deed.Quantum (deeds_of_term e) mine)) (λ v.
          keeper_along has (keeper_at c (keeper_named h n)) (keeper_at x (keeper_named k n)) _ _ (keeper_same has (keeper_named h n)) (λ w. keeper_set has (keeper_named h n) (with_local w (moment v))))

      qk_reset-form : (n : ℕ) → Owns (deed.Quantum ∷ []) → Both R (do_qk_reset c p r h n) (do_qk_reset x p t k n)
      qk_reset-form n mine =
          let has = quantum_of [] mine in
          keeper_along has (keeper_at c (keeper_named h n)) (keeper_at x (keeper_named k n)) _ _ (keeper_same has (keeper_named h n)) (λ w.
          keeper_kept has (keeper_named h n) (after_reset c.quantum.global c.cycle.now) (after_reset qu.global c.cycle.now) (ap (λ (q : Quantum). after_reset q.global c.cycle.now) (s.quantum has)))

      -- ---- waits, calls and exceptions

      wait-form : (w : AwaitTerm) → Owns (deeds_of_await w) → Both R (do_wait c p r h w) (do_wait x p t k w)
      wait-form w mine = both-ok R (awaited h w) (awaited k w) _ _ (awaited-same Has unfit watches p c ps es ch st qu sc tr s home locals w mine) (λ a. waits-along Has p b z (passes c p r) (passes x p t) passed a.wait a.deadline)

      trigger-form : (w : AwaitTerm) → Owns (deeds_of_await w) → Both R (do_next_trigger c p r h w) (do_next_trigger x p t k w)
      trigger-form w mine =
          both-ok R (awaited h w) (awaited k w) _ _ (awaited-same Has unfit watches p c ps es ch st qu sc tr s home locals w mine) (λ a.
          own (passes c p r) (passes x p t) _ _ (same-change (λ (i : Instance). record i { trigger = Some a }) (λ i. refl)) passed)

      as_deep : open_frames t ≡ open_frames r
      as_deep = sym (strip-open_frames t) ∙ ap open_frames same ∙ strip-open_frames r

      call-form : (n f : ℕ) (to : Option Target) (arguments : List ArgumentTerm) → Owns (flat_map deeds_of_argument arguments ++ deeds_of_store to) → Both R (do_call c p r h n f arguments) (do_call x p t k n f arguments)
      call-form n f to arguments mine =
          both-ok R (argument_values h (locals_in (body_at (arena c) f)) 0 arguments) (argument_values k (locals_in (body_at (arena c) f)) 0 arguments) _ _
          (arguments-same Has unfit watches p c ps es ch st qu sc tr s home locals (locals_in (body_at (arena c) f)) 0 arguments (left (flat_map deeds_of_argument arguments) (deeds_of_store to) mine)) (λ vs.
          both-ok R (may_enter r) (may_enter t) _ _ (ap (λ m. cond (nat_lt m frame_limit) (Ok tt) (Err fault.FrameDepth)) as_deep) (λ ok.
          placed (entered (arena c) f vs (Some n) None) (entered (arena c) f vs (Some n) None) refl))

      module _ (e : ℕ) (none : left_by_raise r e ≡ []) where
        none_too : left_by_raise t e ≡ []
        none_too = sym (strip-left_by_raise t e) ∙ ap (λ q. left_by_raise q e) same ∙ strip-left_by_raise r e ∙ none

        raised : R (with_left (with_residual c p (raise (arena c) r e goal_of.Thrown)) (left_by_raise r e)) (with_left (with_residual x p (raise (arena c) t e goal_of.Thrown)) (left_by_raise t e))
        raised =
            subst (λ vs. R (with_left (with_residual c p (raise (arena c) r e goal_of.Thrown)) vs) (with_left (with_residual x p (raise (arena c) t e goal_of.Thrown)) (left_by_raise t e))) (sym none)
            (subst (λ vs. R (with_residual c p (raise (arena c) r e goal_of.Thrown)) (with_left (with_residual x p (raise (arena c) t e goal_of.Thrown)) vs)) (sym none_too)
            (residual-along Has p b z c x start (raise (arena c) r e goal_of.Thrown) (raise (arena c) t e goal_of.Thrown)
            (strip-raise (arena c) t e goal_of.Thrown ∙ ap (λ q. raise (arena c) q e goal_of.Thrown) same ∙ sym (strip-raise (arena c) r e goal_of.Thrown))))

        raised_if : (m : Bool) → Both R (cond m (Ok (with_left (with_residual c p (raise (arena c) r e goal_of.Thrown)) (left_by_raise r e))) (Err (fault.Uncaught e))) (cond m (Ok (with_left (with_residual x p (raise (arena c) t e goal_of.Thrown)) (left_by_raise t e))) (Err (fault.Uncaught e)))
        raised_if true = raised
        raised_if false = refl

        throw-form : Both R (thrown c p r e) (thrown x p t e)
        throw-form =
            subst (λ m. Both R (thrown c p r e) (cond m (Ok (with_left (with_residual x p (raise (arena c) t e goal_of.Thrown)) (left_by_raise t e))) (Err (fault.Uncaught e))))
            (sym (sym (strip-catches t e) ∙ ap (λ q. catches q e) same ∙ strip-catches r e)) (raised_if (catches r e))

      -- ---- a statement, by its form: those that act at once on others, or on what is shared by nature, are none of these

      pub form-along : (none : (e : ℕ) → left_by_raise r e ≡ []) (i j : Instance) (n : ℕ) (w : Statement) → Owns (deeds_of w) → Both R (do_statement c p i r h n w) (do_statement x p j t k n w)
      form-along none i j n (code.var m ty e) mine = var-form m ty e mine
      form-along none i j n (code.assign to e) mine = assign-form to e mine
      form-along none i j n (code.call to f arguments) mine = call-form n f to arguments mine
      form-along none i j n (code.read to from) mine = read-form to from mine
      form-along none i j n (code.nb_read to from into) mine = nb_read-form to from into mine
      form-along none i j n (code.nb_write to into ty e) mine = nb_write-form to into ty e mine
      form-along none i j n (code.trylock to m) mine = never [] mine
      form-along none i j n (code.unlock to m) mine = never [] mine
      form-along none i j n (code.sem_trywait to m) mine = never [] mine
      form-along none i j n (code.nb_transport to socket m phase d) mine = never [] mine
      form-along none i j n (code.write into ty e) mine = write-form into ty e mine
      form-along none i j n (code.print text e) mine = print-form i j text e mine
      form-along none i j n (code.notify m) mine = never [] mine
      form-along none i j n (code.notify_delta m) mine = notify_delta-form m mine
      form-along none i j n (code.notify_after m e) mine = notify_after-form m e mine
      form-along none i j n (code.cancel m) mine = cancel-form m mine
      form-along none i j n (code.wait a) mine = wait-form a mine
      form-along none i j n (code.next_trigger a) mine = trigger-form a mine
      form-along none i j n (code.lock m) mine = never [] mine
      form-along none i j n (code.sem_wait m) mine = never [] mine
      form-along none i j n (code.post m) mine = never [] mine
      form-along none i j n (code.make m e a) mine = never [] mine
      form-along none i j n (code.acquire m) mine = never [] mine
      form-along none i j n (code.release m) mine = never [] mine
      form-along none i j n (code.carry m a) mine = never [] mine
      form-along none i j n (code.b_transport socket m d) mine = never [] mine
      form-along none i j n (code.qk_global e) mine = qk_global-form e mine
      form-along none i j n (code.qk_inc m e) mine = qk_inc-form m e mine
      form-along none i j n (code.qk_set m e) mine = qk_set-form m e mine
      form-along none i j n (code.qk_reset m) mine = qk_reset-form m mine
      form-along none i j n (code.spawn a) mine = never [] mine
      form-along none i j n (code.control a who all) mine = never [] mine
      form-along none i j n (code.throw_it who e all) mine = never [] mine
      form-along none i j n (code.throw e) mine = throw-form e (none e)
      form-along none i j n (code.return_ e) mine = return-form e mine
      form-along none i j n code.stop mine = never [] mine
      form-along none i j n (code.if_ e a other) mine = if-form e a other mine
      form-along none i j n (code.while_ e a) mine = while-form n e a mine
      form-along none i j n (code.guard a u) mine = guard-form a u
      form-along none i j n (code.try_ a handlers) mine = try-form a handlers

      -- ---- what a call hands back, to the variables that its statement names

      given_along : (f : Frame) (n : ℕ) (arguments : List ArgumentTerm) (e y : Config) → R e y → Owns (flat_map deeds_of_argument arguments) → R (given_back e p h f n arguments) (given_back y p k f n arguments)
      given_along f n [] e y a mine = a
      given_along f n (code.by_value v ∷ more) e y a mine = given_along f (suc n) more e y a (right (deeds_of_term v) (flat_map deeds_of_argument more) mine)
      given_along f n (code.inout m ∷ more) e y a mine =
          given_along f (suc n) more (set_name e p h m (final_value f n (value.Bool false))) (set_name y p k m (final_value f n (value.Bool false)))
          (named e y a m (final_value f n (value.Bool false)) (left (deeds_of_name m) (flat_map deeds_of_argument more) mine)) (right (deeds_of_name m) (flat_map deeds_of_argument more) mine)

      pub hands_back-along : (f : Frame) (w : Statement) → Owns (deeds_of w) → Both R (hands_back c p h f w) (hands_back x p k f w)
      hands_back-along f (code.call to g arguments) mine =
          stored_along (given_back c p h f 0 arguments) (given_back x p k f 0 arguments) (given_along f 0 arguments c x start (left (flat_map deeds_of_argument arguments) (deeds_of_store to) mine)) to (answer_of (arena c) f)
          (right (flat_map deeds_of_argument arguments) (deeds_of_store to) mine)
      hands_back-along f (code.nb_transport to socket n phase d) mine = never [] mine
      hands_back-along f (code.b_transport socket n d) mine = never [] mine
      hands_back-along f other mine = start
