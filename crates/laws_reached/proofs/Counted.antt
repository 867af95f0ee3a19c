-- A step by any form keeps the number of events, and adds one at most to one semaphore.
use Rattle.std.proofs.Common.{◌≡◌, ◌≤◌, ◌||◌, ◌&&◌, ◌+◌, ℕ, zero, suc, Bool, true, false, not, List, [], ◌∷◌, ◌++◌, Option, Some, None, is_some, Result, Ok, Err, All, refl, sym, ap, ◌∙◌, subst, arith, ⊎_elim}
use Rattle.std.specs.Prelude.{◌==◌, if◌then◌else◌, slice_get, slice_set, length}
use Rattle.std.proofs.lemmas.Option.{none-some, same_Some, slice_get_cases}
use Rattle.std.proofs.lemmas.List.Elements.{All-weaker, All-set, All-get_or}
use Rattle.laws_runs.specs.EventCore.declared.event.Ev.{Ev}
use Rattle.laws_runs.specs.EventCore.declared.event.Ev.TheVariants as ev
use Rattle.laws_runs.specs.EventCore.Notifications.{notified}
use Rattle.laws_runs.specs.EventCore.declared.notifications.Pending.TheVariants as pending
use Rattle.laws_runs.specs.EventCore.declared.notifications.When.{When}
use Rattle.laws_runs.specs.EventCore.declared.notifications.When.TheVariants as when
use Rattle.laws_runs.specs.LogicValues.Integers.{bits_of}
use Rattle.laws_runs.specs.LogicValues.declared.kinds.Value.{Value}
use Rattle.laws_runs.specs.LogicValues.declared.kinds.Value.TheVariants as value
use Rattle.laws_runs.specs.FifoSync.Fifos.{Queued, free, readable, after_read, after_write}
use Rattle.laws_runs.specs.FifoSync.Locks.{answer, is_unlocked, is_owner, locked_by, unlocked_by, is_used_up}
use Rattle.laws_runs.specs.TransportPhases.History.{Entry, Call, Return, BCall, BReturn, Left, broken}
use Rattle.laws_runs.specs.TransportPhases.declared.phases.Rule.{Rule as Broken}
use Rattle.laws_runs.specs.PayloadPool.Transfer.{carried, memory_after}
use Rattle.laws_runs.specs.PayloadPool.declared.payload.Payload.{Payload}
use Rattle.laws_runs.specs.QuantumKeeper.declared.keeper.Keeper.{Keeper}
use Rattle.laws_runs.specs.SignalChannel.Signals.{conflict_of}
use Rattle.laws_runs.specs.SignalChannel.declared.signal.Signal.{Signal}
use Rattle.laws_runs.specs.SignalChannel.declared.signal.WriterConflict.{WriterConflict}
use Rattle.model_tree.specs.declared.items.ProcessKind.{ProcessKind}
use Rattle.model_tree.specs.declared.items.ProcessKind.TheVariants as process
use Rattle.model_tree.specs.declared.statements.Control.{Control}
use Rattle.model_tree.specs.declared.statements.Control.TheVariants as control
use Rattle.flat_design.specs.Code as code
use Rattle.flat_design.specs.Code.{Term, Statement, DestinationTerm, ChannelTerm, ArgumentTerm, SpawnTerm, body_at, statement_at}
use Rattle.flat_design.specs.declared.code.Store.{Store as Target}
use Rattle.flat_design.specs.declared.faults.RunFault.{RunFault}
use Rattle.flat_design.specs.declared.faults.RunFault.TheVariants as fault
use Rattle.flat_design.specs.declared.names.NameUse.{NameUse}
use Rattle.flat_design.specs.declared.names.NameUse.TheVariants as name_use
use Rattle.flat_design.specs.declared.names.EventMember.TheVariants as event
use Rattle.flat_design.specs.declared.design.Denoted.{Denoted}
use Rattle.flat_design.specs.declared.design.Denoted.TheVariants as denoted
use Rattle.flat_design.specs.declared.design.ChannelId.{ChannelId}
use Rattle.flat_design.specs.declared.design.ChannelId.TheVariants as channel
use Rattle.laws_runs.specs.SimModel.Values.{on_ok, bits, cut_to, index_within, moment, signed, truth}
use Rattle.laws_runs.specs.SimModel.Residual as residual
use Rattle.laws_runs.specs.SimModel.Residual.{Residual, Frame, Next, put, skip, settle, next_of, taken_off, innermost, goal, has_goal}
use Rattle.laws_runs.specs.SimModel.Unwinding.{unw, left_by_unw, returned, return_marks, catches, left_by_raise, raise}
use Rattle.laws_runs.specs.SimModel.Configuration.{Config, Instance, Wait, changed_at, waits_for_nothing, waits_statically, waits_for_any, waits_for_all, line, change_instance, with_residual, with_runnable, with_marks, with_told, instance_at, arena}
use Rattle.laws_runs.specs.SimModel.Reading.{Here, here, denotes, val, val_if, place_in, payload_number, live_payload, memory_here, memory_number}
use Rattle.laws_runs.specs.SimModel.Storing.{passes, bytes_in, set_local, set_name, set_denoted, set_memory, set_payload, with_field, with_byte, low_byte, first_value, stored, stored_if, chosen, looped, print_line, do_assign}
use Rattle.laws_runs.specs.SimModel.Waits.{holds, without, is_active, is_among, freed, joined, woken, struck, wake, wake_instance, left_of_all, reaches, reach_instance, fire_each, fire, leaves_stack, waits, notify}
use Rattle.laws_runs.specs.SimModel.Waiting.{awaited, channel_event, event_number, on_event, notified_now, cancelled, when_after}
use Rattle.laws_runs.specs.SimModel.Channels.{channel_in, blocks, set_fifo, set_mutex, set_semaphore, with_fifo, taken_from, written_unless, write_signal, write_fifo, write_channel, read_value, read_fifo, fifo_here, fifo_of, mutex_of, semaphore_of, nb_read_value, nb_read_fifo, nb_write_fifo, answered, lock_mutex, lock_at, trylock_mutex, trylock_at, unlock_mutex, unlock_at, sem_wait_value, sem_wait_at, sem_trywait_value, sem_trywait_at, post_value, post_at}
use Rattle.laws_runs.specs.SimModel.Calls.{argument_values, locals_in, may_enter, enters, final_value, given_back, call_ends, answer_of, with_entry, with_left, thrown, cut_answer, answer_type, first_arguments, may_spawn, new_instance, added, runnable_unless, handle_stored, spawns}
use Rattle.laws_runs.specs.SimModel.Transport.{with_pool, size_within, size_or, may_make, socket_of, history, is_complete, judged, judged_by, blocking_handler, nonblocking_handler, path_of_call, may_enter_handler, enters_handler, int_of, value_named, b_transport_on, nb_transport_on, complete_now, for_freed, b_transport_ends, nb_transport_ends, with_global, with_keeper, kept as keeps_time, on_keeper}
use Rattle.laws_runs.specs.SimModel.Payloads.{with_made, with_acquired, with_released}
use Rattle.laws_runs.specs.SimModel.Control.{is_top, is_below_top, is_thread, with_kept, yields, suspends, resumes, pushed, pushed_unless_top, unwinds, ends_or_restarts, injected, throws_at, controlled_by, unless_ended, control_call, throw_call, target_of, targets, with_owed, ended_instance, ends, begins, stays_kept, restarts, reaches_goal, done_by}
use Rattle.laws_runs.specs.SimModel.Statements.{via_ends, hands_back, handed_back, calling_statement, on_statement, do_statement, owed_call, owed_by, do_next, settled_in, step_by, statement_step}
use Rattle.laws_runs.specs.SimModel.declared.plain.Goal.{Goal}
use Rattle.laws_runs.specs.SimModel.declared.plain.Goal.TheVariants as goal_of
use Rattle.laws_runs.specs.SimModel.declared.plain.Via.{Via}

-- ---- the number of events, and the values of semaphores

abbrev pub Near : Config → Config → Type 0
Near c d = (length d.events ≡ length c.events) × ((most : ℕ) → All (λ v. v ≤ most) c.channels.semaphores → All (λ v. v ≤ most + 1) d.channels.semaphores)

abbrev pub NearIfOk : Config → Result Config RunFault → Type 0
NearIfOk c (Ok d) = Near c d
NearIfOk c (Err f) = Unit {0}

pub stays : (c : Config) → Near c c
stays c = (refl, λ most few. All-weaker (λ v. v ≤ most) (λ v. v ≤ most + 1) (λ v h. omega (arith, h)) c.channels.semaphores few)

set_length : {A : Type 0} (xs : List A) (n : ℕ) (x : A) → length (slice_set xs n x) ≡ length xs
set_length [] n x = refl
set_length (y ∷ ys) zero x = refl
set_length (y ∷ ys) (suc n) x = ap suc (set_length ys n x)

changed_length : {A : Type 0} (xs : List A) (n : ℕ) (f : A → A) (o : Option A) → length (changed_at xs n f o) ≡ length xs
changed_length xs n f None = refl
changed_length xs n f (Some x) = set_length xs n (f x)

-- an element of a list is what holds of all
all_at : (P : ℕ → Type 0) (xs : List ℕ) (n v : ℕ) → All P xs → slice_get xs n ≡ Some v → P v
all_at P xs n v all at = ⊎_elim
    (λ c. subst P (c.3 ∙ same_Some c.0 v (sym c.2 ∙ at)) (All-get_or P xs n c.0 c.1 all))
    (λ c. absurd (none-some v (sym c.1 ∙ at)))
    (slice_get_cases xs n).1

-- one semaphore is one more at most
semaphore_set : (c : Config) (n v w : ℕ) → slice_get c.channels.semaphores n ≡ Some v → w ≤ v + 1 → Near c (set_semaphore c n w)
semaphore_set c n v w at most_one = (
  refl,
  λ most few.
      let before : v ≤ most = all_at (λ x. x ≤ most) c.channels.semaphores n v few at in
      All-set (λ x. x ≤ most + 1) c.channels.semaphores n w (omega (arith, before, most_one)) ((stays c).1 most few),
)

pub ok : {A : Type 0} (c : Config) (x : Result A RunFault) (f : A → Result Config RunFault) → ((a : A) → NearIfOk c (f a)) → NearIfOk c (on_ok x f)
ok c (Ok a) f each = each a
ok c (Err e) f each = tt

pub either : (c d e : Config) (b : Bool) → Near c d → Near c e → Near c (if b then d else e)
either c d e true first second = first
either c d e false first second = second

pub ok_either : (c : Config) (b : Bool) (m n : Result Config RunFault) → NearIfOk c m → NearIfOk c n → NearIfOk c (if b then m else n)
ok_either c true m n one two = one
ok_either c false m n one two = two

-- ---- events

module _ (c : Config) where
  woken_near : (d : Config) (p : ℕ) (i : Instance) → Near c d → Near c (woken d p i)
  woken_near d p i k = either c (change_instance d p (λ j. record (freed j) { kept = true })) (with_runnable (change_instance d p freed) (joined d.processes.runnable p)) i.suspended k k

  pub wake_near : (d : Config) (p : ℕ) (o : Option Instance) → Near c d → Near c (wake_instance d p o)
  wake_near d p None k = k
  wake_near d p (Some i) k = either c d (woken d p i) ((i.ended || is_active d p) || i.disabled) k (woken_near d p i k)

  left_near : (d : Config) (p : ℕ) (es : List Ev) → Near c d → Near c (left_of_all d p es)
  left_near d p [] k = wake_near d p (instance_at d p) k
  left_near d p (e ∷ es) k = k

  reaches_near : (d : Config) (e : Ev) (p : ℕ) (i : Instance) (w : Wait) → Near c d → Near c (reaches d e p i w)
  reaches_near d e p i waits_for_nothing k = k
  reaches_near d e p i waits_statically k = either c (wake d p) d (is_among e i.static) (wake_near d p (instance_at d p) k) k
  reaches_near d e p i (waits_for_any es) k = either c (wake d p) d (is_among e es) (wake_near d p (instance_at d p) k) k
  reaches_near d e p i (waits_for_all es) k = either c (left_of_all d p (struck e es)) d (is_among e es) (left_near d p (struck e es) k) k

  reach_near : (d : Config) (e : Ev) (p : ℕ) (o : Option Instance) → Near c d → Near c (reach_instance d e p o)
  reach_near d e p None k = k
  reach_near d e p (Some i) k = either c d (reaches d e p i i.wait) i.disabled k (reaches_near d e p i i.wait k)

  fire_each_near : (e : Ev) (p : ℕ) (is : List Instance) (d : Config) → Near c d → Near c (fire_each e p is d)
  fire_each_near e p [] d k = k
  fire_each_near e p (i ∷ is) d k = fire_each_near e (suc p) is (reach_instance d e p (instance_at d p)) (reach_near d e p (instance_at d p) k)

  pub fire_near : (d : Config) (e : Ev) → Near c d → Near c (fire d e)
  fire_near d e k = fire_each_near e 0 d.processes.instances d k

  pub notify_near : (d : Config) (e : ℕ) (w : When) → Near c d → Near c (notify d e w)
  notify_near d e w k = (changed_length d.events e (notified w) (slice_get d.events e) ∙ k.0, k.1)

  cancelled_near : (d : Config) (e : ℕ) → Near c d → Near c (cancelled d e)
  cancelled_near d e k = (changed_length d.events e (λ x. pending.Nothing) (slice_get d.events e) ∙ k.0, k.1)

  -- ---- values that are stored

  denoted_near : (d : Config) (x : Denoted) (v : Value) → Near c d → Near c (set_denoted d x v)
  denoted_near d denoted.Nothing v k = k
  denoted_near d (denoted.Channel ch) v k = k
  denoted_near d (denoted.Event e) v k = k
  denoted_near d (denoted.Keeper n) v k = k
  denoted_near d (denoted.Memory m) v k = k
  denoted_near d (denoted.Variable n) v k = k
  denoted_near d (denoted.Port n) v k = k
  denoted_near d (denoted.Process p) v k = k
  denoted_near d (denoted.Socket hop forward) v k = k

  name_near : (d : Config) (p : ℕ) (h : Here) (n : NameUse) (v : Value) → Near c d → Near c (set_name d p h n v)
  name_near d p h (name_use.Local n) v k = k
  name_near d p h (name_use.Declared n) v k = denoted_near d (denotes h n) v k

  stored_near : (d : Config) (p : ℕ) (h : Here) (t : Target) (v : Value) → Near c d → Near c (stored d p h t v)
  stored_near d p h t v k = name_near d p h t.name (cut_to t.value_type v) k

  stored_if_near : (d : Config) (p : ℕ) (h : Here) (o : Option Target) (v : Value) → Near c d → Near c (stored_if d p h o v)
  stored_if_near d p h None v k = k
  stored_if_near d p h (Some t) v k = stored_near d p h t v k

  memory_near : (d : Config) (m : Option ℕ) (bytes : List ℕ) → Near c d → Near c (set_memory d m bytes)
  memory_near d None bytes k = k
  memory_near d (Some m) bytes k = k

  -- ---- statements of data

  module _ (p : ℕ) (r : Residual) (h : Here) where
    assign_near : (to : DestinationTerm) (e : Term) → NearIfOk c (do_assign c p r h to e)
    assign_near (code.to_name t) e = ok c (val h e) (λ v. Ok (stored (passes c p r) p h t v)) (λ v. stored_near (passes c p r) p h t v (stays c))
    assign_near (code.to_field n f) e =
        ok c (val h e) (λ v. on_ok (payload_number h n) (λ t. on_ok (live_payload c t) (λ q. Ok (set_payload (passes c p r) t (with_field f v q))))) (λ v.
        ok c (payload_number h n) (λ t. on_ok (live_payload c t) (λ q. Ok (set_payload (passes c p r) t (with_field f v q)))) (λ t.
        ok c (live_payload c t) (λ q. Ok (set_payload (passes c p r) t (with_field f v q))) (λ q. (stays c))))
    assign_near (code.to_element n index) e =
        ok c (val h index) (λ i. on_ok (val h e) (λ v. on_ok (index_within (bits i) (length (memory_here h n))) (λ k. Ok (set_memory (passes c p r) (memory_number (denotes h n)) (slice_set (memory_here h n) k (low_byte v)))))) (λ i.
        ok c (val h e) (λ v. on_ok (index_within (bits i) (length (memory_here h n))) (λ k. Ok (set_memory (passes c p r) (memory_number (denotes h n)) (slice_set (memory_here h n) k (low_byte v))))) (λ v.
        ok c (index_within (bits i) (length (memory_here h n))) (λ k. Ok (set_memory (passes c p r) (memory_number (denotes h n)) (slice_set (memory_here h n) k (low_byte v)))) (λ k.
        memory_near (passes c p r) (memory_number (denotes h n)) (slice_set (memory_here h n) k (low_byte v)) (stays c))))
    assign_near (code.to_payload_byte n b index) e =
        ok c (val h index) (λ i. on_ok (val h e) (λ v. on_ok (payload_number h n) (λ t. on_ok (live_payload c t) (λ q. on_ok (index_within (bits i) (length (bytes_in b q))) (λ k. Ok (set_payload (passes c p r) t (with_byte b k (low_byte v) q))))))) (λ i.
        ok c (val h e) (λ v. on_ok (payload_number h n) (λ t. on_ok (live_payload c t) (λ q. on_ok (index_within (bits i) (length (bytes_in b q))) (λ k. Ok (set_payload (passes c p r) t (with_byte b k (low_byte v) q)))))) (λ v.
        ok c (payload_number h n) (λ t. on_ok (live_payload c t) (λ q. on_ok (index_within (bits i) (length (bytes_in b q))) (λ k. Ok (set_payload (passes c p r) t (with_byte b k (low_byte v) q))))) (λ t.
        ok c (live_payload c t) (λ q. on_ok (index_within (bits i) (length (bytes_in b q))) (λ k. Ok (set_payload (passes c p r) t (with_byte b k (low_byte v) q)))) (λ q.
        ok c (index_within (bits i) (length (bytes_in b q))) (λ k. Ok (set_payload (passes c p r) t (with_byte b k (low_byte v) q))) (λ k. (stays c))))))

    -- ---- statements of events

    on_event_near : (o : Option ℕ) (f : ℕ → Config) → ((e : ℕ) → Near c (f e)) → Near c (on_event (passes c p r) o f)
    on_event_near None f each = stays c
    on_event_near (Some e) f each = each e

    -- ---- statements on channels

    signal_near : (n : ℕ) (v : Value) (s : Signal) (o : Option WriterConflict) → NearIfOk c (written_unless (passes c p r) n s v p o)
    signal_near n v s None = stays c
    signal_near n v s (Some w) = tt

    write_signal_near : (n : ℕ) (v : Value) (o : Option Signal) → NearIfOk c (write_signal (passes c p r) n v p o)
    write_signal_near n v None = stays c
    write_signal_near n v (Some s) = signal_near n v s (conflict_of (Some p) s.writer)

    write_fifo_near : (n : ℕ) (ch : ChannelId) (v : Value) (o : Option Queued) → Near c (write_fifo c p r n ch v o)
    write_fifo_near n ch v None = stays c
    write_fifo_near n ch v (Some q) = either c (blocks c p r (channel_event event.DataRead ch)) (set_fifo (passes c p r) n (after_write q v)) (free q == 0) (stays c) (stays c)

    write_near : (v : Value) (ch : ChannelId) → NearIfOk c (write_channel c p r v ch)
    write_near v (channel.Signal n events) = write_signal_near n v (slice_get c.channels.signals n)
    write_near v (channel.Resolved n events) = stays c
    write_near v (channel.Fifo n events) = write_fifo_near n (channel.Fifo n events) v (slice_get c.channels.fifos n)
    write_near v (channel.Mutex n events) = stays c
    write_near v (channel.Semaphore n events) = stays c

    -- the place, the channel, and then what is done with it
    tried_near : (t : ChannelTerm) (f : ChannelId → Config) → ((ch : ChannelId) → Near c (f ch)) → NearIfOk c (on_ok (place_in h t.place) (λ k. on_ok (channel_in h t k) (λ ch. Ok (f ch))))
    tried_near t f each = ok c (place_in h t.place) (λ k. on_ok (channel_in h t k) (λ ch. Ok (f ch))) (λ k. ok c (channel_in h t k) (λ ch. Ok (f ch)) each)

    with_fifo_near : (d : Config) (o : Option ℕ) (q : Queued) → Near c d → Near c (with_fifo d o q)
    with_fifo_near d None q k = k
    with_fifo_near d (Some n) q k = k

    read_value_near : (x : Option Target) (ch : ChannelId) (q : Queued) (o : Option Value) → Near c (read_value c p r h x ch q o)
    read_value_near x ch q None = stays c
    read_value_near x ch q (Some v) = stored_if_near (with_fifo (passes c p r) (fifo_of ch) (after_read q)) p h x v (with_fifo_near (passes c p r) (fifo_of ch) (after_read q) (stays c))

    read_near : (x : Option Target) (ch : ChannelId) (o : Option Queued) → Near c (read_fifo c p r h x ch o)
    read_near x ch None = stays c
    read_near x ch (Some q) = read_value_near x ch q (readable q)

    nb_read_value_near : (x : Option Target) (y : Target) (ch : ChannelId) (q : Queued) (o : Option Value) → Near c (nb_read_value c p r h x y ch q o)
    nb_read_value_near x y ch q None = stored_if_near (passes c p r) p h x (value.Bool false) (stays c)
    nb_read_value_near x y ch q (Some v) =
        let d = with_fifo (passes c p r) (fifo_of ch) (after_read q) in
        stored_near (stored_if d p h x (value.Bool true)) p h y v (stored_if_near d p h x (value.Bool true) (with_fifo_near (passes c p r) (fifo_of ch) (after_read q) (stays c)))

    nb_read_near : (x : Option Target) (y : Target) (ch : ChannelId) (o : Option Queued) → Near c (nb_read_fifo c p r h x y ch o)
    nb_read_near x y ch None = stays c
    nb_read_near x y ch (Some q) = nb_read_value_near x y ch q (readable q)

    nb_write_near : (x : Option Target) (ch : ChannelId) (v : Value) (o : Option Queued) → Near c (nb_write_fifo c p r h x ch v o)
    nb_write_near x ch v None = stays c
    nb_write_near x ch v (Some q) =
        let d = with_fifo (passes c p r) (fifo_of ch) (after_write q v) in
        either c (stored_if (passes c p r) p h x (value.Bool false)) (stored_if d p h x (value.Bool true)) (free q == 0)
        (stored_if_near (passes c p r) p h x (value.Bool false) (stays c)) (stored_if_near d p h x (value.Bool true) (with_fifo_near (passes c p r) (fifo_of ch) (after_write q v) (stays c)))

    answered_near : (d : Config) (x : Option Target) (done : Bool) → Near c d → Near c (answered d p h x done)
    answered_near d x done k = stored_if_near d p h x (signed (bits_of (answer done))) k

    lock_mutex_near : (n : ℕ) (ch : ChannelId) (o : Option (Option ℕ)) → Near c (lock_mutex c p r n ch o)
    lock_mutex_near n ch None = stays c
    lock_mutex_near n ch (Some m) = either c (set_mutex (passes c p r) n (locked_by p m)) (blocks c p r (channel_event event.Own ch)) (is_unlocked m) (stays c) (stays c)

    lock_near : (ch : ChannelId) (o : Option ℕ) → Near c (lock_at c p r ch o)
    lock_near ch None = stays c
    lock_near ch (Some n) = lock_mutex_near n ch (slice_get c.channels.mutexes n)

    trylock_mutex_near : (x : Option Target) (n : ℕ) (o : Option (Option ℕ)) → Near c (trylock_mutex (passes c p r) p h x n o)
    trylock_mutex_near x n None = stays c
    trylock_mutex_near x n (Some m) = answered_near (set_mutex (passes c p r) n (locked_by p m)) x (is_unlocked m) (stays c)

    trylock_near : (x : Option Target) (o : Option ℕ) → Near c (trylock_at (passes c p r) p h x o)
    trylock_near x None = stays c
    trylock_near x (Some n) = trylock_mutex_near x n (slice_get c.channels.mutexes n)

    unlock_mutex_near : (x : Option Target) (n : ℕ) (ch : ChannelId) (o : Option (Option ℕ)) → Near c (unlock_mutex (passes c p r) p h x n ch o)
    unlock_mutex_near x n ch None = stays c
    unlock_mutex_near x n ch (Some m) =
        let d = fire (set_mutex (passes c p r) n (unlocked_by p m)) (channel_event event.Own ch) in
        either c (answered d p h x true) (answered (passes c p r) p h x false) (is_owner p m)
        (answered_near d x true (fire_near (set_mutex (passes c p r) n (unlocked_by p m)) (channel_event event.Own ch) (stays c))) (answered_near (passes c p r) x false (stays c))

    unlock_near : (x : Option Target) (ch : ChannelId) (o : Option ℕ) → Near c (unlock_at (passes c p r) p h x ch o)
    unlock_near x ch None = stays c
    unlock_near x ch (Some n) = unlock_mutex_near x n ch (slice_get c.channels.mutexes n)

    sem_value_near : (n : ℕ) (ch : ChannelId) (o : Option ℕ) → slice_get c.channels.semaphores n ≡ o → Near c (sem_wait_value c p r n ch o)
    sem_value_near n ch None at = stays c
    sem_value_near n ch (Some v) at = either c (blocks c p r (channel_event event.Own ch)) (set_semaphore (passes c p r) n (taken_from v)) (is_used_up v) (stays c) (semaphore_set c n v (taken_from v) at (omega arith))

    sem_wait_near : (ch : ChannelId) (o : Option ℕ) → Near c (sem_wait_at c p r ch o)
    sem_wait_near ch None = stays c
    sem_wait_near ch (Some n) = sem_value_near n ch (slice_get c.channels.semaphores n) refl

    trywait_value_near : (x : Option Target) (n : ℕ) (o : Option ℕ) → slice_get c.channels.semaphores n ≡ o → Near c (sem_trywait_value (passes c p r) p h x n o)
    trywait_value_near x n None at = stays c
    trywait_value_near x n (Some v) at =
        either c (answered (passes c p r) p h x false) (answered (set_semaphore (passes c p r) n (taken_from v)) p h x true) (is_used_up v)
        (answered_near (passes c p r) x false (stays c)) (answered_near (set_semaphore (passes c p r) n (taken_from v)) x true (semaphore_set c n v (taken_from v) at (omega arith)))

    trywait_near : (x : Option Target) (o : Option ℕ) → Near c (sem_trywait_at (passes c p r) p h x o)
    trywait_near x None = stays c
    trywait_near x (Some n) = trywait_value_near x n (slice_get c.channels.semaphores n) refl

    post_value_near : (n : ℕ) (ch : ChannelId) (o : Option ℕ) → slice_get c.channels.semaphores n ≡ o → Near c (post_value (passes c p r) n ch o)
    post_value_near n ch None at = stays c
    post_value_near n ch (Some v) at = fire_near (set_semaphore (passes c p r) n (v + 1)) (channel_event event.Own ch) (semaphore_set c n v (v + 1) at (omega arith))

    post_near : (ch : ChannelId) (o : Option ℕ) → Near c (post_at (passes c p r) ch o)
    post_near ch None = stays c
    post_near ch (Some n) = post_value_near n ch (slice_get c.channels.semaphores n) refl

  -- ---- exceptions, goals and ends

  left_calls_near : (d : Config) (vs : List Via) → Near c d → Near c (with_left d vs)
  left_calls_near d [] k = k
  left_calls_near d (v ∷ vs) k = left_calls_near (with_entry d v.hop (Left v.payload)) vs k

  thrown_near : (d : Config) (p : ℕ) (r : Residual) (e : ℕ) → Near c d → NearIfOk c (thrown d p r e)
  thrown_near d p r e k =
      ok_either c (catches r e) (Ok (with_left (with_residual d p (raise (arena d) r e goal_of.Thrown)) (left_by_raise r e))) (Err (fault.Uncaught e))
      (left_calls_near (with_residual d p (raise (arena d) r e goal_of.Thrown)) (left_by_raise r e) k) tt

  ends_near : (p : ℕ) → Near c (ends c p)
  ends_near p = fire_near (leaves_stack (change_instance c p ended_instance)) (ev.Terminated p) (stays c)

  pub done_near : (p : ℕ) (i : Instance) (kind : ProcessKind) → Near c (done_by c p i kind)
  done_near p i process.Thread = ends_near p
  done_near p i process.Method = stays c

  restarts_near : (p : ℕ) (i : Instance) → Near c (restarts c p i)
  restarts_near p i =
      let d = fire (change_instance c p (λ j. record j { residual = skip; started = false })) (ev.Restarted p) in
      let k = fire_near (change_instance c p (λ j. record j { residual = skip; started = false })) (ev.Restarted p) (stays c) in
      either c (stays_kept d p) (begins d p i) i.suspended k k

  pub goal_near : (p : ℕ) (i : Instance) (r : Residual) (g : Goal) → Near c (reaches_goal c p i r g)
  goal_near p i r goal_of.End = ends_near p
  goal_near p i r goal_of.Restart = restarts_near p i
  goal_near p i r goal_of.Thrown = stays c
  goal_near p i r goal_of.Injected = either c (stays_kept (passes c p r) p) (passes c p r) i.suspended (stays c) (stays c)

  -- ---- calls, transport calls and keepers

  judged_then : (d : Config) (hop : ℕ) (e : Entry) (t : ℕ) (o : Option Broken) (f : Config → Result Config RunFault) → NearIfOk c (f (with_entry d hop e)) → NearIfOk c (on_ok (judged_by d hop e t o) f)
  judged_then d hop e t None f k = k
  judged_then d hop e t (Some x) f k = tt

  returned_then : (d : Config) (hop : ℕ) (e : Entry) (t : ℕ) (o : Option Broken) (f : Config → Result Config RunFault) → NearIfOk c (f (with_entry d hop e)) → NearIfOk c (on_ok (for_freed d t (judged_by d hop e t o)) f)
  returned_then d hop e t None f k = k
  returned_then d hop e t (Some x) f k = tt

  handler_near : (d : Config) (p : ℕ) (r : Residual) (s : ℕ) (o : Option ℕ) (args : List Value) (via : Via) → Near c d → Near c (enters_handler d p r s o args via)
  handler_near d p r s None args via k = k
  handler_near d p r s (Some f) args via k = k

  b_transport_near : (p : ℕ) (r : Residual) (h : Here) (s : ℕ) (n d : NameUse) (o : Option (ℕ × Bool)) → NearIfOk c (b_transport_on c p r h s n d o)
  b_transport_near p r h s n d None = stays c
  b_transport_near p r h s n d (Some end) =
      let handler = blocking_handler (slice_get c.design.hops end.0) in
      let enters_it : ℕ → Config → Result Config RunFault = λ t x. Ok (enters_handler x p r s handler (value.Pay (Some t) ∷ value_named h d ∷ []) (record { hop = end.0; forward = true; blocking = true; payload = t })) in
      ok c (payload_number h n) (λ t. on_ok (live_payload c t) (λ q. on_ok (may_enter_handler r handler) (λ u. on_ok (judged c end.0 (BCall t (is_some handler)) t) (enters_it t)))) (λ t.
      ok c (live_payload c t) (λ q. on_ok (may_enter_handler r handler) (λ u. on_ok (judged c end.0 (BCall t (is_some handler)) t) (enters_it t))) (λ q.
      ok c (may_enter_handler r handler) (λ u. on_ok (judged c end.0 (BCall t (is_some handler)) t) (enters_it t)) (λ u.
      judged_then c end.0 (BCall t (is_some handler)) t (broken (history c end.0) (BCall t (is_some handler))) (enters_it t)
      (handler_near (with_entry c end.0 (BCall t (is_some handler))) p r s handler (value.Pay (Some t) ∷ value_named h d ∷ []) (record { hop = end.0; forward = true; blocking = true; payload = t }) (stays c)))))

  nb_transport_near : (p : ℕ) (r : Residual) (h : Here) (s : ℕ) (n phase d : NameUse) (o : Option (ℕ × Bool)) → NearIfOk c (nb_transport_on c p r h s n phase d o)
  nb_transport_near p r h s n phase d None = stays c
  nb_transport_near p r h s n phase d (Some end) =
      let handler = nonblocking_handler end.1 (slice_get c.design.hops end.0) in
      let entry : ℕ → Payload → Entry = λ t q. Call t (path_of_call end.1) (int_of (value_named h phase)) (is_complete q) (is_some handler) in
      let enters_it : ℕ → Config → Result Config RunFault = λ t x. Ok (enters_handler x p r s handler (value.Pay (Some t) ∷ value_named h phase ∷ value_named h d ∷ []) (record { hop = end.0; forward = end.1; blocking = false; payload = t })) in
      ok c (payload_number h n) (λ t. on_ok (live_payload c t) (λ q. on_ok (may_enter_handler r handler) (λ u. on_ok (judged c end.0 (entry t q) t) (enters_it t)))) (λ t.
      ok c (live_payload c t) (λ q. on_ok (may_enter_handler r handler) (λ u. on_ok (judged c end.0 (entry t q) t) (enters_it t))) (λ q.
      ok c (may_enter_handler r handler) (λ u. on_ok (judged c end.0 (entry t q) t) (enters_it t)) (λ u.
      judged_then c end.0 (entry t q) t (broken (history c end.0) (entry t q)) (enters_it t)
      (handler_near (with_entry c end.0 (entry t q)) p r s handler (value.Pay (Some t) ∷ value_named h phase ∷ value_named h d ∷ []) (record { hop = end.0; forward = end.1; blocking = false; payload = t }) (stays c)))))

  on_keeper_near : (d : Config) (o : Option Keeper) (f : Keeper → Result Config RunFault) → Near c d → ((x : Keeper) → NearIfOk c (f x)) → NearIfOk c (on_keeper d o f)
  on_keeper_near d None f k each = k
  on_keeper_near d (Some x) f k each = each x

  keeper_near : (d : Config) (n : Option ℕ) (x : Keeper) → Near c d → Near c (with_keeper d n x)
  keeper_near d None x k = k
  keeper_near d (Some n) x k = k

  kept_near : (d : Config) (n : Option ℕ) (o : Option Keeper) → Near c d → NearIfOk c (keeps_time d n o)
  kept_near d n None k = tt
  kept_near d n (Some x) k = keeper_near d n x k

  -- ---- spawned instances

  unless_near : (b : Bool) (q : ℕ) (d : Config) → Near c d → Near c (runnable_unless b q d)
  unless_near true q d k = k
  unless_near false q d k = k

  handle_near : (d : Config) (p : ℕ) (h : Here) (o : Option NameUse) (q : ℕ) → Near c d → Near c (handle_stored d p h o q)
  handle_near d p h None q k = k
  handle_near d p h (Some n) q k = name_near d p h n (value.Handle (Some q)) k

  spawns_near : (d : Config) (p : ℕ) (h : Here) (x : SpawnTerm) (vs : List Value) → Near c d → Near c (spawns d p h x vs)
  spawns_near d p h x vs k =
      handle_near (runnable_unless x.dont_initialize (length d.processes.instances) (added d (new_instance d h x vs))) p h x.handle (length d.processes.instances)
      (unless_near x.dont_initialize (length d.processes.instances) (added d (new_instance d h x vs)) k)

  -- ---- process control

  alive_near : (d : Config) (o : Option Instance) (f : Instance → Result Config RunFault) → Near c d → ((i : Instance) → NearIfOk c (f i)) → NearIfOk c (unless_ended d o f)
  alive_near d None f k each = k
  alive_near d (Some i) f k each = ok_either c i.ended (Ok d) (f i) k (each i)

  suspends_near : (d : Config) (q : ℕ) (i : Instance) → Near c d → Near c (suspends d q i)
  suspends_near d q i k =
      let e = change_instance d q (λ j. record j { suspended = true }) in
      either c (with_runnable (with_kept e q) (without e.processes.runnable q)) (if yields e q i then leaves_stack (with_kept e q) else e) (holds e.processes.runnable q) k
      (either c (leaves_stack (with_kept e q)) e (yields e q i) k k)

  resumes_near : (d : Config) (q : ℕ) (i : Instance) → Near c d → Near c (resumes d q i)
  resumes_near d q i k =
      let e = change_instance d q (λ j. record j { suspended = false; kept = false }) in
      either c (with_runnable e (d.processes.runnable ++ q ∷ [])) e i.kept k k

  pushed_near : (d : Config) (q : ℕ) → Near c d → Near c (pushed_unless_top d q)
  pushed_near d q k = either c d (pushed d q) (is_top d q) k k

  unwound_near : (d : Config) (q : ℕ) (i : Instance) (end : Goal) → Near c d → NearIfOk c (ends_or_restarts d q i end)
  unwound_near d q i end k =
      ok_either c (is_below_top d q) (Err (fault.ControlOnActive q)) (if is_top d q && has_goal i.residual then Ok d else Ok (unwinds d q i end)) tt
      (ok_either c (is_top d q && has_goal i.residual) (Ok d) (Ok (unwinds d q i end)) k
      (left_calls_near (pushed_unless_top (with_residual d q (goal (unw i.residual) end)) q) (left_by_unw i.residual) (pushed_near (with_residual d q (goal (unw i.residual) end)) q k)))

  controlled_near : (d : Config) (q : ℕ) (i : Instance) (x : Control) → Near c d → NearIfOk c (controlled_by d q i x)
  controlled_near d q i control.Suspend k = suspends_near d q i k
  controlled_near d q i control.Resume k = resumes_near d q i k
  controlled_near d q i control.Disable k = k
  controlled_near d q i control.Enable k = k
  controlled_near d q i control.Kill k = unwound_near d q i goal_of.End k
  controlled_near d q i control.Reset k = unwound_near d q i goal_of.Restart k

  injected_near : (d : Config) (q : ℕ) (i : Instance) (e : ℕ) → Near c d → NearIfOk c (injected d q i e)
  injected_near d q i e k =
      let raised = with_left (pushed (with_residual d q (raise (arena d) i.residual e goal_of.Injected)) q) (left_by_raise i.residual e) in
      ok_either c (not (is_thread i.kind) || not i.started) (Ok d) (if catches i.residual e then Ok raised else Err (fault.Uncaught e)) k
      (ok_either c (catches i.residual e) (Ok raised) (Err (fault.Uncaught e)) (left_calls_near (pushed (with_residual d q (raise (arena d) i.residual e goal_of.Injected)) q) (left_by_raise i.residual e) k) tt)

  thrown_at_near : (d : Config) (q : ℕ) (i : Instance) (e : ℕ) → Near c d → NearIfOk c (throws_at d q i e)
  thrown_at_near d q i e k =
      ok_either c (is_below_top d q) (Err (fault.ControlOnActive q)) (if is_top d q then (if has_goal i.residual then Ok d else thrown d q i.residual e) else injected d q i e) tt
      (ok_either c (is_top d q) (if has_goal i.residual then Ok d else thrown d q i.residual e) (injected d q i e)
      (ok_either c (has_goal i.residual) (Ok d) (thrown d q i.residual e) k (thrown_near d q i.residual e k)) (injected_near d q i e k))

  control_near : (d : Config) (q : ℕ) (x : Control) → Near c d → NearIfOk c (control_call d q x)
  control_near d q x k = alive_near d (instance_at d q) (λ j. controlled_by d q j x) k (λ j. controlled_near d q j x k)

  throw_near : (d : Config) (q e : ℕ) → Near c d → NearIfOk c (throw_call d q e)
  throw_near d q e k = alive_near d (instance_at d q) (λ j. throws_at d q j e) k (λ j. thrown_at_near d q j e k)

  -- ---- all forms

  past : (p : ℕ) (r : Residual) → Near c (passes c p r)
  past p r = stays c

  pub statement_near : (p : ℕ) (i : Instance) (r : Residual) (h : Here) (s : ℕ) (x : Statement) → NearIfOk c (do_statement c p i r h s x)
  statement_near p i r h s (code.var n t e) = ok c (val_if h e) (λ v. Ok (set_local (passes c p r) p n (first_value t v))) (λ v. (stays c))
  statement_near p i r h s (code.assign to e) = assign_near p r h to e
  statement_near p i r h s (code.call x f arguments) =
      ok c (argument_values h (locals_in (body_at (arena c) f)) 0 arguments) (λ vs. on_ok (may_enter r) (λ u. Ok (enters c p r s f vs None))) (λ vs. ok c (may_enter r) (λ u. Ok (enters c p r s f vs None)) (λ u. stays c))
  statement_near p i r h s (code.read x ch) = tried_near p r h ch (λ k. read_fifo c p r h x k (fifo_here c k)) (λ k. read_near p r h x k (fifo_here c k))
  statement_near p i r h s (code.nb_read x ch y) = tried_near p r h ch (λ k. nb_read_fifo c p r h x y k (fifo_here c k)) (λ k. nb_read_near p r h x y k (fifo_here c k))
  statement_near p i r h s (code.nb_write x ch t e) =
      ok c (place_in h ch.place) (λ k. on_ok (val h e) (λ v. on_ok (channel_in h ch k) (λ z. Ok (nb_write_fifo c p r h x z (cut_to t v) (fifo_here c z))))) (λ k.
      ok c (val h e) (λ v. on_ok (channel_in h ch k) (λ z. Ok (nb_write_fifo c p r h x z (cut_to t v) (fifo_here c z)))) (λ v.
      ok c (channel_in h ch k) (λ z. Ok (nb_write_fifo c p r h x z (cut_to t v) (fifo_here c z))) (λ z. nb_write_near p r h x z (cut_to t v) (fifo_here c z))))
  statement_near p i r h s (code.trylock x ch) = tried_near p r h ch (λ k. trylock_at (passes c p r) p h x (mutex_of k)) (λ k. trylock_near p r h x (mutex_of k))
  statement_near p i r h s (code.unlock x ch) = tried_near p r h ch (λ k. unlock_at (passes c p r) p h x k (mutex_of k)) (λ k. unlock_near p r h x k (mutex_of k))
  statement_near p i r h s (code.sem_trywait x ch) = tried_near p r h ch (λ k. sem_trywait_at (passes c p r) p h x (semaphore_of k)) (λ k. trywait_near p r h x (semaphore_of k))
  statement_near p i r h s (code.nb_transport x socket n phase d) = nb_transport_near p r h s n phase d (socket_of (denotes h socket))
  statement_near p i r h s (code.write ch t e) =
      ok c (place_in h ch.place) (λ k. on_ok (val h e) (λ v. on_ok (channel_in h ch k) (write_channel c p r (cut_to t v)))) (λ k.
      ok c (val h e) (λ v. on_ok (channel_in h ch k) (write_channel c p r (cut_to t v))) (λ v.
      ok c (channel_in h ch k) (write_channel c p r (cut_to t v)) (write_near p r h (cut_to t v))))
  statement_near p i r h s (code.print text e) = ok c (val_if h e) (λ v. Ok (with_told (passes c p r) (line (print_line c.cycle.now i.path text v)))) (λ v. stays c)
  statement_near p i r h s (code.notify n) = on_event_near p r h (event_number (denotes h n)) (notified_now (passes c p r)) (λ e. fire_near (notify (passes c p r) e when.Immediate) (ev.Fixed e) (notify_near (passes c p r) e when.Immediate (stays c)))
  statement_near p i r h s (code.notify_delta n) = on_event_near p r h (event_number (denotes h n)) (λ e. notify (passes c p r) e when.Delta) (λ e. notify_near (passes c p r) e when.Delta (stays c))
  statement_near p i r h s (code.notify_after n e) =
      ok c (val h e) (λ v. on_ok (when_after c.cycle.now (moment v)) (λ w. Ok (on_event (passes c p r) (event_number (denotes h n)) (λ x. notify (passes c p r) x w)))) (λ v.
      ok c (when_after c.cycle.now (moment v)) (λ w. Ok (on_event (passes c p r) (event_number (denotes h n)) (λ x. notify (passes c p r) x w))) (λ w.
      on_event_near p r h (event_number (denotes h n)) (λ x. notify (passes c p r) x w) (λ x. notify_near (passes c p r) x w (stays c))))
  statement_near p i r h s (code.cancel n) = on_event_near p r h (event_number (denotes h n)) (cancelled (passes c p r)) (λ e. cancelled_near (passes c p r) e (stays c))
  statement_near p i r h s (code.wait w) = ok c (awaited h w) (λ t. Ok (waits (passes c p r) p t.wait t.deadline)) (λ t. (stays c))
  statement_near p i r h s (code.next_trigger w) = ok c (awaited h w) (λ t. Ok (change_instance (passes c p r) p (λ j. record j { trigger = Some t }))) (λ t. (stays c))
  statement_near p i r h s (code.lock ch) = tried_near p r h ch (λ k. lock_at c p r k (mutex_of k)) (λ k. lock_near p r h k (mutex_of k))
  statement_near p i r h s (code.sem_wait ch) = tried_near p r h ch (λ k. sem_wait_at c p r k (semaphore_of k)) (λ k. sem_wait_near p r h k (semaphore_of k))
  statement_near p i r h s (code.post ch) = tried_near p r h ch (λ k. post_at (passes c p r) k (semaphore_of k)) (λ k. post_near p r h k (semaphore_of k))
  statement_near p i r h s (code.make n e m) =
      let made : ℕ → ℕ → Config = λ x y. set_name (with_pool (passes c p r) (with_made c.transactions.pool x y)) p h n (value.Pay (Some (length c.transactions.pool))) in
      ok c (val h e) (λ v. on_ok (val_if h m) (λ w. on_ok (size_within 1 (bits v)) (λ x. on_ok (size_within 0 (size_or w)) (λ y. on_ok (may_make c) (λ u. Ok (made x y)))))) (λ v.
      ok c (val_if h m) (λ w. on_ok (size_within 1 (bits v)) (λ x. on_ok (size_within 0 (size_or w)) (λ y. on_ok (may_make c) (λ u. Ok (made x y))))) (λ w.
      ok c (size_within 1 (bits v)) (λ x. on_ok (size_within 0 (size_or w)) (λ y. on_ok (may_make c) (λ u. Ok (made x y)))) (λ x.
      ok c (size_within 0 (size_or w)) (λ y. on_ok (may_make c) (λ u. Ok (made x y))) (λ y.
      ok c (may_make c) (λ u. Ok (made x y)) (λ u. name_near (with_pool (passes c p r) (with_made c.transactions.pool x y)) p h n (value.Pay (Some (length c.transactions.pool))) (stays c))))))
  statement_near p i r h s (code.acquire n) =
      ok c (payload_number h n) (λ t. on_ok (live_payload c t) (λ q. Ok (with_pool (passes c p r) (with_acquired c.transactions.pool t)))) (λ t.
      ok c (live_payload c t) (λ q. Ok (with_pool (passes c p r) (with_acquired c.transactions.pool t))) (λ q. stays c))
  statement_near p i r h s (code.release n) =
      ok c (payload_number h n) (λ t. on_ok (live_payload c t) (λ q. Ok (with_pool (passes c p r) (with_released c.transactions.pool t)))) (λ t.
      ok c (live_payload c t) (λ q. Ok (with_pool (passes c p r) (with_released c.transactions.pool t))) (λ q. stays c))
  statement_near p i r h s (code.carry n m) =
      let after : ℕ → Payload → Config = λ t q. set_payload (set_memory (passes c p r) (memory_number (denotes h m)) (memory_after q (memory_here h m))) t (carried q (memory_here h m)) in
      ok c (payload_number h n) (λ t. on_ok (live_payload c t) (λ q. Ok (after t q))) (λ t.
      ok c (live_payload c t) (λ q. Ok (after t q)) (λ q. memory_near (passes c p r) (memory_number (denotes h m)) (memory_after q (memory_here h m)) (stays c)))
  statement_near p i r h s (code.b_transport socket n d) = b_transport_near p r h s n d (socket_of (denotes h socket))
  statement_near p i r h s (code.qk_global e) = ok c (val h e) (λ v. Ok (with_global (passes c p r) (moment v))) (λ v. stays c)
  statement_near p i r h s (code.spawn x) =
      ok c (first_arguments h (locals_in (body_at (arena c) x.function)) 0 x.arguments) (λ vs. on_ok (may_spawn c) (λ u. Ok (spawns (passes c p r) p h x vs))) (λ vs.
      ok c (may_spawn c) (λ u. Ok (spawns (passes c p r) p h x vs)) (λ u. spawns_near (passes c p r) p h x vs (stays c)))
  statement_near p i r h s (code.control x who false) = ok c (target_of h p who) (λ q. control_call (passes c p r) q x) (λ q. control_near (passes c p r) q x (stays c))
  statement_near p i r h s (code.control x who true) = ok c (target_of h p who) (λ q. Ok (with_owed c p r s (targets c q p))) (λ q. stays c)
  statement_near p i r h s (code.throw_it who e false) = ok c (target_of h p who) (λ q. throw_call (passes c p r) q e) (λ q. throw_near (passes c p r) q e (stays c))
  statement_near p i r h s (code.throw_it who e true) = ok c (target_of h p who) (λ q. Ok (with_owed c p r s (targets c q p))) (λ q. stays c)
  statement_near p i r h s (code.throw e) = thrown_near c p r e (stays c)
  statement_near p i r h s (code.return_ e) = ok c (val_if h e) (λ v. Ok (with_marks (with_residual c p (returned (cut_answer (answer_type (arena c) (innermost r)) v) r)) (return_marks p r))) (λ v. (stays c))
  statement_near p i r h s code.stop = stays c
  statement_near p i r h s (code.if_ e b o) = ok c (val h e) (λ v. Ok (with_residual c p (put r (chosen c (truth v) b o)))) (λ v. (stays c))
  statement_near p i r h s (code.while_ e b) = ok c (val h e) (λ v. Ok (with_residual c p (put r (looped c (truth v) s b)))) (λ v. (stays c))
  statement_near p i r h s (code.guard b u) = stays c
  statement_near p i r h s (code.try_ b handlers) = stays c
  statement_near p i r h s other = search (ok, on_keeper_near, kept_near, keeper_near, past p r)

  -- ---- calls that end

  given_near : (d : Config) (p : ℕ) (h : Here) (x : Frame) (i : ℕ) (arguments : List ArgumentTerm) → Near c d → Near c (given_back d p h x i arguments)
  given_near d p h x i [] k = k
  given_near d p h x i (code.by_value e ∷ more) k = given_near d p h x (suc i) more k
  given_near d p h x i (code.inout n ∷ more) k = given_near (set_name d p h n (final_value x i (value.Bool false))) p h x (suc i) more (name_near d p h n (final_value x i (value.Bool false)) k)

  ended_near : (d : Config) (p : ℕ) (h : Here) (x : Frame) (target : Option Target) (arguments : List ArgumentTerm) → Near c d → Near c (call_ends d p h x target arguments)
  ended_near d p h x target arguments k = stored_if_near (given_back d p h x 0 arguments) p h target (answer_of (arena d) x) (given_near d p h x 0 arguments k)

  b_ends_near : (d : Config) (p : ℕ) (h : Here) (x : Frame) (delay : NameUse) (o : Option Via) → Near c d → NearIfOk c (via_ends d o (λ via. b_transport_ends d p h x via delay))
  b_ends_near d p h x delay None k = k
  b_ends_near d p h x delay (Some via) k =
      let e = BReturn via.payload (complete_now d via.payload) in
      returned_then d via.hop e via.payload (broken (history d via.hop) e) (λ y. Ok (set_name y p h delay (final_value x 1 (value.Moment 0))))
      (name_near (with_entry d via.hop e) p h delay (final_value x 1 (value.Moment 0)) k)

  nb_ends_near : (d : Config) (p : ℕ) (h : Here) (x : Frame) (target : Option Target) (phase delay : NameUse) (o : Option Via) → Near c d → NearIfOk c (via_ends d o (λ via. nb_transport_ends d p h x via target phase delay))
  nb_ends_near d p h x target phase delay None k = k
  nb_ends_near d p h x target phase delay (Some via) k =
      let e = Return via.payload (int_of (answer_of (arena d) x)) (int_of (final_value x 1 (value.Int 32 0))) (complete_now d via.payload) in
      let y = with_entry d via.hop e in
      let z = set_name y p h phase (final_value x 1 (value.Int 32 0)) in
      returned_then d via.hop e via.payload (broken (history d via.hop) e)
      (λ y. Ok (stored_if (set_name (set_name y p h phase (final_value x 1 (value.Int 32 0))) p h delay (final_value x 2 (value.Moment 0))) p h target (answer_of (arena d) x)))
      (stored_if_near (set_name z p h delay (final_value x 2 (value.Moment 0))) p h target (answer_of (arena d) x)
      (name_near z p h delay (final_value x 2 (value.Moment 0)) (name_near y p h phase (final_value x 1 (value.Int 32 0)) k)))

  hands_near : (d : Config) (p : ℕ) (h : Here) (x : Frame) (y : Statement) → Near c d → NearIfOk c (hands_back d p h x y)
  hands_near d p h x (code.call target f arguments) k = ended_near d p h x target arguments k
  hands_near d p h x (code.nb_transport target socket n phase delay) k = nb_ends_near d p h x target phase delay x.via k
  hands_near d p h x (code.b_transport socket n delay) k = b_ends_near d p h x delay x.via k
  hands_near d p h x other k = k

  handed_near : (d : Config) (p : ℕ) (h : Here) (x : Frame) (o : Option Statement) → Near c d → NearIfOk c (handed_back d p h x o)
  handed_near d p h x None k = k
  handed_near d p h x (Some y) k = hands_near d p h x y k

  -- ---- the step

  owed_call_near : (d : Config) (q : ℕ) (x : Statement) → Near c d → NearIfOk c (owed_call d q x)
  owed_call_near d q (code.control x who all) k = control_near d q x k
  owed_call_near d q (code.throw_it who e all) k = throw_near d q e k
  owed_call_near d q other k = k

  owed_near : (d : Config) (q : ℕ) (o : Option Statement) → Near c d → NearIfOk c (owed_by d q o)
  owed_near d q None k = k
  owed_near d q (Some x) k = owed_call_near d q x k

  on_statement_near : (p : ℕ) (i : Instance) (r : Residual) (s : ℕ) (o : Option Statement) → NearIfOk c (on_statement c p i r s o)
  on_statement_near p i r s None = stays c
  on_statement_near p i r s (Some x) = statement_near p i r (here c p i r) s x

  next_near : (p : ℕ) (i : Instance) (r : Residual) (x : Next) → NearIfOk c (do_next c p i r x)
  next_near p i r (residual.statement s) = on_statement_near p i r s (statement_at (arena c) s)
  next_near p i r (residual.owes s q) = owed_near (with_residual c p (taken_off r)) q (statement_at (arena c) s) (stays c)
  next_near p i r (residual.leaves x) = handed_near (passes c p r) p (here (passes c p r) p i (put r skip)) x (calling_statement c x.call) (stays c)
  next_near p i r residual.done = done_near p i i.kind
  next_near p i r (residual.reaches k) = goal_near p i r k
  next_near p i r residual.nothing = done_near p i i.kind

step_by_near : (c : Config) (p : ℕ) (o : Option Instance) → NearIfOk c (step_by c p o)
step_by_near c p None = stays c
step_by_near c p (Some i) = next_near (settled_in c p i.residual) p (record i { residual = settle (arena c) i.residual }) (settle (arena c) i.residual) (next_of (settle (arena c) i.residual))

pub step-near : (c : Config) (p : ℕ) → NearIfOk c (statement_step c p)
step-near c p = step_by_near c p (instance_at c p)
