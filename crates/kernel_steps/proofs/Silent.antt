-- A step by any form keeps the design and the script's rest, and tells nothing, but for a print.
use Rattle.std.proofs.Common.{◌≡◌, ◌||◌, ◌&&◌, ◌+◌, ◌++◌, not, ℕ, suc, Bool, true, false, List, [], ◌∷◌, Option, Some, None, Result, Ok, Err, refl, true≢false}
use Rattle.std.specs.Prelude.{◌==◌, if◌then◌else◌, slice_get, slice_set, length, is_some}
use Rattle.exec_channels.specs.EventCore.declared.event.Ev.{Ev}
use Rattle.exec_channels.specs.EventCore.declared.event.Ev.TheVariants as ev
use Rattle.exec_channels.specs.EventCore.declared.notifications.When.TheVariants as when
use Rattle.exec_channels.specs.LogicValues.Integers.{bits_of}
use Rattle.exec_channels.specs.LogicValues.declared.kinds.Value.{Value}
use Rattle.exec_channels.specs.LogicValues.declared.kinds.Value.TheVariants as value
use Rattle.exec_channels.specs.FifoSync.Fifos.{Queued, free, readable, after_read, after_write}
use Rattle.exec_channels.specs.FifoSync.Locks.{answer, is_unlocked, is_owner, locked_by, unlocked_by, is_used_up}
use Rattle.exec_channels.specs.TransportPhases.History.{Entry, Call, BCall, Left, broken}
use Rattle.exec_channels.specs.TransportPhases.declared.phases.Rule.{Rule}
use Rattle.exec_channels.specs.PayloadPool.Transfer.{carried, memory_after}
use Rattle.exec_channels.specs.PayloadPool.declared.payload.Payload.{Payload}
use Rattle.exec_channels.specs.QuantumKeeper.declared.keeper.Keeper.{Keeper}
use Rattle.exec_channels.specs.ModelTree.declared.statements.Control.{Control}
use Rattle.exec_channels.specs.ModelTree.declared.statements.Control.TheVariants as control
use Rattle.exec_channels.specs.SignalChannel.Signals.{conflict_of}
use Rattle.exec_channels.specs.SignalChannel.declared.signal.Signal.{Signal}
use Rattle.exec_channels.specs.SignalChannel.declared.signal.WriterConflict.{WriterConflict}
use Rattle.exec_channels.specs.ModelTree.declared.items.ProcessKind.{ProcessKind}
use Rattle.exec_channels.specs.ModelTree.declared.items.ProcessKind.TheVariants as process
use Rattle.flat_design.specs.Code as code
use Rattle.flat_design.specs.Code.{Term, Statement, DestinationTerm, ChannelTerm, ArgumentTerm, SpawnTerm, body_at}
use Rattle.flat_design.specs.declared.code.Controlled.{Controlled}
use Rattle.flat_design.specs.declared.code.Store.{Store as Target}
use Rattle.flat_design.specs.declared.faults.RunFault.{RunFault}
use Rattle.flat_design.specs.declared.faults.RunFault.TheVariants as fault
use Rattle.flat_design.specs.declared.names.NameUse.{NameUse}
use Rattle.flat_design.specs.declared.names.NameUse.TheVariants as name_use
use Rattle.flat_design.specs.declared.names.EventMember.TheVariants as event
use Rattle.flat_design.specs.declared.design.Denoted.{Denoted}
use Rattle.flat_design.specs.declared.design.Denoted.TheVariants as denoted
use Rattle.flat_design.specs.declared.design.ChannelId.{ChannelId}
use Rattle.flat_design.specs.declared.design.ChannelId.TheVariants as channel
use Rattle.exec_channels.specs.SimModel.Values.{on_ok, bits, cut_to, index_within, moment, signed, truth}
use Rattle.exec_channels.specs.SimModel.Residual.{Residual, put, skip, innermost, goal, has_goal, taken_off}
use Rattle.exec_channels.specs.SimModel.Unwinding.{returned, return_marks, unw, catches, left_by_unw, left_by_raise, raise}
use Rattle.exec_channels.specs.SimModel.Configuration.{Config, Instance, Wait, waits_for_nothing, waits_statically, waits_for_any, waits_for_all, line, change_instance, with_residual, with_runnable, with_marks, with_told, instance_at, arena}
use Rattle.exec_channels.specs.SimModel.Reading.{Here, denotes, val, val_if, place_in, payload_number, live_payload, memory_here, memory_number}
use Rattle.exec_channels.specs.SimModel.Storing.{passes, bytes_in, set_local, set_name, set_denoted, set_memory, set_payload, with_field, with_byte, low_byte, first_value, stored, stored_if, chosen, looped, print_line, do_assign, do_print}
use Rattle.exec_channels.specs.SimModel.Waits.{is_active, is_among, holds, without, freed, joined, woken, struck, wake, wake_instance, left_of_all, reaches, reach_instance, fire_each, fire, leaves_stack, waits, notify}
use Rattle.exec_channels.specs.SimModel.Waiting.{awaited, channel_event, event_number, on_event, notified_now, cancelled, when_after}
use Rattle.exec_channels.specs.SimModel.Channels.{channel_in, blocks, set_fifo, set_mutex, set_semaphore, with_fifo, taken_from, written_unless, write_signal, write_fifo, write_channel, read_value, read_fifo, fifo_here, fifo_of, mutex_of, semaphore_of, nb_read_value, nb_read_fifo, nb_write_fifo, answered, lock_mutex, lock_at, trylock_mutex, trylock_at, unlock_mutex, unlock_at, sem_wait_value, sem_wait_at, sem_trywait_value, sem_trywait_at, post_value, post_at}
use Rattle.exec_channels.specs.SimModel.Calls.{locals_in, argument_values, may_enter, enters, with_entry, with_left, thrown, cut_answer, answer_type, first_arguments, may_spawn, new_instance, added, runnable_unless, handle_stored, spawns, do_call, do_spawn}
use Rattle.exec_channels.specs.SimModel.Payloads.{Payloads, with_made, with_acquired, with_released}
use Rattle.exec_channels.specs.SimModel.Transport.{with_pool, size_within, size_or, may_make, do_make, do_carry, socket_of, history, is_complete, judged_by, judged, blocking_handler, nonblocking_handler, path_of_call, may_enter_handler, enters_handler, int_of, value_named, b_transport_on, nb_transport_on, with_global, with_keeper, kept, on_keeper}
use Rattle.exec_channels.specs.SimModel.Control.{is_top, is_below_top, is_thread, with_kept, yields, suspends, resumes, pushed, pushed_unless_top, unwinds, ends_or_restarts, injected, throws_at, controlled_by, unless_ended, control_call, throw_call, target_of, targets, with_owed, do_control, do_throw_it, ended_instance, ends, begins, stays_kept, restarts, reaches_goal, done_by}
use Rattle.exec_channels.specs.SimModel.Statements.{do_statement}
use Rattle.exec_channels.specs.SimModel.declared.plain.Goal.{Goal}
use Rattle.exec_channels.specs.SimModel.declared.plain.Goal.TheVariants as goal_of
use Rattle.exec_channels.specs.SimModel.declared.plain.Via.{Via}
use Rattle.kernel_steps.specs.FrameConditions.{Quiet, QuietIfOk, Keeps, is_print}

-- ---- parts

abbrev pub KeepsIfOk : Config → Result Config RunFault → Type 0
KeepsIfOk c (Ok d) = Keeps c d
KeepsIfOk c (Err f) = Unit {0}

pub ok : {A : Type 0} (c : Config) (x : Result A RunFault) (f : A → Result Config RunFault) → ((a : A) → QuietIfOk c (f a)) → QuietIfOk c (on_ok x f)
ok c (Ok a) f each = each a
ok c (Err e) f each = tt

pub either : (c d e : Config) (b : Bool) → Quiet c d → Quiet c e → Quiet c (if b then d else e)
either c d e true first second = first
either c d e false first second = second

-- ---- events

module _ (c : Config) where
  woken_quiet : (d : Config) (p : ℕ) (i : Instance) → Quiet c d → Quiet c (woken d p i)
  woken_quiet d p i k = either c (change_instance d p (λ j. record (freed j) { kept = true })) (with_runnable (change_instance d p freed) (joined d.processes.runnable p)) i.suspended k k

  pub wake_quiet : (d : Config) (p : ℕ) (o : Option Instance) → Quiet c d → Quiet c (wake_instance d p o)
  wake_quiet d p None k = k
  wake_quiet d p (Some i) k = either c d (woken d p i) ((i.ended || is_active d p) || i.disabled) k (woken_quiet d p i k)

  left_quiet : (d : Config) (p : ℕ) (es : List Ev) → Quiet c d → Quiet c (left_of_all d p es)
  left_quiet d p [] k = wake_quiet d p (instance_at d p) k
  left_quiet d p (e ∷ es) k = k

  reaches_quiet : (d : Config) (e : Ev) (p : ℕ) (i : Instance) (w : Wait) → Quiet c d → Quiet c (reaches d e p i w)
  reaches_quiet d e p i waits_for_nothing k = k
  reaches_quiet d e p i waits_statically k = either c (wake d p) d (is_among e i.static) (wake_quiet d p (instance_at d p) k) k
  reaches_quiet d e p i (waits_for_any es) k = either c (wake d p) d (is_among e es) (wake_quiet d p (instance_at d p) k) k
  reaches_quiet d e p i (waits_for_all es) k = either c (left_of_all d p (struck e es)) d (is_among e es) (left_quiet d p (struck e es) k) k

  reach_quiet : (d : Config) (e : Ev) (p : ℕ) (o : Option Instance) → Quiet c d → Quiet c (reach_instance d e p o)
  reach_quiet d e p None k = k
  reach_quiet d e p (Some i) k = either c d (reaches d e p i i.wait) i.disabled k (reaches_quiet d e p i i.wait k)

  fire_each_quiet : (e : Ev) (p : ℕ) (is : List Instance) (d : Config) → Quiet c d → Quiet c (fire_each e p is d)
  fire_each_quiet e p [] d k = k
  fire_each_quiet e p (i ∷ is) d k = fire_each_quiet e (suc p) is (reach_instance d e p (instance_at d p)) (reach_quiet d e p (instance_at d p) k)

  pub fire_quiet : (d : Config) (e : Ev) → Quiet c d → Quiet c (fire d e)
  fire_quiet d e k = fire_each_quiet e 0 d.processes.instances d k

  -- ---- values that are stored

  denoted_quiet : (d : Config) (x : Denoted) (v : Value) → Quiet c d → Quiet c (set_denoted d x v)
  denoted_quiet d denoted.Nothing v k = k
  denoted_quiet d (denoted.Channel ch) v k = k
  denoted_quiet d (denoted.Event e) v k = k
  denoted_quiet d (denoted.Keeper n) v k = k
  denoted_quiet d (denoted.Memory m) v k = k
  denoted_quiet d (denoted.Variable n) v k = k
  denoted_quiet d (denoted.Port n) v k = k
  denoted_quiet d (denoted.Process p) v k = k
  denoted_quiet d (denoted.Socket hop forward) v k = k

  pub name_quiet : (d : Config) (p : ℕ) (h : Here) (n : NameUse) (v : Value) → Quiet c d → Quiet c (set_name d p h n v)
  name_quiet d p h (name_use.Local n) v k = k
  name_quiet d p h (name_use.Declared n) v k = denoted_quiet d (denotes h n) v k

  stored_quiet : (d : Config) (p : ℕ) (h : Here) (t : Target) (v : Value) → Quiet c d → Quiet c (stored d p h t v)
  stored_quiet d p h t v k = name_quiet d p h t.name (cut_to t.value_type v) k

  pub stored_if_quiet : (d : Config) (p : ℕ) (h : Here) (o : Option Target) (v : Value) → Quiet c d → Quiet c (stored_if d p h o v)
  stored_if_quiet d p h None v k = k
  stored_if_quiet d p h (Some t) v k = stored_quiet d p h t v k

  memory_quiet : (d : Config) (m : Option ℕ) (bytes : List ℕ) → Quiet c d → Quiet c (set_memory d m bytes)
  memory_quiet d None bytes k = k
  memory_quiet d (Some m) bytes k = k

  -- ---- statements of data

  module _ (p : ℕ) (r : Residual) (h : Here) where
    assign_quiet : (to : DestinationTerm) (e : Term) → QuietIfOk c (do_assign c p r h to e)
    assign_quiet (code.to_name t) e = ok c (val h e) (λ v. Ok (stored (passes c p r) p h t v)) (λ v. stored_quiet (passes c p r) p h t v refl)
    assign_quiet (code.to_field n f) e =
        ok c (val h e) (λ v. on_ok (payload_number h n) (λ t. on_ok (live_payload c t) (λ q. Ok (set_payload (passes c p r) t (with_field f v q))))) (λ v.
        ok c (payload_number h n) (λ t. on_ok (live_payload c t) (λ q. Ok (set_payload (passes c p r) t (with_field f v q)))) (λ t.
        ok c (live_payload c t) (λ q. Ok (set_payload (passes c p r) t (with_field f v q))) (λ q. refl)))
    assign_quiet (code.to_element n index) e =
        ok c (val h index) (λ i. on_ok (val h e) (λ v. on_ok (index_within (bits i) (length (memory_here h n))) (λ k. Ok (set_memory (passes c p r) (memory_number (denotes h n)) (slice_set (memory_here h n) k (low_byte v)))))) (λ i.
        ok c (val h e) (λ v. on_ok (index_within (bits i) (length (memory_here h n))) (λ k. Ok (set_memory (passes c p r) (memory_number (denotes h n)) (slice_set (memory_here h n) k (low_byte v))))) (λ v.
        ok c (index_within (bits i) (length (memory_here h n))) (λ k. Ok (set_memory (passes c p r) (memory_number (denotes h n)) (slice_set (memory_here h n) k (low_byte v)))) (λ k.
        memory_quiet (passes c p r) (memory_number (denotes h n)) (slice_set (memory_here h n) k (low_byte v)) refl)))
    assign_quiet (code.to_payload_byte n b index) e =
        ok c (val h index) (λ i. on_ok (val h e) (λ v. on_ok (payload_number h n) (λ t. on_ok (live_payload c t) (λ q. on_ok (index_within (bits i) (length (bytes_in b q))) (λ k. Ok (set_payload (passes c p r) t (with_byte b k (low_byte v) q))))))) (λ i.
        ok c (val h e) (λ v. on_ok (payload_number h n) (λ t. on_ok (live_payload c t) (λ q. on_ok (index_within (bits i) (length (bytes_in b q))) (λ k. Ok (set_payload (passes c p r) t (with_byte b k (low_byte v) q)))))) (λ v.
        ok c (payload_number h n) (λ t. on_ok (live_payload c t) (λ q. on_ok (index_within (bits i) (length (bytes_in b q))) (λ k. Ok (set_payload (passes c p r) t (with_byte b k (low_byte v) q))))) (λ t.
        ok c (live_payload c t) (λ q. on_ok (index_within (bits i) (length (bytes_in b q))) (λ k. Ok (set_payload (passes c p r) t (with_byte b k (low_byte v) q)))) (λ q.
        ok c (index_within (bits i) (length (bytes_in b q))) (λ k. Ok (set_payload (passes c p r) t (with_byte b k (low_byte v) q))) (λ k. refl)))))

    -- ---- statements of events

    on_event_quiet : (o : Option ℕ) (f : ℕ → Config) → ((e : ℕ) → Quiet c (f e)) → Quiet c (on_event (passes c p r) o f)
    on_event_quiet None f each = refl
    on_event_quiet (Some e) f each = each e

    -- ---- statements on channels

    signal_quiet : (n : ℕ) (v : Value) (s : Signal) (o : Option WriterConflict) → QuietIfOk c (written_unless (passes c p r) n s v p o)
    signal_quiet n v s None = refl
    signal_quiet n v s (Some w) = tt

    write_signal_quiet : (n : ℕ) (v : Value) (o : Option Signal) → QuietIfOk c (write_signal (passes c p r) n v p o)
    write_signal_quiet n v None = refl
    write_signal_quiet n v (Some s) = signal_quiet n v s (conflict_of (Some p) s.writer)

    write_fifo_quiet : (n : ℕ) (ch : ChannelId) (v : Value) (o : Option Queued) → Quiet c (write_fifo c p r n ch v o)
    write_fifo_quiet n ch v None = refl
    write_fifo_quiet n ch v (Some q) = either c (blocks c p r (channel_event event.DataRead ch)) (set_fifo (passes c p r) n (after_write q v)) (free q == 0) refl refl

    write_quiet : (v : Value) (ch : ChannelId) → QuietIfOk c (write_channel c p r v ch)
    write_quiet v (channel.Signal n events) = write_signal_quiet n v (slice_get c.channels.signals n)
    write_quiet v (channel.Resolved n events) = refl
    write_quiet v (channel.Fifo n events) = write_fifo_quiet n (channel.Fifo n events) v (slice_get c.channels.fifos n)
    write_quiet v (channel.Mutex n events) = refl
    write_quiet v (channel.Semaphore n events) = refl

    -- the place, the channel, and then what is done with it
    tried_quiet : (t : ChannelTerm) (f : ChannelId → Config) → ((ch : ChannelId) → Quiet c (f ch)) → QuietIfOk c (on_ok (place_in h t.place) (λ k. on_ok (channel_in h t k) (λ ch. Ok (f ch))))
    tried_quiet t f each = ok c (place_in h t.place) (λ k. on_ok (channel_in h t k) (λ ch. Ok (f ch))) (λ k. ok c (channel_in h t k) (λ ch. Ok (f ch)) each)

    with_fifo_quiet : (d : Config) (o : Option ℕ) (q : Queued) → Quiet c d → Quiet c (with_fifo d o q)
    with_fifo_quiet d None q k = k
    with_fifo_quiet d (Some n) q k = k

    read_value_quiet : (x : Option Target) (ch : ChannelId) (q : Queued) (o : Option Value) → Quiet c (read_value c p r h x ch q o)
    read_value_quiet x ch q None = refl
    read_value_quiet x ch q (Some v) = stored_if_quiet (with_fifo (passes c p r) (fifo_of ch) (after_read q)) p h x v (with_fifo_quiet (passes c p r) (fifo_of ch) (after_read q) refl)

    read_quiet : (x : Option Target) (ch : ChannelId) (o : Option Queued) → Quiet c (read_fifo c p r h x ch o)
    read_quiet x ch None = refl
    read_quiet x ch (Some q) = read_value_quiet x ch q (readable q)

    nb_read_value_quiet : (x : Option Target) (y : Target) (ch : ChannelId) (q : Queued) (o : Option Value) → Quiet c (nb_read_value c p r h x y ch q o)
    nb_read_value_quiet x y ch q None = stored_if_quiet (passes c p r) p h x (value.Bool false) refl
    nb_read_value_quiet x y ch q (Some v) =
        let d = with_fifo (passes c p r) (fifo_of ch) (after_read q) in
        stored_quiet (stored_if d p h x (value.Bool true)) p h y v (stored_if_quiet d p h x (value.Bool true) (with_fifo_quiet (passes c p r) (fifo_of ch) (after_read q) refl))

    nb_read_quiet : (x : Option Target) (y : Target) (ch : ChannelId) (o : Option Queued) → Quiet c (nb_read_fifo c p r h x y ch o)
    nb_read_quiet x y ch None = refl
    nb_read_quiet x y ch (Some q) = nb_read_value_quiet x y ch q (readable q)

    nb_write_quiet : (x : Option Target) (ch : ChannelId) (v : Value) (o : Option Queued) → Quiet c (nb_write_fifo c p r h x ch v o)
    nb_write_quiet x ch v None = refl
    nb_write_quiet x ch v (Some q) =
        let d = with_fifo (passes c p r) (fifo_of ch) (after_write q v) in
        either c (stored_if (passes c p r) p h x (value.Bool false)) (stored_if d p h x (value.Bool true)) (free q == 0)
        (stored_if_quiet (passes c p r) p h x (value.Bool false) refl) (stored_if_quiet d p h x (value.Bool true) (with_fifo_quiet (passes c p r) (fifo_of ch) (after_write q v) refl))

    answered_quiet : (d : Config) (x : Option Target) (done : Bool) → Quiet c d → Quiet c (answered d p h x done)
    answered_quiet d x done k = stored_if_quiet d p h x (signed (bits_of (answer done))) k

    lock_mutex_quiet : (n : ℕ) (ch : ChannelId) (o : Option (Option ℕ)) → Quiet c (lock_mutex c p r n ch o)
    lock_mutex_quiet n ch None = refl
    lock_mutex_quiet n ch (Some m) = either c (set_mutex (passes c p r) n (locked_by p m)) (blocks c p r (channel_event event.Own ch)) (is_unlocked m) refl refl

    lock_quiet : (ch : ChannelId) (o : Option ℕ) → Quiet c (lock_at c p r ch o)
    lock_quiet ch None = refl
    lock_quiet ch (Some n) = lock_mutex_quiet n ch (slice_get c.channels.mutexes n)

    trylock_mutex_quiet : (x : Option Target) (n : ℕ) (o : Option (Option ℕ)) → Quiet c (trylock_mutex (passes c p r) p h x n o)
    trylock_mutex_quiet x n None = refl
    trylock_mutex_quiet x n (Some m) = answered_quiet (set_mutex (passes c p r) n (locked_by p m)) x (is_unlocked m) refl

    trylock_quiet : (x : Option Target) (o : Option ℕ) → Quiet c (trylock_at (passes c p r) p h x o)
    trylock_quiet x None = refl
    trylock_quiet x (Some n) = trylock_mutex_quiet x n (slice_get c.channels.mutexes n)

    unlock_mutex_quiet : (x : Option Target) (n : ℕ) (ch : ChannelId) (o : Option (Option ℕ)) → Quiet c (unlock_mutex (passes c p r) p h x n ch o)
    unlock_mutex_quiet x n ch None = refl
    unlock_mutex_quiet x n ch (Some m) =
        let d = fire (set_mutex (passes c p r) n (unlocked_by p m)) (channel_event event.Own ch) in
        either c (answered d p h x true) (answered (passes c p r) p h x false) (is_owner p m)
        (answered_quiet d x true (fire_quiet (set_mutex (passes c p r) n (unlocked_by p m)) (channel_event event.Own ch) refl)) (answered_quiet (passes c p r) x false refl)

    unlock_quiet : (x : Option Target) (ch : ChannelId) (o : Option ℕ) → Quiet c (unlock_at (passes c p r) p h x ch o)
    unlock_quiet x ch None = refl
    unlock_quiet x ch (Some n) = unlock_mutex_quiet x n ch (slice_get c.channels.mutexes n)

    sem_value_quiet : (n : ℕ) (ch : ChannelId) (o : Option ℕ) → Quiet c (sem_wait_value c p r n ch o)
    sem_value_quiet n ch None = refl
    sem_value_quiet n ch (Some v) = either c (blocks c p r (channel_event event.Own ch)) (set_semaphore (passes c p r) n (taken_from v)) (is_used_up v) refl refl

    sem_wait_quiet : (ch : ChannelId) (o : Option ℕ) → Quiet c (sem_wait_at c p r ch o)
    sem_wait_quiet ch None = refl
    sem_wait_quiet ch (Some n) = sem_value_quiet n ch (slice_get c.channels.semaphores n)

    trywait_value_quiet : (x : Option Target) (n : ℕ) (o : Option ℕ) → Quiet c (sem_trywait_value (passes c p r) p h x n o)
    trywait_value_quiet x n None = refl
    trywait_value_quiet x n (Some v) =
        either c (answered (passes c p r) p h x false) (answered (set_semaphore (passes c p r) n (taken_from v)) p h x true) (is_used_up v)
        (answered_quiet (passes c p r) x false refl) (answered_quiet (set_semaphore (passes c p r) n (taken_from v)) x true refl)

    trywait_quiet : (x : Option Target) (o : Option ℕ) → Quiet c (sem_trywait_at (passes c p r) p h x o)
    trywait_quiet x None = refl
    trywait_quiet x (Some n) = trywait_value_quiet x n (slice_get c.channels.semaphores n)

    post_value_quiet : (n : ℕ) (ch : ChannelId) (o : Option ℕ) → Quiet c (post_value (passes c p r) n ch o)
    post_value_quiet n ch None = refl
    post_value_quiet n ch (Some v) = fire_quiet (set_semaphore (passes c p r) n (v + 1)) (channel_event event.Own ch) refl

    post_quiet : (ch : ChannelId) (o : Option ℕ) → Quiet c (post_at (passes c p r) ch o)
    post_quiet ch None = refl
    post_quiet ch (Some n) = post_value_quiet n ch (slice_get c.channels.semaphores n)

  -- ---- exceptions, goals and ends

  left_calls_quiet : (d : Config) (vs : List Via) → Quiet c d → Quiet c (with_left d vs)
  left_calls_quiet d [] k = k
  left_calls_quiet d (v ∷ vs) k = left_calls_quiet (with_entry d v.hop (Left v.payload)) vs k

  either_ok : (b : Bool) (x y : Result Config RunFault) → QuietIfOk c x → QuietIfOk c y → QuietIfOk c (if b then x else y)
  either_ok true x y first second = first
  either_ok false x y first second = second

  thrown_quiet : (d : Config) (p : ℕ) (r : Residual) (e : ℕ) → Quiet c d → QuietIfOk c (thrown d p r e)
  thrown_quiet d p r e k =
      let raised = with_residual d p (raise (arena d) r e goal_of.Thrown) in
      either_ok (catches r e) (Ok (with_left raised (left_by_raise r e))) (Err (fault.Uncaught e)) (left_calls_quiet raised (left_by_raise r e) k) tt

  ends_quiet : (p : ℕ) → Quiet c (ends c p)
  ends_quiet p = fire_quiet (leaves_stack (change_instance c p ended_instance)) (ev.Terminated p) refl

  pub done_quiet : (p : ℕ) (i : Instance) (kind : ProcessKind) → Quiet c (done_by c p i kind)
  done_quiet p i process.Thread = ends_quiet p
  done_quiet p i process.Method = refl

  restarts_quiet : (p : ℕ) (i : Instance) → Quiet c (restarts c p i)
  restarts_quiet p i =
      let d = fire (change_instance c p (λ j. record j { residual = skip; started = false })) (ev.Restarted p) in
      let k = fire_quiet (change_instance c p (λ j. record j { residual = skip; started = false })) (ev.Restarted p) refl in
      either c (stays_kept d p) (begins d p i) i.suspended k k

  pub goal_quiet : (p : ℕ) (i : Instance) (r : Residual) (g : Goal) → Quiet c (reaches_goal c p i r g)
  goal_quiet p i r goal_of.End = ends_quiet p
  goal_quiet p i r goal_of.Restart = restarts_quiet p i
  goal_quiet p i r goal_of.Thrown = refl
  goal_quiet p i r goal_of.Injected = either c (stays_kept (passes c p r) p) (passes c p r) i.suspended refl refl

  -- ---- control

  suspends_quiet : (d : Config) (q : ℕ) (i : Instance) → Quiet c d → Quiet c (suspends d q i)
  suspends_quiet d q i k =
      let e = change_instance d q (λ j. record j { suspended = true }) in
      either c (with_runnable (with_kept e q) (without e.processes.runnable q)) (if yields e q i then leaves_stack (with_kept e q) else e) (holds e.processes.runnable q) k
      (either c (leaves_stack (with_kept e q)) e (yields e q i) k k)

  resumes_quiet : (d : Config) (q : ℕ) (i : Instance) → Quiet c d → Quiet c (resumes d q i)
  resumes_quiet d q i k =
      let e = change_instance d q (λ j. record j { suspended = false; kept = false }) in
      either c (with_runnable e (d.processes.runnable ++ q ∷ [])) e i.kept k k

  unwinds_quiet : (d : Config) (q : ℕ) (i : Instance) (g : Goal) → Quiet c d → Quiet c (unwinds d q i g)
  unwinds_quiet d q i g k =
      let e = with_residual d q (goal (unw i.residual) g) in
      left_calls_quiet (pushed_unless_top e q) (left_by_unw i.residual) (either c e (pushed e q) (is_top e q) k k)

  ends_or_restarts_quiet : (d : Config) (q : ℕ) (i : Instance) (g : Goal) → Quiet c d → QuietIfOk c (ends_or_restarts d q i g)
  ends_or_restarts_quiet d q i g k =
      either_ok (is_below_top d q) (Err (fault.ControlOnActive q)) (if is_top d q && has_goal i.residual then Ok d else Ok (unwinds d q i g)) tt
      (either_ok (is_top d q && has_goal i.residual) (Ok d) (Ok (unwinds d q i g)) k (unwinds_quiet d q i g k))

  controlled_quiet : (d : Config) (q : ℕ) (i : Instance) (o : Control) → Quiet c d → QuietIfOk c (controlled_by d q i o)
  controlled_quiet d q i control.Suspend k = suspends_quiet d q i k
  controlled_quiet d q i control.Resume k = resumes_quiet d q i k
  controlled_quiet d q i control.Disable k = k
  controlled_quiet d q i control.Enable k = k
  controlled_quiet d q i control.Kill k = ends_or_restarts_quiet d q i goal_of.End k
  controlled_quiet d q i control.Reset k = ends_or_restarts_quiet d q i goal_of.Restart k

  unless_ended_quiet : (d : Config) (o : Option Instance) (f : Instance → Result Config RunFault) → Quiet c d → ((i : Instance) → QuietIfOk c (f i)) → QuietIfOk c (unless_ended d o f)
  unless_ended_quiet d None f k each = k
  unless_ended_quiet d (Some i) f k each = either_ok i.ended (Ok d) (f i) k (each i)

  injected_quiet : (d : Config) (q : ℕ) (i : Instance) (e : ℕ) → Quiet c d → QuietIfOk c (injected d q i e)
  injected_quiet d q i e k =
      let raised = pushed (with_residual d q (raise (arena d) i.residual e goal_of.Injected)) q in
      either_ok (not (is_thread i.kind) || not i.started) (Ok d) (if catches i.residual e then Ok (with_left raised (left_by_raise i.residual e)) else Err (fault.Uncaught e)) k
      (either_ok (catches i.residual e) (Ok (with_left raised (left_by_raise i.residual e))) (Err (fault.Uncaught e)) (left_calls_quiet raised (left_by_raise i.residual e) k) tt)

  throws_at_quiet : (d : Config) (q : ℕ) (i : Instance) (e : ℕ) → Quiet c d → QuietIfOk c (throws_at d q i e)
  throws_at_quiet d q i e k =
      either_ok (is_below_top d q) (Err (fault.ControlOnActive q)) (if is_top d q then (if has_goal i.residual then Ok d else thrown d q i.residual e) else injected d q i e) tt
      (either_ok (is_top d q) (if has_goal i.residual then Ok d else thrown d q i.residual e) (injected d q i e)
      (either_ok (has_goal i.residual) (Ok d) (thrown d q i.residual e) k (thrown_quiet d q i.residual e k)) (injected_quiet d q i e k))

  -- of a call that is owed
  pub owed_control_quiet : (p : ℕ) (r : Residual) (q : ℕ) (o : Control) → QuietIfOk c (control_call (with_residual c p (taken_off r)) q o)
  owed_control_quiet p r q o =
      let d = with_residual c p (taken_off r) in
      unless_ended_quiet d (instance_at d q) (λ i. controlled_by d q i o) refl (λ i. controlled_quiet d q i o refl)

  pub owed_throw_quiet : (p : ℕ) (r : Residual) (q e : ℕ) → QuietIfOk c (throw_call (with_residual c p (taken_off r)) q e)
  owed_throw_quiet p r q e =
      let d = with_residual c p (taken_off r) in
      unless_ended_quiet d (instance_at d q) (λ i. throws_at d q i e) refl (λ i. throws_at_quiet d q i e refl)

  module _ (p : ℕ) (r : Residual) (h : Here) where
    control_quiet : (s : ℕ) (o : Control) (who : Controlled) (all : Bool) → QuietIfOk c (do_control c p r h s o who all)
    control_quiet s o who true = ok c (target_of h p who) (λ q. Ok (with_owed c p r s (targets c q p))) (λ q. refl)
    control_quiet s o who false = ok c (target_of h p who) (λ q. control_call (passes c p r) q o) (λ q.
        unless_ended_quiet (passes c p r) (instance_at (passes c p r) q) (λ i. controlled_by (passes c p r) q i o) refl (λ i. controlled_quiet (passes c p r) q i o refl))

    throw_it_quiet : (s : ℕ) (who : Controlled) (e : ℕ) (all : Bool) → QuietIfOk c (do_throw_it c p r h s who e all)
    throw_it_quiet s who e true = ok c (target_of h p who) (λ q. Ok (with_owed c p r s (targets c q p))) (λ q. refl)
    throw_it_quiet s who e false = ok c (target_of h p who) (λ q. throw_call (passes c p r) q e) (λ q.
        unless_ended_quiet (passes c p r) (instance_at (passes c p r) q) (λ i. throws_at (passes c p r) q i e) refl (λ i. throws_at_quiet (passes c p r) q i e refl))

    -- ---- payloads and keepers

    make_quiet : (n : NameUse) (e : Term) (m : Option Term) → QuietIfOk c (do_make c p r h n e m)
    make_quiet n e m =
        let made = λ (x y : ℕ). set_name (with_pool (passes c p r) (with_made c.transactions.pool x y)) p h n (value.Pay (Some (length c.transactions.pool))) in
        ok c (val h e) (λ v. on_ok (val_if h m) (λ w. on_ok (size_within 1 (bits v)) (λ x. on_ok (size_within 0 (size_or w)) (λ y. on_ok (may_make c) (λ z. Ok (made x y)))))) (λ v.
        ok c (val_if h m) (λ w. on_ok (size_within 1 (bits v)) (λ x. on_ok (size_within 0 (size_or w)) (λ y. on_ok (may_make c) (λ z. Ok (made x y))))) (λ w.
        ok c (size_within 1 (bits v)) (λ x. on_ok (size_within 0 (size_or w)) (λ y. on_ok (may_make c) (λ z. Ok (made x y)))) (λ x.
        ok c (size_within 0 (size_or w)) (λ y. on_ok (may_make c) (λ z. Ok (made x y))) (λ y.
        ok c (may_make c) (λ z. Ok (made x y)) (λ z.
        name_quiet (with_pool (passes c p r) (with_made c.transactions.pool x y)) p h n (value.Pay (Some (length c.transactions.pool))) refl)))))

    held_quiet : (n : NameUse) (f : ℕ → Payloads) → QuietIfOk c (on_ok (payload_number h n) (λ t. on_ok (live_payload c t) (λ q. Ok (with_pool (passes c p r) (f t)))))
    held_quiet n f =
        ok c (payload_number h n) (λ t. on_ok (live_payload c t) (λ q. Ok (with_pool (passes c p r) (f t)))) (λ t.
        ok c (live_payload c t) (λ q. Ok (with_pool (passes c p r) (f t))) (λ q. refl))

    carry_quiet : (n : NameUse) (m : ℕ) → QuietIfOk c (do_carry c p r h n m)
    carry_quiet n m =
        let to = λ (t : ℕ) (q : Payload). set_payload (set_memory (passes c p r) (memory_number (denotes h m)) (memory_after q (memory_here h m))) t (carried q (memory_here h m)) in
        ok c (payload_number h n) (λ t. on_ok (live_payload c t) (λ q. Ok (to t q))) (λ t.
        ok c (live_payload c t) (λ q. Ok (to t q)) (λ q. memory_quiet (passes c p r) (memory_number (denotes h m)) (memory_after q (memory_here h m)) refl))

    with_keeper_quiet : (o : Option ℕ) (k : Keeper) → Quiet c (with_keeper (passes c p r) o k)
    with_keeper_quiet None k = refl
    with_keeper_quiet (Some n) k = refl

    kept_quiet : (o : Option ℕ) (k : Option Keeper) → QuietIfOk c (kept (passes c p r) o k)
    kept_quiet o None = tt
    kept_quiet o (Some k) = with_keeper_quiet o k

    on_keeper_quiet : (o : Option Keeper) (f : Keeper → Result Config RunFault) → ((k : Keeper) → QuietIfOk c (f k)) → QuietIfOk c (on_keeper (passes c p r) o f)
    on_keeper_quiet None f each = refl
    on_keeper_quiet (Some k) f each = each k

    -- ---- calls and spawned instances

    call_quiet : (s f : ℕ) (arguments : List ArgumentTerm) → QuietIfOk c (do_call c p r h s f arguments)
    call_quiet s f arguments =
        ok c (argument_values h (locals_in (body_at (arena c) f)) 0 arguments) (λ vs. on_ok (may_enter r) (λ z. Ok (enters c p r s f vs None))) (λ vs.
        ok c (may_enter r) (λ z. Ok (enters c p r s f vs None)) (λ z. refl))

    runnable_unless_quiet : (b : Bool) (q : ℕ) (d : Config) → Quiet c d → Quiet c (runnable_unless b q d)
    runnable_unless_quiet true q d k = k
    runnable_unless_quiet false q d k = k

    handle_quiet : (d : Config) (o : Option NameUse) (q : ℕ) → Quiet c d → Quiet c (handle_stored d p h o q)
    handle_quiet d None q k = k
    handle_quiet d (Some n) q k = name_quiet d p h n (value.Handle (Some q)) k

    spawn_quiet : (s : SpawnTerm) → QuietIfOk c (do_spawn c p r h s)
    spawn_quiet s =
        ok c (first_arguments h (locals_in (body_at (arena c) s.function)) 0 s.arguments) (λ vs. on_ok (may_spawn c) (λ z. Ok (spawns (passes c p r) p h s vs))) (λ vs.
        ok c (may_spawn c) (λ z. Ok (spawns (passes c p r) p h s vs)) (λ z.
        let n = length (passes c p r).processes.instances in
        let born = added (passes c p r) (new_instance (passes c p r) h s vs) in
        handle_quiet (runnable_unless s.dont_initialize n born) s.handle n (runnable_unless_quiet s.dont_initialize n born refl)))

    -- ---- transport calls

    judged_quiet : (d : Config) (hop : ℕ) (e : Entry) (t : ℕ) (f : Config → Result Config RunFault) → Quiet c d → ((x : Config) → Quiet c x → QuietIfOk c (f x)) → QuietIfOk c (on_ok (judged d hop e t) f)
    judged_quiet d hop e t f k each = by (broken (history d hop) e)
      where
        by : (o : Option Rule) → QuietIfOk c (on_ok (judged_by d hop e t o) f)
        by None = each (with_entry d hop e) k
        by (Some x) = tt

    handler_quiet : (x : Config) (s : ℕ) (o : Option ℕ) (args : List Value) (via : Via) → Quiet c x → Quiet c (enters_handler x p r s o args via)
    handler_quiet x s None args via k = k
    handler_quiet x s (Some f) args via k = k

    b_transport_quiet : (s : ℕ) (n d : NameUse) (o : Option (ℕ × Bool)) → QuietIfOk c (b_transport_on c p r h s n d o)
    b_transport_quiet s n d None = refl
    b_transport_quiet s n d (Some end) =
        let handler = blocking_handler (slice_get c.design.hops end.0) in
        let into = λ (t : ℕ) (x : Config). enters_handler x p r s handler (value.Pay (Some t) ∷ value_named h d ∷ []) (record { hop = end.0; forward = true; blocking = true; payload = t }) in
        ok c (payload_number h n) (λ t. on_ok (live_payload c t) (λ q. on_ok (may_enter_handler r handler) (λ z. on_ok (judged c end.0 (BCall t (is_some handler)) t) (λ x. Ok (into t x))))) (λ t.
        ok c (live_payload c t) (λ q. on_ok (may_enter_handler r handler) (λ z. on_ok (judged c end.0 (BCall t (is_some handler)) t) (λ x. Ok (into t x)))) (λ q.
        ok c (may_enter_handler r handler) (λ z. on_ok (judged c end.0 (BCall t (is_some handler)) t) (λ x. Ok (into t x))) (λ z.
        judged_quiet c end.0 (BCall t (is_some handler)) t (λ x. Ok (into t x)) refl (λ x k.
        handler_quiet x s handler (value.Pay (Some t) ∷ value_named h d ∷ []) (record { hop = end.0; forward = true; blocking = true; payload = t }) k))))

    nb_transport_quiet : (s : ℕ) (n ph d : NameUse) (o : Option (ℕ × Bool)) → QuietIfOk c (nb_transport_on c p r h s n ph d o)
    nb_transport_quiet s n ph d None = refl
    nb_transport_quiet s n ph d (Some end) =
        let handler = nonblocking_handler end.1 (slice_get c.design.hops end.0) in
        let entry = λ (t : ℕ) (q : Payload). Call t (path_of_call end.1) (int_of (value_named h ph)) (is_complete q) (is_some handler) in
        let into = λ (t : ℕ) (x : Config). enters_handler x p r s handler (value.Pay (Some t) ∷ value_named h ph ∷ value_named h d ∷ []) (record { hop = end.0; forward = end.1; blocking = false; payload = t }) in
        ok c (payload_number h n) (λ t. on_ok (live_payload c t) (λ q. on_ok (may_enter_handler r handler) (λ z. on_ok (judged c end.0 (entry t q) t) (λ x. Ok (into t x))))) (λ t.
        ok c (live_payload c t) (λ q. on_ok (may_enter_handler r handler) (λ z. on_ok (judged c end.0 (entry t q) t) (λ x. Ok (into t x)))) (λ q.
        ok c (may_enter_handler r handler) (λ z. on_ok (judged c end.0 (entry t q) t) (λ x. Ok (into t x))) (λ z.
        judged_quiet c end.0 (entry t q) t (λ x. Ok (into t x)) refl (λ x k.
        handler_quiet x s handler (value.Pay (Some t) ∷ value_named h ph ∷ value_named h d ∷ []) (record { hop = end.0; forward = end.1; blocking = false; payload = t }) k))))

  -- ---- all forms but a print

  pub statement_quiet : (p : ℕ) (i : Instance) (r : Residual) (h : Here) (s : ℕ) (x : Statement) → is_print x ≡ false → QuietIfOk c (do_statement c p i r h s x)
  statement_quiet p i r h s (code.var n t e) other = ok c (val_if h e) (λ v. Ok (set_local (passes c p r) p n (first_value t v))) (λ v. refl)
  statement_quiet p i r h s (code.assign to e) other = assign_quiet p r h to e
  statement_quiet p i r h s (code.call x f arguments) other = call_quiet p r h s f arguments
  statement_quiet p i r h s (code.read x ch) other = tried_quiet p r h ch (λ k. read_fifo c p r h x k (fifo_here c k)) (λ k. read_quiet p r h x k (fifo_here c k))
  statement_quiet p i r h s (code.nb_read x ch y) other = tried_quiet p r h ch (λ k. nb_read_fifo c p r h x y k (fifo_here c k)) (λ k. nb_read_quiet p r h x y k (fifo_here c k))
  statement_quiet p i r h s (code.nb_write x ch t e) other =
      ok c (place_in h ch.place) (λ k. on_ok (val h e) (λ v. on_ok (channel_in h ch k) (λ z. Ok (nb_write_fifo c p r h x z (cut_to t v) (fifo_here c z))))) (λ k.
      ok c (val h e) (λ v. on_ok (channel_in h ch k) (λ z. Ok (nb_write_fifo c p r h x z (cut_to t v) (fifo_here c z)))) (λ v.
      ok c (channel_in h ch k) (λ z. Ok (nb_write_fifo c p r h x z (cut_to t v) (fifo_here c z))) (λ z. nb_write_quiet p r h x z (cut_to t v) (fifo_here c z))))
  statement_quiet p i r h s (code.trylock x ch) other = tried_quiet p r h ch (λ k. trylock_at (passes c p r) p h x (mutex_of k)) (λ k. trylock_quiet p r h x (mutex_of k))
  statement_quiet p i r h s (code.unlock x ch) other = tried_quiet p r h ch (λ k. unlock_at (passes c p r) p h x k (mutex_of k)) (λ k. unlock_quiet p r h x k (mutex_of k))
  statement_quiet p i r h s (code.sem_trywait x ch) other = tried_quiet p r h ch (λ k. sem_trywait_at (passes c p r) p h x (semaphore_of k)) (λ k. trywait_quiet p r h x (semaphore_of k))
  statement_quiet p i r h s (code.nb_transport x socket n phase d) other = nb_transport_quiet p r h s n phase d (socket_of (denotes h socket))
  statement_quiet p i r h s (code.write ch t e) other =
      ok c (place_in h ch.place) (λ k. on_ok (val h e) (λ v. on_ok (channel_in h ch k) (write_channel c p r (cut_to t v)))) (λ k.
      ok c (val h e) (λ v. on_ok (channel_in h ch k) (write_channel c p r (cut_to t v))) (λ v.
      ok c (channel_in h ch k) (write_channel c p r (cut_to t v)) (write_quiet p r h (cut_to t v))))
  statement_quiet p i r h s (code.print text e) other = absurd (true≢false other)
  statement_quiet p i r h s (code.notify n) other = on_event_quiet p r h (event_number (denotes h n)) (notified_now (passes c p r)) (λ e. fire_quiet (notify (passes c p r) e when.Immediate) (ev.Fixed e) refl)
  statement_quiet p i r h s (code.notify_delta n) other = on_event_quiet p r h (event_number (denotes h n)) (λ e. notify (passes c p r) e when.Delta) (λ e. refl)
  statement_quiet p i r h s (code.notify_after n e) other =
      ok c (val h e) (λ v. on_ok (when_after c.cycle.now (moment v)) (λ w. Ok (on_event (passes c p r) (event_number (denotes h n)) (λ x. notify (passes c p r) x w)))) (λ v.
      ok c (when_after c.cycle.now (moment v)) (λ w. Ok (on_event (passes c p r) (event_number (denotes h n)) (λ x. notify (passes c p r) x w))) (λ w.
      on_event_quiet p r h (event_number (denotes h n)) (λ x. notify (passes c p r) x w) (λ x. refl)))
  statement_quiet p i r h s (code.cancel n) other = on_event_quiet p r h (event_number (denotes h n)) (cancelled (passes c p r)) (λ e. refl)
  statement_quiet p i r h s (code.wait w) other = ok c (awaited h w) (λ t. Ok (waits (passes c p r) p t.wait t.deadline)) (λ t. refl)
  statement_quiet p i r h s (code.next_trigger w) other = ok c (awaited h w) (λ t. Ok (change_instance (passes c p r) p (λ j. record j { trigger = Some t }))) (λ t. refl)
  statement_quiet p i r h s (code.lock ch) other = tried_quiet p r h ch (λ k. lock_at c p r k (mutex_of k)) (λ k. lock_quiet p r h k (mutex_of k))
  statement_quiet p i r h s (code.sem_wait ch) other = tried_quiet p r h ch (λ k. sem_wait_at c p r k (semaphore_of k)) (λ k. sem_wait_quiet p r h k (semaphore_of k))
  statement_quiet p i r h s (code.post ch) other = tried_quiet p r h ch (λ k. post_at (passes c p r) k (semaphore_of k)) (λ k. post_quiet p r h k (semaphore_of k))
  statement_quiet p i r h s (code.make n e m) other = make_quiet p r h n e m
  statement_quiet p i r h s (code.acquire n) other = held_quiet p r h n (λ t. with_acquired c.transactions.pool t)
  statement_quiet p i r h s (code.release n) other = held_quiet p r h n (λ t. with_released c.transactions.pool t)
  statement_quiet p i r h s (code.carry n m) other = carry_quiet p r h n m
  statement_quiet p i r h s (code.b_transport socket n d) other = b_transport_quiet p r h s n d (socket_of (denotes h socket))
  statement_quiet p i r h s (code.qk_global e) other = ok c (val h e) (λ v. Ok (with_global (passes c p r) (moment v))) (λ v. refl)
  statement_quiet p i r h s (code.spawn x) other = spawn_quiet p r h x
  statement_quiet p i r h s (code.control k who all) other = control_quiet p r h s k who all
  statement_quiet p i r h s (code.throw_it who e all) other = throw_it_quiet p r h s who e all
  statement_quiet p i r h s (code.throw e) other = thrown_quiet c p r e refl
  statement_quiet p i r h s (code.return_ e) other = ok c (val_if h e) (λ v. Ok (with_marks (with_residual c p (returned (cut_answer (answer_type (arena c) (innermost r)) v) r)) (return_marks p r))) (λ v. refl)
  statement_quiet p i r h s code.stop other = refl
  statement_quiet p i r h s (code.if_ e b o) other = ok c (val h e) (λ v. Ok (with_residual c p (put r (chosen c (truth v) b o)))) (λ v. refl)
  statement_quiet p i r h s (code.while_ e b) other = ok c (val h e) (λ v. Ok (with_residual c p (put r (looped c (truth v) s b)))) (λ v. refl)
  statement_quiet p i r h s (code.guard b u) other = refl
  statement_quiet p i r h s (code.try_ b handlers) other = refl
  statement_quiet p i r h s x other = search (ok, on_keeper_quiet p r h, kept_quiet p r h, with_keeper_quiet p r h)

  -- a print keeps the design and the script's rest
  pub print_keeps : (p : ℕ) (i : Instance) (r : Residual) (h : Here) (text : List ℕ) (e : Option Term) → KeepsIfOk c (do_print c p i r h text e)
  print_keeps p i r h text e = by (val_if h e)
    where
      by : (x : Result (Option Value) RunFault) → KeepsIfOk c (on_ok x (λ v. Ok (with_told (passes c p r) (line (print_line c.cycle.now i.path text v)))))
      by (Ok v) = (refl, refl)
      by (Err f) = tt
