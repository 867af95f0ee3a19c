-- A statement of another that fires no event of the static sensitivity of p leaves it waiting, or gives it a goal.
use Rattle.std.proofs.Common.{◌≡◌, ◌≢◌, ◌||◌, ◌&&◌, not, ℕ, suc, ◌==◌, ◌+◌, Bool, true, false, cond, List, [], ◌∷◌, ◌++◌, length, slice_get, Option, Some, None, refl}
use Rattle.std.specs.Prelude.{Result, Ok, Err, is_some}
use Rattle.std.specs.Result.{IfOk}
use Rattle.laws_runs.specs.LogicValues.declared.kinds.Value.{Value}
use Rattle.laws_runs.specs.LogicValues.declared.kinds.Value.TheVariants as value
use Rattle.laws_runs.specs.EventCore.declared.event.Ev.{Ev}
use Rattle.laws_runs.specs.EventCore.declared.event.Ev.TheVariants as ev
use Rattle.laws_runs.specs.EventCore.declared.notifications.When.TheVariants as when
use Rattle.laws_runs.specs.SignalChannel.declared.signal.Signal.{Signal}
use Rattle.laws_runs.specs.SignalChannel.declared.signal.WriterConflict.{WriterConflict}
use Rattle.laws_runs.specs.SignalChannel.Signals.{conflict_of}
use Rattle.laws_runs.specs.FifoSync.Fifos.{Queued, readable, free, after_read, after_write}
use Rattle.laws_runs.specs.FifoSync.Locks.{locked_by, unlocked_by, is_owner, is_used_up, is_unlocked}
use Rattle.laws_runs.specs.QuantumKeeper.declared.keeper.Keeper.{Keeper}
use Rattle.laws_runs.specs.TransportPhases.History.{Entry, Call, BCall, broken}
use Rattle.laws_runs.specs.TransportPhases.declared.phases.Rule.{Rule}
use Rattle.laws_runs.specs.ModelTree.declared.statements.Control.{Control}
use Rattle.laws_runs.specs.ModelTree.declared.statements.Control.TheVariants as control
use Rattle.laws_runs.specs.FlatDesign.Code as code
use Rattle.laws_runs.specs.FlatDesign.Code.{Term, DestinationTerm, AwaitTerm, ArgumentTerm, SpawnTerm, ChannelTerm, Statement}
use Rattle.laws_runs.specs.FlatDesign.declared.value_types.ValueType.{ValueType}
use Rattle.laws_runs.specs.FlatDesign.declared.names.NameUse.{NameUse}
use Rattle.laws_runs.specs.FlatDesign.declared.names.NameUse.TheVariants as name_use
use Rattle.laws_runs.specs.FlatDesign.declared.names.EventMember.TheVariants as event
use Rattle.laws_runs.specs.FlatDesign.declared.code.Handler.{Handler}
use Rattle.laws_runs.specs.FlatDesign.declared.code.Controlled.{Controlled}
use Rattle.laws_runs.specs.FlatDesign.declared.code.Store.{Store as Target}
use Rattle.laws_runs.specs.FlatDesign.declared.design.ChannelId.{ChannelId}
use Rattle.laws_runs.specs.FlatDesign.declared.design.ChannelId.TheVariants as channel
use Rattle.laws_runs.specs.FlatDesign.declared.design.Denoted.{Denoted}
use Rattle.laws_runs.specs.FlatDesign.declared.design.Denoted.TheVariants as denoted
use Rattle.laws_runs.specs.FlatDesign.declared.faults.RunFault.{RunFault}
use Rattle.laws_runs.specs.FlatDesign.declared.faults.RunFault.TheVariants as fault
use Rattle.laws_runs.specs.SimModel.Values.{on_ok, moment, truth}
use Rattle.laws_runs.specs.SimModel.Residual.{Residual, Frame, batch, guard, try_, block, entered, put, skip, has_goal}
use Rattle.laws_runs.specs.SimModel.Unwinding.{raise, catches, left_by_raise, left_by_unw, returned, return_marks}
use Rattle.laws_runs.specs.SimModel.Configuration.{Config, Instance, Wait, Deadline, arena, change_instance, instance_at, with_residual, with_runnable, with_marks}
use Rattle.laws_runs.specs.SimModel.Reading.{Here, val, denotes, place_in, payload_number, live_payload}
use Rattle.laws_runs.specs.SimModel.Waits.{fire, holds, without, notify, waits, leaves_stack}
use Rattle.laws_runs.specs.SimModel.Storing.{passes, set_local, set_denoted, set_name, stored, stored_if, set_memory, chosen, looped, do_var, do_assign, do_print, do_if, do_while}
use Rattle.laws_runs.specs.SimModel.Waiting.{when_after, channel_event, on_event, event_number, notified_now, cancelled, do_wait, do_next_trigger, do_notify_after}
use Rattle.laws_runs.specs.SimModel.Channels.{set_fifo, set_mutex, set_semaphore, blocks, written_unless, write_signal, write_channel, write_fifo, do_write, fifo_of, with_fifo, read_value, read_fifo, do_read, nb_read_value, nb_read_fifo, do_nb_read, nb_write_fifo, do_nb_write, answered, lock_mutex, lock_at, do_lock, trylock_mutex, trylock_at, do_trylock, unlock_mutex, unlock_at, do_unlock, sem_wait_value, sem_wait_at, do_sem_wait, sem_trywait_value, sem_trywait_at, do_sem_trywait, post_value, post_at, do_post, mutex_of, semaphore_of, taken_from, channel_in}
use Rattle.laws_runs.specs.SimModel.Calls.{enters, do_guard, do_try, final_value, given_back, call_ends, handle_stored, with_left, thrown, do_call, do_return, do_spawn, spawns, added, new_instance, runnable_unless}
use Rattle.laws_runs.specs.SimModel.Transport.{path_of_call, int_of, value_named, is_complete, with_keeper, kept, on_keeper, do_make, do_acquire, do_release, do_carry, b_transport_on, nb_transport_on, judged_by, judged, enters_handler, may_enter_handler, blocking_handler, nonblocking_handler, history, socket_of, do_qk_global}
use Rattle.laws_runs.specs.SimModel.Control.{target_of, is_top, is_below_top, is_thread, with_kept, yields, pushed, unwinds, injected, controlled_by, throws_at, unless_ended, control_call, throw_call, with_owed, do_control, do_throw_it}
use Rattle.laws_runs.specs.SimModel.Statements.{do_statement}
use Rattle.laws_runs.specs.SimModel.declared.plain.Goal.TheVariants as goal_of
use Rattle.laws_runs.specs.SimModel.declared.plain.Via.{Via}
use Rattle.laws_clocked.specs.Fired.{of_channel, by_owner, by_unlock, by_value, by_post, channel_named, by_statement, fixed}
use Rattle.laws_clocked.proofs.Away.{raise-goal}
use Rattle.laws_clocked.proofs.Rousing.{Rests, Quiet, rests_if, other, more, left_rests, fire_one-rests, goes_stays, goes_pushed, unwinds_rests, suspends, keeps, resumes, disables_}

module _ (p : ℕ) (l : List Ev) (q : ℕ) (apart : p ≢ q) where
  abbrev Q : Config → Type 0
  Q = Rests p l

  -- ---- answers

  pub if-ok : {A : Type 0} (m : Result A RunFault) (f : A → Result Config RunFault) → ((x : A) → IfOk (f x) Q) → IfOk (on_ok m f) Q
  if-ok (Ok x) f h = h x
  if-ok (Err e) f h = tt

  pub if_went-ok : (m : Result Config RunFault) (f : Config → Result Config RunFault) → IfOk m Q → ((d : Config) → Q d → IfOk (f d) Q) → IfOk (on_ok m f) Q
  if_went-ok (Ok d) f s h = h d s
  if_went-ok (Err e) f s h = tt

  ok_if : (b : Bool) (m n : Result Config RunFault) → IfOk m Q → IfOk n Q → IfOk (cond b m n) Q
  ok_if true m n one_ two = one_
  ok_if false m n one_ two = two

  -- ---- q itself changes

  pub own : (c : Config) (f : Instance → Instance) → Q c → Q (change_instance c q f)
  own c f h = other p l c.processes.instances q f apart h

  pub passed : (c : Config) (r : Residual) → Q c → Q (passes c q r)
  passed c r h = own c (λ j. record j { residual = put r skip }) h

  pub placed : (c : Config) (r : Residual) → Q c → Q (with_residual c q r)
  placed c r h = own c (λ j. record j { residual = r }) h

  -- ---- where values go

  local_rests : (c : Config) (n : ℕ) (v : Value) → Q c → Q (set_local c q n v)
  local_rests c n v h = own c _ h

  denoted_rests : (c : Config) (x : Denoted) (v : Value) → Q c → Q (set_denoted c x v)
  denoted_rests c (denoted.Variable n) v h = h
  denoted_rests c other_ v h = h

  pub name_rests : (c : Config) (h : Here) (n : NameUse) (v : Value) → Q c → Q (set_name c q h n v)
  name_rests c h (name_use.Local n) v s = local_rests c n v s
  name_rests c h (name_use.Declared n) v s = denoted_rests c (denotes h n) v s

  pub stored_rests : (c : Config) (h : Here) (target : Target) (v : Value) → Q c → Q (stored c q h target v)
  stored_rests c h target v s = name_rests c h target.name _ s

  pub stored_if_rests : (c : Config) (h : Here) (target : Option Target) (v : Value) → Q c → Q (stored_if c q h target v)
  stored_if_rests c h None v s = s
  stored_if_rests c h (Some target) v s = stored_rests c h target v s

  memory_rests : (c : Config) (m : Option ℕ) (bytes : List ℕ) → Q c → Q (set_memory c m bytes)
  memory_rests c None bytes s = s
  memory_rests c (Some m) bytes s = s

  handle_rests : (c : Config) (h : Here) (n : Option NameUse) (k : ℕ) → Q c → Q (handle_stored c q h n k)
  handle_rests c h None k s = s
  handle_rests c h (Some n) k s = name_rests c h n (value.Handle (Some k)) s

  given_rests : (c : Config) (h : Here) (x : Frame) (i : ℕ) (arguments : List ArgumentTerm) → Q c → Q (given_back c q h x i arguments)
  given_rests c h x i [] s = s
  given_rests c h x i (code.by_value e ∷ more_) s = given_rests c h x (suc i) more_ s
  given_rests c h x i (code.inout n ∷ more_) s =
      given_rests (set_name c q h n (final_value x i (value.Bool false))) h x (suc i) more_ (name_rests c h n (final_value x i (value.Bool false)) s)

  pub call_ends_rests : (c : Config) (h : Here) (x : Frame) (target : Option Target) (arguments : List ArgumentTerm) → Q c → Q (call_ends c q h x target arguments)
  call_ends_rests c h x target arguments s = stored_if_rests (given_back c q h x 0 arguments) h target _ (given_rests c h x 0 arguments s)

  -- ---- channels

  unless_rests : (c : Config) (n : ℕ) (x : Signal) (v : Value) (w : Option WriterConflict) → Q c → IfOk (written_unless c n x v q w) Q
  unless_rests c n x v None s = s
  unless_rests c n x v (Some w) s = tt

  signal_rests : (c : Config) (n : ℕ) (v : Value) (x : Option Signal) → Q c → IfOk (write_signal c n v q x) Q
  signal_rests c n v None s = s
  signal_rests c n v (Some x) s = unless_rests c n x v (conflict_of (Some q) x.writer) s

  with_fifo_rests : (c : Config) (n : Option ℕ) (x : Queued) → Q c → Q (with_fifo c n x)
  with_fifo_rests c None x s = s
  with_fifo_rests c (Some n) x s = s

  answered_rests : (c : Config) (h : Here) (x : Option Target) (done : Bool) → Q c → Q (answered c q h x done)
  answered_rests c h x done s = stored_if_rests c h x _ s

  blocked : (c : Config) (r : Residual) (e : Ev) → Q c → Q (blocks c q r e)
  blocked c r e s = own (with_residual c q r) _ (placed c r s)

  -- ---- keepers

  keeper_rests : (c : Config) (n : Option ℕ) (k : Keeper) → Q c → Q (with_keeper c n k)
  keeper_rests c None k s = s
  keeper_rests c (Some n) k s = s

  kept_rests : (c : Config) (n : Option ℕ) (k : Option Keeper) → Q c → IfOk (kept c n k) Q
  kept_rests c n None s = tt
  kept_rests c n (Some k) s = keeper_rests c n k s

  on_keeper_rests : (c : Config) (k : Option Keeper) (f : Keeper → Result Config RunFault) → Q c → ((x : Keeper) → IfOk (f x) Q) → IfOk (on_keeper c k f) Q
  on_keeper_rests c None f s each = s
  on_keeper_rests c (Some k) f s each = each k

  -- ---- control calls

  controlled_rests : (c : Config) (n : ℕ) (i : Instance) (k : Control) → Q c → IfOk (controlled_by c n i k) Q
  controlled_rests c n i control.Suspend s =
      let d = change_instance c n (λ j. record j { suspended = true }) in
      let h = suspends p l c n s in
      rests_if p l (holds d.processes.runnable n) (with_runnable (with_kept d n) (without d.processes.runnable n)) (cond (yields d n i) (leaves_stack (with_kept d n)) d)
      (keeps p l d n h) (rests_if p l (yields d n i) (leaves_stack (with_kept d n)) d (keeps p l d n h) h)
  controlled_rests c n i control.Resume s =
      let d = change_instance c n (λ j. record j { suspended = false; kept = false }) in
      rests_if p l i.kept (with_runnable d (c.processes.runnable ++ n ∷ [])) d (resumes p l c n s) (resumes p l c n s)
  controlled_rests c n i control.Disable s = disables_ p l c n true s
  controlled_rests c n i control.Enable s = disables_ p l c n false s
  controlled_rests c n i control.Kill s =
      ok_if (is_below_top c n) (Err (fault.ControlOnActive n)) _ tt (ok_if (is_top c n && has_goal i.residual) (Ok c) (Ok (unwinds c n i goal_of.End)) s (left_rests p l (left_by_unw i.residual) _ (unwinds_rests p l c n i goal_of.End s)))
  controlled_rests c n i control.Reset s =
      ok_if (is_below_top c n) (Err (fault.ControlOnActive n)) _ tt (ok_if (is_top c n && has_goal i.residual) (Ok c) (Ok (unwinds c n i goal_of.Restart)) s (left_rests p l (left_by_unw i.residual) _ (unwinds_rests p l c n i goal_of.Restart s)))

  unless_rests_ : (c : Config) (x : Option Instance) (f : Instance → Result Config RunFault) → Q c → ((i : Instance) → IfOk (f i) Q) → IfOk (unless_ended c x f) Q
  unless_rests_ c None f s each = s
  unless_rests_ c (Some i) f s each = ok_if i.ended (Ok c) (f i) s (each i)

  pub control_rests : (c : Config) (n : ℕ) (k : Control) → Q c → IfOk (control_call c n k) Q
  control_rests c n k s = unless_rests_ c (instance_at c n) (λ i. controlled_by c n i k) s (λ i. controlled_rests c n i k s)

  -- an exception of the one on top, which is q, or of another
  thrown_goes : (c : Config) (n : ℕ) (i : Instance) (e : ℕ) (b : Bool) → catches i.residual e ≡ b → Q c
      → IfOk (cond b (Ok (with_left (with_residual c n (raise (arena c) i.residual e goal_of.Thrown)) (left_by_raise i.residual e))) (Err (fault.Uncaught e))) Q
  thrown_goes c n i e true caught s = left_rests p l (left_by_raise i.residual e) _ (goes_stays p l c n (raise (arena c) i.residual e goal_of.Thrown) (raise-goal (arena c) e goal_of.Thrown i.residual caught) s)
  thrown_goes c n i e false caught s = tt

  injected_goes : (c : Config) (n : ℕ) (i : Instance) (e : ℕ) (b : Bool) → catches i.residual e ≡ b → Q c
      → IfOk (cond b (Ok (with_left (pushed (with_residual c n (raise (arena c) i.residual e goal_of.Injected)) n) (left_by_raise i.residual e))) (Err (fault.Uncaught e))) Q
  injected_goes c n i e true caught s = left_rests p l (left_by_raise i.residual e) _ (goes_pushed p l c n (raise (arena c) i.residual e goal_of.Injected) (raise-goal (arena c) e goal_of.Injected i.residual caught) s)
  injected_goes c n i e false caught s = tt

  throws_rests : (c : Config) (n : ℕ) (i : Instance) (e : ℕ) → Q c → IfOk (throws_at c n i e) Q
  throws_rests c n i e s =
      ok_if (is_below_top c n) (Err (fault.ControlOnActive n)) _ tt
      (ok_if (is_top c n) (cond (has_goal i.residual) (Ok c) (thrown c n i.residual e)) (injected c n i e)
      (ok_if (has_goal i.residual) (Ok c) (thrown c n i.residual e) s (thrown_goes c n i e (catches i.residual e) refl s))
      (ok_if (not (is_thread i.kind) || not i.started) (Ok c) _ s (injected_goes c n i e (catches i.residual e) refl s)))

  pub throw_rests : (c : Config) (n e : ℕ) → Q c → IfOk (throw_call c n e) Q
  throw_rests c n e s = unless_rests_ c (instance_at c n) (λ i. throws_at c n i e) s (λ i. throws_rests c n i e s)

  -- ---- a statement of q, by its form

  module _ (c : Config) (r : Residual) (h : Here) (s : Q c) where
    past : Q (passes c q r)
    past = passed c r s

    var_rests : (k : ℕ) (y : ValueType) (e : Option Term) → IfOk (do_var c q r h k y e) Q
    var_rests k y e = search (if-ok, local_rests, past)

    assign_rests : (to : DestinationTerm) (e : Term) → IfOk (do_assign c q r h to e) Q
    assign_rests (code.to_name target) e = search (if-ok, stored_rests, past)
    assign_rests (code.to_field k f) e = search (if-ok, past)
    assign_rests (code.to_element k index) e = search (if-ok, memory_rests, past)
    assign_rests (code.to_payload_byte k b index) e = search (if-ok, past) depth 9

    print_rests : (i : Instance) (text : List ℕ) (e : Option Term) → IfOk (do_print c q i r h text e) Q
    print_rests i text e = search (if-ok, past)

    waits_rests : (a : Wait) (d : Deadline) → Q (waits (passes c q r) q a d)
    waits_rests a d = own (passes c q r) _ past

    wait_rests : (w : AwaitTerm) → IfOk (do_wait c q r h w) Q
    wait_rests w = search (if-ok, waits_rests)

    trigger_rests : (w : AwaitTerm) → IfOk (do_next_trigger c q r h w) Q
    trigger_rests w = search (if-ok, own, past)

    event_rests : (e : Option ℕ) (f : ℕ → Config) → ((x : ℕ) → Q (f x)) → Q (on_event (passes c q r) e f)
    event_rests None f each = past
    event_rests (Some e) f each = each e

    notify_by : (e : Option ℕ) → Quiet p l (fixed e) → Q (on_event (passes c q r) e (notified_now (passes c q r)))
    notify_by None quiet = past
    notify_by (Some e) quiet = fire_one-rests p l (notify (passes c q r) e when.Immediate) (ev.Fixed e) quiet past

    write_fifo_rests : (k : ℕ) (ch : ChannelId) (v : Value) (x : Option Queued) → Q (write_fifo c q r k ch v x)
    write_fifo_rests k ch v None = past
    write_fifo_rests k ch v (Some x) = rests_if p l (free x == 0) (blocks c q r (channel_event event.DataRead ch)) (set_fifo (passes c q r) k (after_write x v)) (blocked c r (channel_event event.DataRead ch) s) past

    write_by : (v : Value) (x : ChannelId) → IfOk (write_channel c q r v x) Q
    write_by v (channel.Signal j events) = signal_rests (passes c q r) j v (slice_get c.channels.signals j) past
    write_by v (channel.Resolved j events) = past
    write_by v (channel.Fifo j events) = write_fifo_rests j (channel.Fifo j events) v (slice_get c.channels.fifos j)
    write_by v (channel.Mutex j events) = past
    write_by v (channel.Semaphore j events) = past

    write_rests : (ch : ChannelTerm) (y : ValueType) (e : Term) → IfOk (do_write c q r h ch y e) Q
    write_rests ch y e = search (if-ok, write_by) depth 8

    read_value_rests : (x : Option Target) (ch : ChannelId) (k : Queued) (v : Option Value) → Q (read_value c q r h x ch k v)
    read_value_rests x ch k None = blocked c r _ s
    read_value_rests x ch k (Some v) = stored_if_rests (with_fifo (passes c q r) (fifo_of ch) (after_read k)) h x v (with_fifo_rests (passes c q r) (fifo_of ch) (after_read k) past)

    read_fifo_rests : (x : Option Target) (ch : ChannelId) (k : Option Queued) → Q (read_fifo c q r h x ch k)
    read_fifo_rests x ch None = past
    read_fifo_rests x ch (Some k) = read_value_rests x ch k (readable k)

    read_rests : (x : Option Target) (ch : ChannelTerm) → IfOk (do_read c q r h x ch) Q
    read_rests x ch = search (if-ok, read_fifo_rests)

    nb_read_value_rests : (x : Option Target) (y : Target) (ch : ChannelId) (k : Queued) (v : Option Value) → Q (nb_read_value c q r h x y ch k v)
    nb_read_value_rests x y ch k None = stored_if_rests (passes c q r) h x _ past
    nb_read_value_rests x y ch k (Some v) = search (stored_rests, stored_if_rests, with_fifo_rests, past)

    nb_read_fifo_rests : (x : Option Target) (y : Target) (ch : ChannelId) (k : Option Queued) → Q (nb_read_fifo c q r h x y ch k)
    nb_read_fifo_rests x y ch None = past
    nb_read_fifo_rests x y ch (Some k) = nb_read_value_rests x y ch k (readable k)

    nb_read_rests : (x : Option Target) (ch : ChannelTerm) (y : Target) → IfOk (do_nb_read c q r h x ch y) Q
    nb_read_rests x ch y = search (if-ok, nb_read_fifo_rests)

    nb_write_fifo_rests : (x : Option Target) (ch : ChannelId) (v : Value) (k : Option Queued) → Q (nb_write_fifo c q r h x ch v k)
    nb_write_fifo_rests x ch v None = past
    nb_write_fifo_rests x ch v (Some k) = search (rests_if p l, stored_if_rests, with_fifo_rests, past)

    nb_write_rests : (x : Option Target) (ch : ChannelTerm) (y : ValueType) (e : Term) → IfOk (do_nb_write c q r h x ch y e) Q
    nb_write_rests x ch y e = search (if-ok, nb_write_fifo_rests)

    lock_mutex_rests : (k : ℕ) (ch : ChannelId) (x : Option (Option ℕ)) → Q (lock_mutex c q r k ch x)
    lock_mutex_rests k ch None = past
    lock_mutex_rests k ch (Some x) = rests_if p l (is_unlocked x) (set_mutex (passes c q r) k (locked_by q x)) (blocks c q r (channel_event event.Own ch)) past (blocked c r _ s)

    lock_at_rests : (ch : ChannelId) (k : Option ℕ) → Q (lock_at c q r ch k)
    lock_at_rests ch None = past
    lock_at_rests ch (Some k) = lock_mutex_rests k ch (slice_get c.channels.mutexes k)

    lock_rests : (ch : ChannelTerm) → IfOk (do_lock c q r h ch) Q
    lock_rests ch = search (if-ok, lock_at_rests)

    trylock_mutex_rests : (x : Option Target) (k : ℕ) (m : Option (Option ℕ)) → Q (trylock_mutex (passes c q r) q h x k m)
    trylock_mutex_rests x k None = past
    trylock_mutex_rests x k (Some m) = answered_rests (set_mutex (passes c q r) k (locked_by q m)) h x _ past

    trylock_at_rests : (x : Option Target) (k : Option ℕ) → Q (trylock_at (passes c q r) q h x k)
    trylock_at_rests x None = past
    trylock_at_rests x (Some k) = trylock_mutex_rests x k (slice_get c.channels.mutexes k)

    trylock_rests : (x : Option Target) (ch : ChannelTerm) → IfOk (do_trylock c q r h x ch) Q
    trylock_rests x ch = search (if-ok, trylock_at_rests)

    unlock_owner : (x : Option Target) (k : ℕ) (ch : ChannelId) (m : Option ℕ) (b : Bool) → Quiet p l (cond b (channel_event event.Own ch ∷ []) [])
        → Q (cond b (answered (fire (set_mutex (passes c q r) k (unlocked_by q m)) (channel_event event.Own ch)) q h x true) (answered (passes c q r) q h x false))
    unlock_owner x k ch m true quiet = answered_rests (fire (set_mutex (passes c q r) k (unlocked_by q m)) (channel_event event.Own ch)) h x true (fire_one-rests p l (set_mutex (passes c q r) k (unlocked_by q m)) (channel_event event.Own ch) quiet past)
    unlock_owner x k ch m false quiet = answered_rests (passes c q r) h x false past

    unlock_mutex_rests : (x : Option Target) (k : ℕ) (ch : ChannelId) (m : Option (Option ℕ)) → Quiet p l (by_owner q ch m) → Q (unlock_mutex (passes c q r) q h x k ch m)
    unlock_mutex_rests x k ch None quiet = past
    unlock_mutex_rests x k ch (Some m) quiet = unlock_owner x k ch m (is_owner q m) quiet

    unlock_at_rests : (x : Option Target) (ch : ChannelId) (k : Option ℕ) → Quiet p l (by_unlock c q ch k) → Q (unlock_at (passes c q r) q h x ch k)
    unlock_at_rests x ch None quiet = past
    unlock_at_rests x ch (Some k) quiet = unlock_mutex_rests x k ch (slice_get c.channels.mutexes k) quiet

    channel_rests : (m : Result ChannelId RunFault) (es : ChannelId → List Ev) (f : ChannelId → Config) → Quiet p l (of_channel m es) → ((ch : ChannelId) → Quiet p l (es ch) → Q (f ch)) → IfOk (on_ok m (λ ch. Ok (f ch))) Q
    channel_rests (Ok ch) es f quiet each = each ch quiet
    channel_rests (Err e) es f quiet each = tt

    place_rests : (m : Result (Option ℕ) RunFault) (g : Option ℕ → Result ChannelId RunFault) (es : ChannelId → List Ev) (f : ChannelId → Config) → Quiet p l (of_channel (on_ok m g) es) → ((ch : ChannelId) → Quiet p l (es ch) → Q (f ch))
        → IfOk (on_ok m (λ k. on_ok (g k) (λ ch. Ok (f ch)))) Q
    place_rests (Ok k) g es f quiet each = channel_rests (g k) es f quiet each
    place_rests (Err e) g es f quiet each = tt

    unlock_rests : (x : Option Target) (t : ChannelTerm) → Quiet p l (of_channel (channel_named h t) (λ ch. by_unlock c q ch (mutex_of ch))) → IfOk (do_unlock c q r h x t) Q
    unlock_rests x t quiet = place_rests (place_in h t.place) (channel_in h t) (λ ch. by_unlock c q ch (mutex_of ch)) (λ ch. unlock_at (passes c q r) q h x ch (mutex_of ch)) quiet (λ ch no. unlock_at_rests x ch (mutex_of ch) no)

    sem_value_rests : (k : ℕ) (ch : ChannelId) (v : Option ℕ) → Q (sem_wait_value c q r k ch v)
    sem_value_rests k ch None = past
    sem_value_rests k ch (Some v) = rests_if p l (is_used_up v) (blocks c q r (channel_event event.Own ch)) (set_semaphore (passes c q r) k (taken_from v)) (blocked c r _ s) past

    sem_at_rests : (ch : ChannelId) (k : Option ℕ) → Q (sem_wait_at c q r ch k)
    sem_at_rests ch None = past
    sem_at_rests ch (Some k) = sem_value_rests k ch (slice_get c.channels.semaphores k)

    sem_wait_rests : (ch : ChannelTerm) → IfOk (do_sem_wait c q r h ch) Q
    sem_wait_rests ch = search (if-ok, sem_at_rests)

    trywait_value_rests : (x : Option Target) (k : ℕ) (v : Option ℕ) → Q (sem_trywait_value (passes c q r) q h x k v)
    trywait_value_rests x k None = past
    trywait_value_rests x k (Some v) = rests_if p l (is_used_up v) _ _ (answered_rests (passes c q r) h x false past) (answered_rests (set_semaphore (passes c q r) k (taken_from v)) h x true past)

    trywait_at_rests : (x : Option Target) (k : Option ℕ) → Q (sem_trywait_at (passes c q r) q h x k)
    trywait_at_rests x None = past
    trywait_at_rests x (Some k) = trywait_value_rests x k (slice_get c.channels.semaphores k)

    trywait_rests : (x : Option Target) (ch : ChannelTerm) → IfOk (do_sem_trywait c q r h x ch) Q
    trywait_rests x ch = search (if-ok, trywait_at_rests)

    post_value_rests : (k : ℕ) (ch : ChannelId) (v : Option ℕ) → Quiet p l (by_value ch v) → Q (post_value (passes c q r) k ch v)
    post_value_rests k ch None quiet = past
    post_value_rests k ch (Some v) quiet = fire_one-rests p l (set_semaphore (passes c q r) k (v + 1)) (channel_event event.Own ch) quiet past

    post_at_rests : (ch : ChannelId) (k : Option ℕ) → Quiet p l (by_post c ch k) → Q (post_at (passes c q r) ch k)
    post_at_rests ch None quiet = past
    post_at_rests ch (Some k) quiet = post_value_rests k ch (slice_get c.channels.semaphores k) quiet

    post_rests : (t : ChannelTerm) → Quiet p l (of_channel (channel_named h t) (λ ch. by_post c ch (semaphore_of ch))) → IfOk (do_post c q r h t) Q
    post_rests t quiet = place_rests (place_in h t.place) (channel_in h t) (λ ch. by_post c ch (semaphore_of ch)) (λ ch. post_at (passes c q r) ch (semaphore_of ch)) quiet (λ ch no. post_at_rests ch (semaphore_of ch) no)

    -- payloads, keepers and hops
    make_rests : (k : NameUse) (e : Term) (x : Option Term) → IfOk (do_make c q r h k e x) Q
    make_rests k e x = search (if-ok, name_rests, past) depth 8

    carry_rests : (k : NameUse) (x : ℕ) → IfOk (do_carry c q r h k x) Q
    carry_rests k x = search (if-ok, memory_rests, past)

    judged_rests : (d : Config) (hop : ℕ) (e : Entry) (t : ℕ) (b : Option Rule) → Q d → IfOk (judged_by d hop e t b) Q
    judged_rests d hop e t None k = k
    judged_rests d hop e t (Some rule) k = tt

    handler_rests : (d : Config) (n : ℕ) (f : Option ℕ) (args : List Value) (via : Via) → Q d → Q (enters_handler d q r n f args via)
    handler_rests d n None args via k = k
    handler_rests d n (Some f) args via k = placed d _ k

    b_rests : (n : ℕ) (k d : NameUse) (end : Option (ℕ × Bool)) → IfOk (b_transport_on c q r h n k d end) Q
    b_rests n k d None = past
    b_rests n k d (Some end) =
        if-ok (payload_number h k) _ (λ t. if-ok (live_payload c t) _ (λ x. if-ok (may_enter_handler r (blocking_handler (slice_get c.design.hops end.0))) _ (λ ok.
        let f = blocking_handler (slice_get c.design.hops end.0) in
        if_went-ok (judged c end.0 (BCall t (is_some f)) t) _ (judged_rests c end.0 (BCall t (is_some f)) t (broken (history c end.0) (BCall t (is_some f))) s) (λ y z. handler_rests y n f _ _ z))))

    nb_rests : (n : ℕ) (k phase d : NameUse) (end : Option (ℕ × Bool)) → IfOk (nb_transport_on c q r h n k phase d end) Q
    nb_rests n k phase d None = past
    nb_rests n k phase d (Some end) =
        let f = nonblocking_handler end.1 (slice_get c.design.hops end.0) in
        if-ok (payload_number h k) _ (λ t. if-ok (live_payload c t) _ (λ x. if-ok (may_enter_handler r f) _ (λ ok.
        let e = Call t (path_of_call end.1) (int_of (value_named h phase)) (is_complete x) (is_some f) in
        if_went-ok (judged c end.0 e t) (λ y. Ok (enters_handler y q r n f (value.Pay (Some t) ∷ value_named h phase ∷ value_named h d ∷ []) (record { hop = end.0; forward = end.1; blocking = false; payload = t })))
        (judged_rests c end.0 e t (broken (history c end.0) e) s)
        (λ y z. handler_rests y n f (value.Pay (Some t) ∷ value_named h phase ∷ value_named h d ∷ []) (record { hop = end.0; forward = end.1; blocking = false; payload = t }) z))))

    -- spawned ones
    unless_new : (b : Bool) (k : ℕ) (x : Config) → Q x → Q (runnable_unless b k x)
    unless_new true k x z = z
    unless_new false k x z = z

    spawned_rests : (x : SpawnTerm) (vs : List Value) → Q (spawns (passes c q r) q h x vs)
    spawned_rests x vs =
        let old = passes c q r in
        let new = new_instance old h x vs in
        handle_rests (runnable_unless x.dont_initialize (length old.processes.instances) (added old new)) h x.handle (length old.processes.instances)
        (unless_new x.dont_initialize (length old.processes.instances) (added old new) (more p l old.processes.instances new past))

    owed : (n : ℕ) (qs : List ℕ) → Q (with_owed c q r n qs)
    owed n qs = placed c (put r (batch n qs)) s

    control_form : (n : ℕ) (k : Control) (whom : Controlled) (all : Bool) → IfOk (do_control c q r h n k whom all) Q
    control_form n k whom false = if-ok (target_of h q whom) _ (λ x. control_rests (passes c q r) x k past)
    control_form n k whom true = search (if-ok, owed n)

    throw_form : (n : ℕ) (whom : Controlled) (e : ℕ) (all : Bool) → IfOk (do_throw_it c q r h n whom e all) Q
    throw_form n whom e false = if-ok (target_of h q whom) _ (λ x. throw_rests (passes c q r) x e past)
    throw_form n whom e true = search (if-ok, owed n)

    thrown_if : (e : ℕ) (b : Bool) → IfOk (cond b (Ok (with_left (with_residual c q (raise (arena c) r e goal_of.Thrown)) (left_by_raise r e))) (Err (fault.Uncaught e))) Q
    thrown_if e true = left_rests p l (left_by_raise r e) _ (placed c (raise (arena c) r e goal_of.Thrown) s)
    thrown_if e false = tt

    -- calls, choices and loops
    called : (n f : ℕ) (vs : List Value) → Q (enters c q r n f vs None)
    called n f vs = placed c (put r (entered (arena c) f vs (Some n) None)) s

    call_rests : (n f : ℕ) (arguments : List ArgumentTerm) → IfOk (do_call c q r h n f arguments) Q
    call_rests n f arguments = search (if-ok, called)

    after_rests : (k : ℕ) (e : Term) → IfOk (do_notify_after c q r h k e) Q
    after_rests k e = if-ok (val h e) _ (λ v. if-ok (when_after c.cycle.now (moment v)) _ (λ w. event_rests (event_number (denotes h k)) (λ x. notify (passes c q r) x w) (λ x. past)))

    acquire_rests : (k : NameUse) → IfOk (do_acquire c q r h k) Q
    acquire_rests k = if-ok (payload_number h k) _ (λ t. if-ok (live_payload c t) _ (λ x. past))

    release_rests : (k : NameUse) → IfOk (do_release c q r h k) Q
    release_rests k = if-ok (payload_number h k) _ (λ t. if-ok (live_payload c t) _ (λ x. past))

    global_rests : (e : Term) → IfOk (do_qk_global c q r h e) Q
    global_rests e = if-ok (val h e) _ (λ v. past)

    spawn_rests : (x : SpawnTerm) → IfOk (do_spawn c q r h x) Q
    spawn_rests x = search (if-ok, spawned_rests x)

    returned_rests : (v : Option Value) → Q (with_marks (with_residual c q (returned v r)) (return_marks q r))
    returned_rests v = placed c (returned v r) s

    return_rests : (e : Option Term) → IfOk (do_return c q r h e) Q
    return_rests e = search (if-ok, returned_rests)

    chosen_rests : (v : Bool) (b : ℕ) (other_ : Option ℕ) → Q (with_residual c q (put r (chosen c v b other_)))
    chosen_rests v b other_ = placed c (put r (chosen c v b other_)) s

    if_rests : (e : Term) (b : ℕ) (other_ : Option ℕ) → IfOk (do_if c q r h e b other_) Q
    if_rests e b other_ = if-ok (val h e) _ (λ v. chosen_rests (truth v) b other_)

    looped_rests : (v : Bool) (n b : ℕ) → Q (with_residual c q (put r (looped c v n b)))
    looped_rests v n b = placed c (put r (looped c v n b)) s

    while_rests : (n : ℕ) (e : Term) (b : ℕ) → IfOk (do_while c q r h n e b) Q
    while_rests n e b = if-ok (val h e) _ (λ v. looped_rests (truth v) n b)

    guard_rests : (b u : ℕ) → IfOk (do_guard c q r b u) Q
    guard_rests b u = placed c (put r (guard (block (arena c) b) c.trace.next_guard u)) s

    try_rests : (b : ℕ) (handlers : List Handler) → IfOk (do_try c q r b handlers) Q
    try_rests b handlers = placed c (put r (try_ (block (arena c) b) handlers)) s

    pub form_rests : (i : Instance) (n : ℕ) (x : Statement) → Quiet p l (by_statement c q h x) → IfOk (do_statement c q i r h n x) Q
    form_rests i n (code.var k y e) quiet = var_rests k y e
    form_rests i n (code.assign d e) quiet = assign_rests d e
    form_rests i n (code.call x f arguments) quiet = call_rests n f arguments
    form_rests i n (code.read x ch) quiet = read_rests x ch
    form_rests i n (code.nb_read x ch y) quiet = nb_read_rests x ch y
    form_rests i n (code.nb_write x ch y e) quiet = nb_write_rests x ch y e
    form_rests i n (code.trylock x ch) quiet = trylock_rests x ch
    form_rests i n (code.unlock x ch) quiet = unlock_rests x ch quiet
    form_rests i n (code.sem_trywait x ch) quiet = trywait_rests x ch
    form_rests i n (code.nb_transport y socket k phase d) quiet = nb_rests n k phase d (socket_of (denotes h socket))
    form_rests i n (code.write ch y e) quiet = write_rests ch y e
    form_rests i n (code.print text e) quiet = print_rests i text e
    form_rests i n (code.notify k) quiet = notify_by (event_number (denotes h k)) quiet
    form_rests i n (code.notify_delta k) quiet = event_rests (event_number (denotes h k)) (λ e. notify (passes c q r) e when.Delta) (λ e. past)
    form_rests i n (code.notify_after k e) quiet = after_rests k e
    form_rests i n (code.cancel k) quiet = event_rests (event_number (denotes h k)) (cancelled (passes c q r)) (λ e. past)
    form_rests i n (code.wait w) quiet = wait_rests w
    form_rests i n (code.next_trigger w) quiet = trigger_rests w
    form_rests i n (code.lock ch) quiet = lock_rests ch
    form_rests i n (code.sem_wait ch) quiet = sem_wait_rests ch
    form_rests i n (code.post ch) quiet = post_rests ch quiet
    form_rests i n (code.make k e x) quiet = make_rests k e x
    form_rests i n (code.acquire k) quiet = acquire_rests k
    form_rests i n (code.release k) quiet = release_rests k
    form_rests i n (code.carry k x) quiet = carry_rests k x
    form_rests i n (code.b_transport socket k d) quiet = b_rests n k d (socket_of (denotes h socket))
    form_rests i n (code.qk_global e) quiet = global_rests e
    form_rests i n (code.spawn x) quiet = spawn_rests x
    form_rests i n (code.control k whom all) quiet = control_form n k whom all
    form_rests i n (code.throw_it whom e all) quiet = throw_form n whom e all
    form_rests i n (code.throw e) quiet = thrown_if e (catches r e)
    form_rests i n (code.return_ e) quiet = return_rests e
    form_rests i n code.stop quiet = past
    form_rests i n (code.if_ e b other_) quiet = if_rests e b other_
    form_rests i n (code.while_ e b) quiet = while_rests n e b
    form_rests i n (code.guard b u) quiet = guard_rests b u
    form_rests i n (code.try_ b handlers) quiet = try_rests b handlers
    form_rests i n other quiet = search (if-ok, on_keeper_rests, kept_rests, keeper_rests, past)
