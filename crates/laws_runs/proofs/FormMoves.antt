-- One statement of the instance on top of the stack: each form is made of moves.
use Rattle.std.proofs.Common.{inl, ◌≡◌, ℕ, ◌==◌, Bool, true, false, cond, List, [], ◌∷◌, length, slice_get, Option, Some, None, refl, sym, subst, inr}
use Rattle.std.specs.Prelude.{Ok, Err, is_some}
use Rattle.std.specs.Result.{IfOk}
use Rattle.std.proofs.lemmas.Option.{none-some}
use Rattle.sim_model.specs.LogicValues.declared.kinds.Value.{Value}
use Rattle.sim_model.specs.LogicValues.declared.kinds.Value.TheVariants as value
use Rattle.sim_model.specs.EventCore.declared.event.Ev.{Ev}
use Rattle.sim_model.specs.EventCore.declared.event.Ev.TheVariants as ev
use Rattle.sim_model.specs.EventCore.declared.notifications.When.{When}
use Rattle.sim_model.specs.EventCore.declared.notifications.When.TheVariants as when
use Rattle.sim_model.specs.FifoSync.Fifos.{Queued, readable, free, after_write}
use Rattle.sim_model.specs.FifoSync.Locks.{locked_by}
use Rattle.sim_model.specs.PayloadPool.declared.payload.Payload.{Payload}
use Rattle.sim_model.specs.TransportPhases.History.{Entry, Call, BCall, broken}
use Rattle.sim_model.specs.TransportPhases.declared.phases.Rule.{Rule}
use Rattle.sim_model.specs.ModelTree.declared.statements.Control.{Control}
use Rattle.sim_model.specs.FlatDesign.Code as code
use Rattle.sim_model.specs.FlatDesign.Code.{Term, DestinationTerm, AwaitTerm, ArgumentTerm, SpawnTerm, ChannelTerm, Statement, statement_at}
use Rattle.sim_model.specs.FlatDesign.declared.value_types.ValueType.{ValueType}
use Rattle.sim_model.specs.FlatDesign.declared.names.NameUse.{NameUse}
use Rattle.sim_model.specs.FlatDesign.declared.code.Handler.{Handler}
use Rattle.sim_model.specs.FlatDesign.declared.code.Controlled.{Controlled}
use Rattle.sim_model.specs.FlatDesign.declared.code.Store.{Store as Target}
use Rattle.sim_model.specs.FlatDesign.declared.design.ChannelId.{ChannelId}
use Rattle.sim_model.specs.FlatDesign.declared.design.ChannelId.TheVariants as channel
use Rattle.sim_model.specs.FlatDesign.declared.design.Hop.{Hop}
use Rattle.sim_model.specs.FlatDesign.declared.names.EventMember.TheVariants as event
use Rattle.sim_model.specs.FlatDesign.declared.faults.RunFault.TheVariants as fault
use Rattle.sim_model.specs.Values.{on_ok}
use Rattle.sim_model.specs.Residual as residual
use Rattle.sim_model.specs.Residual.{Residual, batch, try_, block, entered, put, next_of}
use Rattle.sim_model.specs.Unwinding.{raise, catches, left_by_raise, returned, return_marks}
use Rattle.sim_model.specs.Payloads.{with_made, with_acquired, with_released}
use Rattle.sim_model.specs.Configuration.{Config, Instance, Wait, Deadline, Trigger, Told, with_residual, with_marks, with_told, arena, change_instance}
use Rattle.sim_model.specs.Reading.{Here, here, denotes, payload_number, live_payload}
use Rattle.sim_model.specs.Waits.{notify, waits}
use Rattle.sim_model.specs.Storing.{passes, set_payload, chosen, looped, do_var, do_assign, do_print, do_if, do_while}
use Rattle.sim_model.specs.Waiting.{channel_event, on_event, event_number, notified_now, do_wait, do_next_trigger, do_notify, do_notify_delta, do_notify_after, do_cancel, do_stop}
use Rattle.sim_model.specs.Channels.{blocks, set_fifo, set_mutex, set_semaphore, taken_from, fifo_here, write_fifo, write_channel, channel_in, do_write, read_value, read_fifo, do_read, nb_read_value, nb_read_fifo, do_nb_read, nb_write_fifo, do_nb_write, lock_mutex, lock_at, do_lock, do_trylock, do_unlock, sem_wait_value, sem_wait_at, do_sem_wait, do_sem_trywait, do_post}
use Rattle.sim_model.specs.Calls.{with_left, enters, thrown, do_call, do_return, do_guard, do_try, new_instance, added, runnable_unless, spawns, do_spawn}
use Rattle.sim_model.specs.Transport.{history, socket_of, may_enter_handler, value_named, int_of, path_of_call, is_complete, with_pool, with_global, do_make, do_acquire, do_release, do_carry, judged_by, enters_handler, blocking_handler, nonblocking_handler, b_transport_on, nb_transport_on, do_qk_global}
use Rattle.sim_model.specs.Control.{with_owed, do_control, do_throw_it}
use Rattle.sim_model.specs.Statements.{do_statement}
use Rattle.sim_model.specs.declared.plain.Goal.TheVariants as goal_of
use Rattle.sim_model.specs.declared.plain.Via.{Via}
use Rattle.laws_runs.specs.Moves as move
use Rattle.laws_runs.specs.Moves.{OnTop, InTurn, InPlace, MayPass, Gives, MayBlock, IsHandler, IsEntryOf, Moves, then}
use Rattle.laws_runs.proofs.Values.{if-ok, if_ok-by, either-moves, fire-moves, local-moves, name-moves, stored-moves, stored_if-moves, memory-moves, handle-moves, signal-moves, read-moves, written-moves, trylock-moves, unlock-moves, trywait-moves, post-moves, keeper-moves, kept-moves, on_keeper-moves}
use Rattle.laws_runs.proofs.ControlMoves.{control-moves, throw-moves}

-- an answer that a test gives, with the test
either_by : (who : Option ℕ) (o : Config) (b : Bool) (c d : Config) → (b ≡ true → Moves who o c) → (b ≡ false → Moves who o d) → Moves who o (cond b c d)
either_by who o true c d one two = one refl
either_by who o false c d one two = two refl

module _ (who : Option ℕ) (o c : Config) (p : ℕ) (r : Residual) (t : InTurn who c p r) (n : ℕ) (next : next_of r ≡ residual.statement n) (m : Moves who o c) where
  abbrev i : Instance
  i = t.instance

  abbrev h : Here
  h = here c p i r

  abbrev placed : (x : Statement) → statement_at (arena c) n ≡ Some x → InPlace who c p r n x
  placed x found = record { turn = t; next = next; found = found }

  passed : Moves who o (passes c p r)
  passed = then c (move.passing p r) m (t, subst (MayPass c) (sym next) tt)

  gives : (x : Statement) (new : Residual) → statement_at (arena c) n ≡ Some x → Gives c n x new → Moves who o (with_residual c p (put r new))
  gives x new found g = then c (move.placing p r new) m (n, x, placed x found, g)

  blocked : (x : Statement) → statement_at (arena c) n ≡ Some x → MayBlock h x → (e : Ev) → Moves who o (blocks c p r e)
  blocked x found b e = then c (move.blocking p r e) m (n, x, placed x found, b)

  -- ---- data, waits and events

  var-moves : (k : ℕ) (y : ValueType) (e : Option Term) → IfOk (do_var c p r h k y e) (Moves who o)
  var-moves k y e = search (if-ok who o, local-moves who o p t.is_turn, passed)

  payload_moves : (d : Config) (k : ℕ) (q : Payload) → Moves who o d → Moves who o (set_payload d k q)
  payload_moves d k q s = then d (move.setting_payload k q) s (p, t.is_turn)

  assign-moves : (to : DestinationTerm) (e : Term) → IfOk (do_assign c p r h to e) (Moves who o)
  assign-moves (code.to_name target) e = search (if-ok who o, stored-moves who o p t.is_turn, passed)
  assign-moves (code.to_field k f) e = search (if-ok who o, payload_moves, passed)
  assign-moves (code.to_element k index) e = search (if-ok who o, memory-moves who o p t.is_turn, passed)
  assign-moves (code.to_payload_byte k b index) e = search (if-ok who o, payload_moves, passed) depth 9

  told_moves : (d : Config) (x : Told) → Moves who o d → Moves who o (with_told d x)
  told_moves d x s = then d (move.telling x) s tt

  print-moves : (text : List ℕ) (e : Option Term) → IfOk (do_print c p i r h text e) (Moves who o)
  print-moves text e = search (if-ok who o, told_moves, passed)

  waits_moves : (w : AwaitTerm) → statement_at (arena c) n ≡ Some (code.wait w) → (a : Wait) (d : Deadline) → Moves who o (waits (passes c p r) p a d)
  waits_moves w found a d = then c (move.waiting p r a d) m (n, w, placed (code.wait w) found)

  wait-moves : (w : AwaitTerm) → statement_at (arena c) n ≡ Some (code.wait w) → IfOk (do_wait c p r h w) (Moves who o)
  wait-moves w found = search (if-ok who o, waits_moves w found)

  triggered_moves : (d : Config) (a : Option Trigger) → Moves who o d → Moves who o (change_instance d p (λ j. record j { trigger = a }))
  triggered_moves d a s = then d (move.triggering p a) s t.is_turn

  trigger-moves : (w : AwaitTerm) → IfOk (do_next_trigger c p r h w) (Moves who o)
  trigger-moves w = search (if-ok who o, triggered_moves, passed)

  event_moves : (e : Option ℕ) (f : ℕ → Config) → ((x : ℕ) → Moves who o (f x)) → Moves who o (on_event (passes c p r) e f)
  event_moves None f each = passed
  event_moves (Some e) f each = each e

  notify_moves : (d : Config) (e : ℕ) (w : When) → Moves who o d → Moves who o (notify d e w)
  notify_moves d e w s = then d (move.notifying e w) s tt

  notify-moves : (k : ℕ) → IfOk (do_notify c p r h k) (Moves who o)
  notify-moves k = event_moves (event_number (denotes h k)) (notified_now (passes c p r)) (λ e. fire-moves who o (notify (passes c p r) e when.Immediate) (ev.Fixed e) (notify_moves (passes c p r) e when.Immediate passed))

  notify_delta-moves : (k : ℕ) → IfOk (do_notify_delta c p r h k) (Moves who o)
  notify_delta-moves k = event_moves _ _ (λ e. notify_moves (passes c p r) e when.Delta passed)

  notify_after-moves : (k : ℕ) (e : Term) → IfOk (do_notify_after c p r h k e) (Moves who o)
  notify_after-moves k e = search (if-ok who o, event_moves, notify_moves, passed)

  cancel-moves : (k : ℕ) → IfOk (do_cancel c p r h k) (Moves who o)
  cancel-moves k = event_moves _ _ (λ e. then (passes c p r) (move.cancelling e) passed (p, t.is_turn))

  stop-moves : IfOk (do_stop c p r) (Moves who o)
  stop-moves = then (passes c p r) move.asking_stop passed (p, t.is_turn)

  -- ---- channels

  fifo_moves : (k : ℕ) (events : ℕ) (v : Value) (q : Option Queued) → slice_get c.channels.fifos k ≡ q → ((e : Ev) → Moves who o (blocks c p r e)) → Moves who o (write_fifo c p r k (channel.Fifo k events) v q)
  fifo_moves k events v None at b = passed
  fifo_moves k events v (Some q) at b =
      either_by who o (free q == 0) (blocks c p r (channel_event event.DataRead (channel.Fifo k events))) (set_fifo (passes c p r) k (after_write q v)) (λ full. b (channel_event event.DataRead (channel.Fifo k events)))
      (λ room. then (passes c p r) (move.writing_fifo k q v) passed ((p, t.is_turn), at, room))

  write_moves : (ch : ChannelTerm) (y : ValueType) (e : Term) → statement_at (arena c) n ≡ Some (code.write ch y e) → (k : Option ℕ) (v : Value) (x : ChannelId) → channel_in h ch k ≡ Ok x → IfOk (write_channel c p r v x) (Moves who o)
  write_moves ch y e found k v (channel.Signal j events) is = signal-moves who o p t.is_turn (passes c p r) j v (slice_get c.channels.signals j) refl passed
  write_moves ch y e found k v (channel.Resolved j events) is = then (passes c p r) (move.driving j p v) passed t.is_turn
  write_moves ch y e found k v (channel.Fifo j events) is = fifo_moves j events v (slice_get c.channels.fifos j) refl (blocked (code.write ch y e) found (k, j, events, is))
  write_moves ch y e found k v (channel.Mutex j events) is = passed
  write_moves ch y e found k v (channel.Semaphore j events) is = passed

  write-moves : (ch : ChannelTerm) (y : ValueType) (e : Term) → statement_at (arena c) n ≡ Some (code.write ch y e) → IfOk (do_write c p r h ch y e) (Moves who o)
  write-moves ch y e found = search (if-ok who o, if_ok-by who o, write_moves ch y e found) depth 8

  read_value_moves : (x : Option Target) (ch : ChannelId) (q : Queued) (v : Option Value) → fifo_here c ch ≡ Some q → readable q ≡ v → ((e : Ev) → Moves who o (blocks c p r e)) → Moves who o (read_value c p r h x ch q v)
  read_value_moves x ch q None at is b = search (b)
  read_value_moves x ch q (Some v) at is b = search (stored_if-moves who o p t.is_turn, read-moves who o p t.is_turn (passes c p r) ch q v at is passed)

  read_fifo_moves : (x : Option Target) (ch : ChannelId) (q : Option Queued) → fifo_here c ch ≡ q → ((e : Ev) → Moves who o (blocks c p r e)) → Moves who o (read_fifo c p r h x ch q)
  read_fifo_moves x ch None at b = passed
  read_fifo_moves x ch (Some q) at b = read_value_moves x ch q (readable q) at refl b

  fifo_read_moves : (x : Option Target) (ch : ChannelTerm) → statement_at (arena c) n ≡ Some (code.read x ch) → (y : ChannelId) → Moves who o (read_fifo c p r h x y (fifo_here c y))
  fifo_read_moves x ch found y = read_fifo_moves x y (fifo_here c y) refl (blocked (code.read x ch) found tt)

  read-moves_ : (x : Option Target) (ch : ChannelTerm) → statement_at (arena c) n ≡ Some (code.read x ch) → IfOk (do_read c p r h x ch) (Moves who o)
  read-moves_ x ch found = search (if-ok who o, fifo_read_moves x ch found)

  nb_read_value_moves : (x : Option Target) (y : Target) (ch : ChannelId) (q : Queued) (v : Option Value) → fifo_here c ch ≡ Some q → readable q ≡ v → Moves who o (nb_read_value c p r h x y ch q v)
  nb_read_value_moves x y ch q None at is = search (stored_if-moves who o p t.is_turn, passed)
  nb_read_value_moves x y ch q (Some v) at is = search (stored-moves who o p t.is_turn, stored_if-moves who o p t.is_turn, read-moves who o p t.is_turn (passes c p r) ch q v at is passed)

  nb_read_fifo_moves : (x : Option Target) (y : Target) (ch : ChannelId) (q : Option Queued) → fifo_here c ch ≡ q → Moves who o (nb_read_fifo c p r h x y ch q)
  nb_read_fifo_moves x y ch None at = passed
  nb_read_fifo_moves x y ch (Some q) at = nb_read_value_moves x y ch q (readable q) at refl

  nb_fifo_moves : (x : Option Target) (y : Target) (ch : ChannelId) → Moves who o (nb_read_fifo c p r h x y ch (fifo_here c ch))
  nb_fifo_moves x y ch = nb_read_fifo_moves x y ch (fifo_here c ch) refl

  nb_read-moves : (x : Option Target) (ch : ChannelTerm) (y : Target) → IfOk (do_nb_read c p r h x ch y) (Moves who o)
  nb_read-moves x ch y = search (if-ok who o, nb_fifo_moves x y)

  nb_write_fifo_moves : (x : Option Target) (ch : ChannelId) (v : Value) (q : Option Queued) → fifo_here c ch ≡ q → Moves who o (nb_write_fifo c p r h x ch v q)
  nb_write_fifo_moves x ch v None at = passed
  nb_write_fifo_moves x ch v (Some q) at =
      search (either_by who o, stored_if-moves who o p t.is_turn, written-moves who o p t.is_turn, at, passed)

  nb_written_moves : (x : Option Target) (ch : ChannelId) (v : Value) → Moves who o (nb_write_fifo c p r h x ch v (fifo_here c ch))
  nb_written_moves x ch v = nb_write_fifo_moves x ch v (fifo_here c ch) refl

  nb_write-moves : (x : Option Target) (ch : ChannelTerm) (y : ValueType) (e : Term) → IfOk (do_nb_write c p r h x ch y e) (Moves who o)
  nb_write-moves x ch y e = search (if-ok who o, nb_written_moves x)

  lock_mutex_moves : (k : ℕ) (ch : ChannelId) (x : Option (Option ℕ)) → slice_get c.channels.mutexes k ≡ x → ((e : Ev) → Moves who o (blocks c p r e)) → Moves who o (lock_mutex c p r k ch x)
  lock_mutex_moves k ch None at b = passed
  lock_mutex_moves k ch (Some x) at b = let d : Moves who o (set_mutex (passes c p r) k (locked_by p x)) = then (passes c p r) (move.locking k p x) passed (t.is_turn, at) in search (either-moves who o, d, b)

  lock_at_moves : (ch : ChannelId) (k : Option ℕ) → ((e : Ev) → Moves who o (blocks c p r e)) → Moves who o (lock_at c p r ch k)
  lock_at_moves ch None b = passed
  lock_at_moves ch (Some k) b = lock_mutex_moves k ch (slice_get c.channels.mutexes k) refl b

  lock-moves : (ch : ChannelTerm) → statement_at (arena c) n ≡ Some (code.lock ch) → IfOk (do_lock c p r h ch) (Moves who o)
  lock-moves ch found = search (if-ok who o, lock_at_moves, blocked (code.lock ch) found tt)

  try_lock-moves : (x : Option Target) (ch : ChannelTerm) → IfOk (do_trylock c p r h x ch) (Moves who o)
  try_lock-moves x ch = search (if-ok who o, trylock-moves who o p t.is_turn, passed)

  un_lock-moves : (x : Option Target) (ch : ChannelTerm) → IfOk (do_unlock c p r h x ch) (Moves who o)
  un_lock-moves x ch = search (if-ok who o, unlock-moves who o p t.is_turn, passed)

  sem_value_moves : (k : ℕ) (ch : ChannelId) (v : Option ℕ) → slice_get c.channels.semaphores k ≡ v → ((e : Ev) → Moves who o (blocks c p r e)) → Moves who o (sem_wait_value c p r k ch v)
  sem_value_moves k ch None at b = passed
  sem_value_moves k ch (Some v) at b = let d : Moves who o (set_semaphore (passes c p r) k (taken_from v)) = then (passes c p r) (move.taking_semaphore k v) passed ((p, t.is_turn), at) in search (either-moves who o, d, b)

  sem_at_moves : (ch : ChannelId) (k : Option ℕ) → ((e : Ev) → Moves who o (blocks c p r e)) → Moves who o (sem_wait_at c p r ch k)
  sem_at_moves ch None b = passed
  sem_at_moves ch (Some k) b = sem_value_moves k ch (slice_get c.channels.semaphores k) refl b

  sem_wait-moves : (ch : ChannelTerm) → statement_at (arena c) n ≡ Some (code.sem_wait ch) → IfOk (do_sem_wait c p r h ch) (Moves who o)
  sem_wait-moves ch found = search (if-ok who o, sem_at_moves, blocked (code.sem_wait ch) found tt)

  sem_trywait-moves : (x : Option Target) (ch : ChannelTerm) → IfOk (do_sem_trywait c p r h x ch) (Moves who o)
  sem_trywait-moves x ch = search (if-ok who o, trywait-moves who o p t.is_turn, passed)

  sem_post-moves : (ch : ChannelTerm) → IfOk (do_post c p r h ch) (Moves who o)
  sem_post-moves ch = search (if-ok who o, post-moves who o p t.is_turn, passed)

  -- ---- payloads and keepers

  made_moves : (a b : ℕ) → Moves who o (with_pool (passes c p r) (with_made c.transactions.pool a b))
  made_moves a b = then (passes c p r) (move.making a b) passed (p, t.is_turn)

  acquired_moves : (x : ℕ) → Moves who o (with_pool (passes c p r) (with_acquired c.transactions.pool x))
  acquired_moves x = then (passes c p r) (move.acquiring x) passed (p, t.is_turn)

  released_moves : (x : ℕ) → Moves who o (with_pool (passes c p r) (with_released c.transactions.pool x))
  released_moves x = then (passes c p r) (move.releasing x) passed (p, t.is_turn)

  global_moves : (x : ℕ) → Moves who o (with_global (passes c p r) x)
  global_moves x = then (passes c p r) (move.setting_global x) passed (p, t.is_turn)

  make-moves : (k : NameUse) (e : Term) (x : Option Term) → IfOk (do_make c p r h k e x) (Moves who o)
  make-moves k e x = search (if-ok who o, name-moves who o p t.is_turn, made_moves) depth 8

  acquire-moves : (k : NameUse) → IfOk (do_acquire c p r h k) (Moves who o)
  acquire-moves k = search (if-ok who o, acquired_moves)

  release-moves : (k : NameUse) → IfOk (do_release c p r h k) (Moves who o)
  release-moves k = search (if-ok who o, released_moves)

  carry-moves : (k : NameUse) (x : ℕ) → IfOk (do_carry c p r h k x) (Moves who o)
  carry-moves k x = search (if-ok who o, payload_moves, memory-moves who o p t.is_turn, passed)

  qk_global-moves : (e : Term) → IfOk (do_qk_global c p r h e) (Moves who o)
  qk_global-moves e = search (if-ok who o, global_moves)

  -- ---- functions, guards, exceptions and control

  called_moves : (x : Option Target) (f : ℕ) (arguments : List ArgumentTerm) → statement_at (arena c) n ≡ Some (code.call x f arguments) → (vs : List Value) → Moves who o (enters c p r n f vs None)
  called_moves x f arguments found vs = gives (code.call x f arguments) (entered (arena c) f vs (Some n) None) found (move.calls x f arguments vs)

  call-moves : (x : Option Target) (f : ℕ) (arguments : List ArgumentTerm) → statement_at (arena c) n ≡ Some (code.call x f arguments) → IfOk (do_call c p r h n f arguments) (Moves who o)
  call-moves x f arguments found = search (if-ok who o, called_moves x f arguments found)

  returned_moves : (e : Option Term) → statement_at (arena c) n ≡ Some (code.return_ e) → (v : Option Value) → Moves who o (with_marks (with_residual c p (returned v r)) (return_marks p r))
  returned_moves e found v = then c (move.returning p r v) m (n, e, placed (code.return_ e) found)

  return-moves : (e : Option Term) → statement_at (arena c) n ≡ Some (code.return_ e) → IfOk (do_return c p r h e) (Moves who o)
  return-moves e found = search (if-ok who o, returned_moves e found)

  spawned_moves : (x : SpawnTerm) → statement_at (arena c) n ≡ Some (code.spawn x) → (vs : List Value) → Moves who o (spawns (passes c p r) p h x vs)
  spawned_moves x found vs =
      handle-moves who o p t.is_turn (runnable_unless x.dont_initialize (length (passes c p r).processes.instances) (added (passes c p r) (new_instance (passes c p r) h x vs))) h x.handle (length (passes c p r).processes.instances)
      (then c (move.spawning p r h x vs) m (n, placed (code.spawn x) found, refl))

  spawn-moves : (x : SpawnTerm) → statement_at (arena c) n ≡ Some (code.spawn x) → IfOk (do_spawn c p r h x) (Moves who o)
  spawn-moves x found = search (if-ok who o, spawned_moves x found)

  at_top : OnTop who (passes c p r) p
  at_top = record { is_turn = t.is_turn; rest = t.rest; top = t.top }

  controls_moves : (k : Control) (whom : Controlled) → statement_at (arena c) n ≡ Some (code.control k whom true) → (qs : List ℕ) → Moves who o (with_owed c p r n qs)
  controls_moves k whom found qs = gives (code.control k whom true) (batch n qs) found (move.controls k whom qs)

  control-form : (k : Control) (whom : Controlled) (all : Bool) → statement_at (arena c) n ≡ Some (code.control k whom all) → IfOk (do_control c p r h n k whom all) (Moves who o)
  control-form k whom false found = search (if-ok who o, control-moves who o (passes c p r) p at_top passed)
  control-form k whom true found = search (if-ok who o, controls_moves k whom found)

  throws_moves : (whom : Controlled) (e : ℕ) → statement_at (arena c) n ≡ Some (code.throw_it whom e true) → (qs : List ℕ) → Moves who o (with_owed c p r n qs)
  throws_moves whom e found qs = gives (code.throw_it whom e true) (batch n qs) found (move.throws whom e qs)

  throw_it-form : (whom : Controlled) (e : ℕ) (all : Bool) → statement_at (arena c) n ≡ Some (code.throw_it whom e all) → IfOk (do_throw_it c p r h n whom e all) (Moves who o)
  throw_it-form whom e false found = search (if-ok who o, throw-moves who o (passes c p r) p at_top passed)
  throw_it-form whom e true found = search (if-ok who o, throws_moves whom e found)

  throw_if : (e : ℕ) → statement_at (arena c) n ≡ Some (code.throw e) → (b : Bool) → catches r e ≡ b → IfOk (cond b (Ok (with_left (with_residual c p (raise (arena c) r e goal_of.Thrown)) (left_by_raise r e))) (Err (fault.Uncaught e))) (Moves who o)
  throw_if e found true caught = then c (move.throwing p r e) m (record { is_turn = t.is_turn; rest = t.rest; top = t.top }, i, t.at, t.left, caught, inr (n, placed (code.throw e) found))
  throw_if e found false caught = tt

  throw-form : (e : ℕ) → statement_at (arena c) n ≡ Some (code.throw e) → IfOk (thrown c p r e) (Moves who o)
  throw-form e found = throw_if e found (catches r e) refl

  chosen_moves : (e : Term) (b : ℕ) (other : Option ℕ) → statement_at (arena c) n ≡ Some (code.if_ e b other) → (v : Bool) → Moves who o (with_residual c p (put r (chosen c v b other)))
  chosen_moves e b other found v = gives (code.if_ e b other) (chosen c v b other) found (move.chooses e b other v)

  looped_moves : (e : Term) (b : ℕ) → statement_at (arena c) n ≡ Some (code.while_ e b) → (v : Bool) → Moves who o (with_residual c p (put r (looped c v n b)))
  looped_moves e b found v = gives (code.while_ e b) (looped c v n b) found (move.loops e b v)

  if-moves : (e : Term) (b : ℕ) (other : Option ℕ) → statement_at (arena c) n ≡ Some (code.if_ e b other) → IfOk (do_if c p r h e b other) (Moves who o)
  if-moves e b other found = search (if-ok who o, chosen_moves e b other found)

  while-moves : (e : Term) (b : ℕ) → statement_at (arena c) n ≡ Some (code.while_ e b) → IfOk (do_while c p r h n e b) (Moves who o)
  while-moves e b found = search (if-ok who o, looped_moves e b found)

  guard-moves : (b u : ℕ) → statement_at (arena c) n ≡ Some (code.guard b u) → IfOk (do_guard c p r b u) (Moves who o)
  guard-moves b u found = then c (move.entering p r b u) m (n, placed (code.guard b u) found)

  try-moves : (b : ℕ) (handlers : List Handler) → statement_at (arena c) n ≡ Some (code.try_ b handlers) → IfOk (do_try c p r b handlers) (Moves who o)
  try-moves b handlers found = gives (code.try_ b handlers) (try_ (block (arena c) b) handlers) found (move.tries b handlers)

  -- ---- calls over hops

  abbrev IsHopAt : ℕ → Type 0
  IsHopAt hop = (x : Hop) × (slice_get c.design.hops hop ≡ Some x)

  blocking_hop : (hop f : ℕ) (x : Option Hop) → slice_get c.design.hops hop ≡ x → blocking_handler x ≡ Some f → IsHopAt hop
  blocking_hop hop f None is e = absurd (none-some f e)
  blocking_hop hop f (Some x) is e = (x, is)

  nonblocking_hop : (forward : Bool) (hop f : ℕ) (x : Option Hop) → slice_get c.design.hops hop ≡ x → nonblocking_handler forward x ≡ Some f → IsHopAt hop
  nonblocking_hop true hop f None is e = absurd (none-some f e)
  nonblocking_hop false hop f None is e = absurd (none-some f e)
  nonblocking_hop true hop f (Some x) is e = (x, is)
  nonblocking_hop false hop f (Some x) is e = (x, is)

  entered_moves : (x : Statement) → statement_at (arena c) n ≡ Some x → (via : Via) (e : Entry) (args : List Value) (f : Option ℕ) (b : Option Rule) → IsEntryOf (Some x) via.blocking via.payload (is_some f) e
      → ((k : ℕ) → f ≡ Some k → IsHopAt via.hop × IsHandler c via k) → broken (history c via.hop) e ≡ b → IfOk (on_ok (judged_by c via.hop e via.payload b) (λ y. Ok (enters_handler y p r n f args via))) (Moves who o)
  entered_moves x found via e args None None entry hop_of unbroken = then c (move.trying via.hop e) m ((p, t.is_turn), Some x, via.blocking, via.payload, entry, unbroken)
  entered_moves x found via e args (Some f) None entry hop_of unbroken = then c (move.calling p r n f args via e) m (x, placed x found, (hop_of f refl).0, (hop_of f refl).1, entry, unbroken)
  entered_moves x found via e args f (Some rule) entry hop_of unbroken = tt

  b_transport_moves : (socket : ℕ) (k d : NameUse) → statement_at (arena c) n ≡ Some (code.b_transport socket k d) → (end : Option (ℕ × Bool)) → IfOk (b_transport_on c p r h n k d end) (Moves who o)
  b_transport_moves socket k d found None = passed
  b_transport_moves socket k d found (Some end) =
      let f = blocking_handler (slice_get c.design.hops end.0) in
      if-ok who o (payload_number h k) _ (λ x. if-ok who o (live_payload c x) _ (λ q. if-ok who o (may_enter_handler r f) _ (λ ok.
      entered_moves (code.b_transport socket k d) found (record { hop = end.0; forward = true; blocking = true; payload = x }) (BCall x (is_some f)) (value.Pay (Some x) ∷ value_named h d ∷ []) f
      (broken (history c end.0) (BCall x (is_some f))) (refl, refl) (λ y e. (blocking_hop end.0 y (slice_get c.design.hops end.0) refl e, inl (refl, refl, e))) refl)))

  nb_transport_moves : (y : Option Target) (socket : ℕ) (k phase d : NameUse) → statement_at (arena c) n ≡ Some (code.nb_transport y socket k phase d) → (end : Option (ℕ × Bool)) → IfOk (nb_transport_on c p r h n k phase d end) (Moves who o)
  nb_transport_moves y socket k phase d found None = passed
  nb_transport_moves y socket k phase d found (Some end) =
      let f = nonblocking_handler end.1 (slice_get c.design.hops end.0) in
      if-ok who o (payload_number h k) _ (λ x. if-ok who o (live_payload c x) _ (λ q. if-ok who o (may_enter_handler r f) _ (λ ok.
      let e = Call x (path_of_call end.1) (int_of (value_named h phase)) (is_complete q) (is_some f) in
      entered_moves (code.nb_transport y socket k phase d) found (record { hop = end.0; forward = end.1; blocking = false; payload = x }) e (value.Pay (Some x) ∷ value_named h phase ∷ value_named h d ∷ []) f
      (broken (history c end.0) e) (refl, path_of_call end.1, int_of (value_named h phase), is_complete q, refl) (λ z is. (nonblocking_hop end.1 end.0 z (slice_get c.design.hops end.0) refl is, inr (refl, is))) refl)))

  -- ---- a statement, by its form

  pub form-moves : (x : Statement) → statement_at (arena c) n ≡ Some x → IfOk (do_statement c p i r h n x) (Moves who o)
  form-moves (code.var k y e) found = var-moves k y e
  form-moves (code.assign d e) found = assign-moves d e
  form-moves (code.call x f arguments) found = call-moves x f arguments found
  form-moves (code.read x ch) found = read-moves_ x ch found
  form-moves (code.nb_read x ch y) found = nb_read-moves x ch y
  form-moves (code.nb_write x ch y e) found = nb_write-moves x ch y e
  form-moves (code.trylock x ch) found = try_lock-moves x ch
  form-moves (code.unlock x ch) found = un_lock-moves x ch
  form-moves (code.sem_trywait x ch) found = sem_trywait-moves x ch
  form-moves (code.nb_transport y socket k phase d) found = nb_transport_moves y socket k phase d found (socket_of (denotes h socket))
  form-moves (code.write ch y e) found = write-moves ch y e found
  form-moves (code.print text e) found = print-moves text e
  form-moves (code.notify k) found = notify-moves k
  form-moves (code.notify_delta k) found = notify_delta-moves k
  form-moves (code.notify_after k e) found = notify_after-moves k e
  form-moves (code.cancel k) found = cancel-moves k
  form-moves (code.wait w) found = wait-moves w found
  form-moves (code.next_trigger w) found = trigger-moves w
  form-moves (code.lock ch) found = lock-moves ch found
  form-moves (code.sem_wait ch) found = sem_wait-moves ch found
  form-moves (code.post ch) found = sem_post-moves ch
  form-moves (code.make k e x) found = make-moves k e x
  form-moves (code.acquire k) found = acquire-moves k
  form-moves (code.release k) found = release-moves k
  form-moves (code.carry k x) found = carry-moves k x
  form-moves (code.b_transport socket k d) found = b_transport_moves socket k d found (socket_of (denotes h socket))
  form-moves (code.qk_global e) found = qk_global-moves e
  form-moves (code.spawn x) found = spawn-moves x found
  form-moves (code.control k whom all) found = control-form k whom all found
  form-moves (code.throw_it whom e all) found = throw_it-form whom e all found
  form-moves (code.throw e) found = throw-form e found
  form-moves (code.return_ e) found = return-moves e found
  form-moves code.stop found = stop-moves
  form-moves (code.if_ e b other) found = if-moves e b other found
  form-moves (code.while_ e b) found = while-moves e b found
  form-moves (code.guard b u) found = guard-moves b u found
  form-moves (code.try_ b handlers) found = try-moves b handlers found
  form-moves other found = search (if-ok who o, on_keeper-moves who o p t.is_turn, kept-moves who o p t.is_turn, keeper-moves who o p t.is_turn, passed)
