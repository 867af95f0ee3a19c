-- One statement of a process that keeps to itself, by its form: all stays as it was but for what the process may do by itself.
use Rattle.std.proofs.Common.{◌≡◌, ℕ, ◌==◌, Bool, true, false, cond, List, [], ◌∷◌, slice_get, Option, Some, None, subst}
use Rattle.std.specs.Prelude.{⊤, Ok, Err}
use Rattle.std.specs.Result.{IfOk}
use Rattle.std.proofs.lemmas.Option.{same_Some}
use Rattle.sim_model.specs.LogicValues.declared.kinds.Value.{Value}
use Rattle.sim_model.specs.LogicValues.declared.kinds.Value.TheVariants as value
use Rattle.sim_model.specs.FifoSync.Fifos.{Queued, readable, free, after_read, after_write}
use Rattle.sim_model.specs.FlatDesign.Code as code
use Rattle.sim_model.specs.FlatDesign.Code.{Term, DestinationTerm, AwaitTerm, ArgumentTerm, ChannelTerm, Statement, statement_at}
use Rattle.sim_model.specs.FlatDesign.declared.value_types.ValueType.{ValueType}
use Rattle.sim_model.specs.FlatDesign.declared.names.EventMember.{EventMember}
use Rattle.sim_model.specs.FlatDesign.declared.names.EventMember.TheVariants as event
use Rattle.sim_model.specs.FlatDesign.declared.code.Handler.{Handler}
use Rattle.sim_model.specs.FlatDesign.declared.code.Store.{Store as Target}
use Rattle.sim_model.specs.FlatDesign.declared.design.ChannelId.{ChannelId}
use Rattle.sim_model.specs.FlatDesign.declared.design.ChannelId.TheVariants as channel
use Rattle.sim_model.specs.FlatDesign.declared.faults.RunFault.TheVariants as fault
use Rattle.sim_model.specs.Residual.{Residual, skip, guard, try_, block, entered, put}
use Rattle.sim_model.specs.Unwinding.{raise, catches, left_by_raise, returned, return_marks}
use Rattle.sim_model.specs.Configuration.{Config, Instance, Trigger, arena, with_residual, with_marks, change_instance}
use Rattle.sim_model.specs.Reading.{Here, here, denotes, val}
use Rattle.sim_model.specs.Waits.{waits}
use Rattle.sim_model.specs.Storing.{passes, chosen, looped, do_var, do_assign, do_print, do_if, do_while}
use Rattle.sim_model.specs.Waiting.{awaited, channel_event, on_event, event_number, do_wait, do_next_trigger, do_notify_delta, do_notify_after, do_cancel}
use Rattle.sim_model.specs.Channels.{blocks, set_fifo, fifo_of, write_fifo, write_channel, do_write, read_value, read_fifo, do_read, nb_read_value, nb_read_fifo, do_nb_read, nb_write_fifo, do_nb_write}
use Rattle.sim_model.specs.Calls.{with_left, enters, thrown, do_call, do_return, do_guard, do_try}
use Rattle.sim_model.specs.Transport.{do_qk_global}
use Rattle.sim_model.specs.Statements.{do_statement}
use Rattle.sim_model.specs.declared.plain.Goal.TheVariants as goal_of
use Rattle.laws_order.specs.Own.{IsOf, IsLeftOf}
use Rattle.laws_order.specs.Fits.{HearsFixed}
use Rattle.laws_order.proofs.Blocks.{called-of, chosen-of, other-of, looped-of, guarded-of, unwound-of, tried-of, handlers-of}
use Rattle.laws_order.proofs.Lefts.{followed-left, block-left, put-left, entered-left, returned-left, raise-left}
use Rattle.laws_order.proofs.Hearing.{NamesFixed, if_known-then, awaited-fixed}
use Rattle.laws_order.proofs.Within.{IsWithin, if-ok, either-within, changed-within, triggers-to, residual-within, waits-within, blocks-within, local-within, stored-within, stored_if-within, memory-within, signal-within, fifo-within, keeper-within, kept-within, on_keeper-within, left_calls-within}

-- a statement that acts on nobody else at once, uses nothing that is shared by nature, and waits for no end and no reset of a process
-- (what any other does stays within its process is proved below, form by form)
abbrev pub MayDo : Statement → Type 0
MayDo (code.assign (code.to_name x) e) = ⊤
MayDo (code.assign (code.to_field k f) e) = ⊥
MayDo (code.assign (code.to_element k index) e) = ⊤
MayDo (code.assign (code.to_payload_byte k b index) e) = ⊥
MayDo (code.trylock x ch) = ⊥
MayDo (code.unlock x ch) = ⊥
MayDo (code.sem_trywait x ch) = ⊥
MayDo (code.nb_transport x s k phase delay) = ⊥
MayDo (code.notify k) = ⊥
MayDo (code.wait w) = NamesFixed w
MayDo (code.next_trigger w) = NamesFixed w
MayDo (code.lock ch) = ⊥
MayDo (code.sem_wait ch) = ⊥
MayDo (code.post ch) = ⊥
MayDo (code.make k e m) = ⊥
MayDo (code.acquire k) = ⊥
MayDo (code.release k) = ⊥
MayDo (code.carry k m) = ⊥
MayDo (code.b_transport s k delay) = ⊥
MayDo (code.spawn x) = ⊥
MayDo (code.control k who all) = ⊥
MayDo (code.throw_it who e all) = ⊥
MayDo code.stop = ⊥
MayDo other = ⊤

module _ (c : Config) (p : ℕ) (i : Instance) (r : Residual) (left : IsLeftOf c.design p r) (s : IsWithin c.design p c c) where
  abbrev IsHere : Config → Type 0
  IsHere = IsWithin c.design p c

  abbrev h : Here
  h = here c p i r

  gives : (new : Residual) → IsLeftOf c.design p new → IsHere (with_residual c p (put r new))
  gives new own = residual-within c.design p c c (put r new) (put-left c.design p r new left own) s

  passed : IsHere (passes c p r)
  passed = gives skip tt

  blocked : (m : EventMember) (ch : ChannelId) → IsHere (blocks c p r (channel_event m ch))
  blocked m ch = blocks-within c.design p c c r (channel_event m ch) tt left s

  -- ---- data, waits and events

  var_within : (k : ℕ) (t : ValueType) (e : Option Term) → IfOk (do_var c p r h k t e) IsHere
  var_within k t e = search (if-ok c.design p c, local-within c.design p c, passed)

  assign_within : (to : DestinationTerm) (e : Term) → MayDo (code.assign to e) → IfOk (do_assign c p r h to e) IsHere
  assign_within (code.to_name target) e may = search (if-ok c.design p c, stored-within c.design p c, passed)
  assign_within (code.to_field k f) e may = absurd may
  assign_within (code.to_element k index) e may = search (if-ok c.design p c, memory-within c.design p c, passed)
  assign_within (code.to_payload_byte k b index) e may = absurd may

  print_within : (text : List ℕ) (e : Option Term) → IfOk (do_print c p i r h text e) IsHere
  print_within text e = search (if-ok c.design p c, passed)

  abbrev Hears : Trigger → Type 0
  Hears t = HearsFixed t.wait

  wait_within : (w : AwaitTerm) → NamesFixed w → IfOk (do_wait c p r h w) IsHere
  wait_within w fixed = if_known-then Hears IsHere (awaited h w) (λ t. Ok (waits (passes c p r) p t.wait t.deadline)) (awaited-fixed h w fixed) (λ t hears. waits-within c.design p c (passes c p r) t.wait t.deadline hears passed)

  trigger_within : (w : AwaitTerm) → NamesFixed w → IfOk (do_next_trigger c p r h w) IsHere
  trigger_within w fixed =
      if_known-then Hears IsHere (awaited h w) (λ t. Ok (change_instance (passes c p r) p (λ j. record j { trigger = Some t }))) (awaited-fixed h w fixed) (λ t hears. changed-within c.design p c (passes c p r) (λ j. record j { trigger = Some t }) (triggers-to c.design p (Some t) hears) passed)

  event_within : (e : Option ℕ) (f : ℕ → Config) → ((x : ℕ) → IsHere (f x)) → IsHere (on_event (passes c p r) e f)
  event_within None f each = passed
  event_within (Some e) f each = each e

  notify_delta_within : (k : ℕ) → IfOk (do_notify_delta c p r h k) IsHere
  notify_delta_within k = event_within (event_number (denotes h k)) _ (λ e. passed)

  notify_after_within : (k : ℕ) (e : Term) → IfOk (do_notify_after c p r h k e) IsHere
  notify_after_within k e = search (if-ok c.design p c, event_within, passed)

  cancel_within : (k : ℕ) → IfOk (do_cancel c p r h k) IsHere
  cancel_within k = event_within (event_number (denotes h k)) _ (λ e. passed)

  -- ---- channels

  write_fifo_within : (k : ℕ) (ch : ChannelId) (v : Value) (q : Option Queued) → IsHere (write_fifo c p r k ch v q)
  write_fifo_within k ch v None = passed
  write_fifo_within k ch v (Some q) = either-within c.design p c (free q == 0) (blocks c p r (channel_event event.DataRead ch)) (set_fifo (passes c p r) k (after_write q v)) (blocked event.DataRead ch) passed

  channel_within : (v : Value) (ch : ChannelId) → IfOk (write_channel c p r v ch) IsHere
  channel_within v (channel.Signal k events) = signal-within c.design p c (passes c p r) k v (slice_get c.channels.signals k) passed
  channel_within v (channel.Resolved k events) = passed
  channel_within v (channel.Fifo k events) = write_fifo_within k (channel.Fifo k events) v (slice_get c.channels.fifos k)
  channel_within v (channel.Mutex k events) = passed
  channel_within v (channel.Semaphore k events) = passed

  write_within : (ch : ChannelTerm) (t : ValueType) (e : Term) → IfOk (do_write c p r h ch t e) IsHere
  write_within ch t e = search (if-ok c.design p c, channel_within)

  read_value_within : (x : Option Target) (ch : ChannelId) (q : Queued) (v : Option Value) → IsHere (read_value c p r h x ch q v)
  read_value_within x ch q None = blocked event.DataWritten ch
  read_value_within x ch q (Some v) = stored_if-within c.design p c _ h x v (fifo-within c.design p c (passes c p r) (fifo_of ch) (after_read q) passed)

  read_fifo_within : (x : Option Target) (ch : ChannelId) (q : Option Queued) → IsHere (read_fifo c p r h x ch q)
  read_fifo_within x ch None = passed
  read_fifo_within x ch (Some q) = read_value_within x ch q (readable q)

  read_within : (x : Option Target) (t : ChannelTerm) → IfOk (do_read c p r h x t) IsHere
  read_within x t = search (if-ok c.design p c, read_fifo_within)

  nb_read_value_within : (x : Option Target) (y : Target) (ch : ChannelId) (q : Queued) (v : Option Value) → IsHere (nb_read_value c p r h x y ch q v)
  nb_read_value_within x y ch q None = stored_if-within c.design p c (passes c p r) h x (value.Bool false) passed
  nb_read_value_within x y ch q (Some v) =
      stored-within c.design p c _ h y v (stored_if-within c.design p c _ h x (value.Bool true) (fifo-within c.design p c (passes c p r) (fifo_of ch) (after_read q) passed))

  nb_read_fifo_within : (x : Option Target) (y : Target) (ch : ChannelId) (q : Option Queued) → IsHere (nb_read_fifo c p r h x y ch q)
  nb_read_fifo_within x y ch None = passed
  nb_read_fifo_within x y ch (Some q) = nb_read_value_within x y ch q (readable q)

  nb_read_within : (x : Option Target) (t : ChannelTerm) (y : Target) → IfOk (do_nb_read c p r h x t y) IsHere
  nb_read_within x t y = search (if-ok c.design p c, nb_read_fifo_within)

  nb_write_fifo_within : (x : Option Target) (ch : ChannelId) (v : Value) (q : Option Queued) → IsHere (nb_write_fifo c p r h x ch v q)
  nb_write_fifo_within x ch v None = passed
  nb_write_fifo_within x ch v (Some q) =
      either-within c.design p c (free q == 0) _ _ (stored_if-within c.design p c (passes c p r) h x (value.Bool false) passed)
      (stored_if-within c.design p c _ h x (value.Bool true) (fifo-within c.design p c (passes c p r) (fifo_of ch) (after_write q v) passed))

  nb_write_within : (x : Option Target) (t : ChannelTerm) (y : ValueType) (e : Term) → IfOk (do_nb_write c p r h x t y e) IsHere
  nb_write_within x t y e = search (if-ok c.design p c, nb_write_fifo_within)

  -- ---- keepers

  qk_global_within : (e : Term) → IfOk (do_qk_global c p r h e) IsHere
  qk_global_within e = search (if-ok c.design p c, passed)

  -- ---- functions, guards, exceptions, choices and loops

  returned_within : (v : Option Value) → IsHere (with_marks (with_residual c p (returned v r)) (return_marks p r))
  returned_within v = residual-within c.design p c c (returned v r) (returned-left c.design p v r left) s

  return_within : (e : Option Term) → IfOk (do_return c p r h e) IsHere
  return_within e = search (if-ok c.design p c, returned_within)

  throw_if : (e : ℕ) (b : Bool) → IfOk (cond b (Ok (with_left (with_residual c p (raise (arena c) r e goal_of.Thrown)) (left_by_raise r e))) (Err (fault.Uncaught e))) IsHere
  throw_if e true =
      left_calls-within c.design p c (with_residual c p (raise (arena c) r e goal_of.Thrown)) (left_by_raise r e) (residual-within c.design p c c (raise (arena c) r e goal_of.Thrown) (raise-left c.design p e r left) s)
  throw_if e false = tt

  throw_within : (e : ℕ) → IfOk (thrown c p r e) IsHere
  throw_within e = throw_if e (catches r e)

  module _ (n : ℕ) (own : IsOf c.design p n) where
    calls_own : (m : ℕ) → Some n ≡ Some m → IsOf c.design p m
    calls_own m is = subst (IsOf c.design p) (same_Some n m is) own

    called_within : (x : Option Target) (f : ℕ) (arguments : List ArgumentTerm) → statement_at (arena c) n ≡ Some (code.call x f arguments) → (vs : List Value) → IsHere (enters c p r n f vs None)
    called_within x f arguments found vs = gives (entered (arena c) f vs (Some n) None) (entered-left c.design p f vs (Some n) calls_own (called-of c.design p n f x arguments own found))

    call_within : (x : Option Target) (f : ℕ) (arguments : List ArgumentTerm) → statement_at (arena c) n ≡ Some (code.call x f arguments) → IfOk (do_call c p r h n f arguments) IsHere
    call_within x f arguments found = search (if-ok c.design p c, called_within x f arguments found)

    other_left : (e : Term) (b : ℕ) (other : Option ℕ) → statement_at (arena c) n ≡ Some (code.if_ e b other) → (v : Bool) → IsLeftOf c.design p (chosen c v b other)
    other_left e b other found true = block-left c.design p b (chosen-of c.design p n own e b other found)
    other_left e b None found false = tt
    other_left e b (Some m) found false = block-left c.design p m (other-of c.design p n own e b m found)

    if_within : (e : Term) (b : ℕ) (other : Option ℕ) → statement_at (arena c) n ≡ Some (code.if_ e b other) → IfOk (do_if c p r h e b other) IsHere
    if_within e b other found = if-ok c.design p c (val h e) _ (λ v. gives _ (other_left e b other found _))

    loop_left : (e : Term) (b : ℕ) → statement_at (arena c) n ≡ Some (code.while_ e b) → (v : Bool) → IsLeftOf c.design p (looped c v n b)
    loop_left e b found true = followed-left c.design p (block (arena c) b) (n ∷ []) (block-left c.design p b (looped-of c.design p n own e b found)) (own, tt)
    loop_left e b found false = tt

    while_within : (e : Term) (b : ℕ) → statement_at (arena c) n ≡ Some (code.while_ e b) → IfOk (do_while c p r h n e b) IsHere
    while_within e b found = if-ok c.design p c (val h e) _ (λ v. gives _ (loop_left e b found _))

    guard_within : (b u : ℕ) → statement_at (arena c) n ≡ Some (code.guard b u) → IfOk (do_guard c p r b u) IsHere
    guard_within b u found = gives (guard (block (arena c) b) c.trace.next_guard u) (block-left c.design p b (guarded-of c.design p n own b u found), unwound-of c.design p n own b u found)

    try_within : (b : ℕ) (handlers : List Handler) → statement_at (arena c) n ≡ Some (code.try_ b handlers) → IfOk (do_try c p r b handlers) IsHere
    try_within b handlers found = gives (try_ (block (arena c) b) handlers) (block-left c.design p b (tried-of c.design p n own b handlers found), handlers-of c.design p n own b handlers found)

    -- ---- a statement, by its form

    pub form-within : (x : Statement) → statement_at (arena c) n ≡ Some x → MayDo x → IfOk (do_statement c p i r h n x) IsHere
    form-within (code.var k t e) found may = var_within k t e
    form-within (code.assign to e) found may = assign_within to e may
    form-within (code.call x f arguments) found may = call_within x f arguments found
    form-within (code.read x ch) found may = read_within x ch
    form-within (code.nb_read x ch y) found may = nb_read_within x ch y
    form-within (code.nb_write x ch t e) found may = nb_write_within x ch t e
    form-within (code.trylock x ch) found may = absurd may
    form-within (code.unlock x ch) found may = absurd may
    form-within (code.sem_trywait x ch) found may = absurd may
    form-within (code.nb_transport x socket k phase delay) found may = absurd may
    form-within (code.write ch t e) found may = write_within ch t e
    form-within (code.print text e) found may = print_within text e
    form-within (code.notify k) found may = absurd may
    form-within (code.notify_delta k) found may = notify_delta_within k
    form-within (code.notify_after k e) found may = notify_after_within k e
    form-within (code.cancel k) found may = cancel_within k
    form-within (code.wait w) found may = wait_within w may
    form-within (code.next_trigger w) found may = trigger_within w may
    form-within (code.lock ch) found may = absurd may
    form-within (code.sem_wait ch) found may = absurd may
    form-within (code.post ch) found may = absurd may
    form-within (code.make k e m) found may = absurd may
    form-within (code.acquire k) found may = absurd may
    form-within (code.release k) found may = absurd may
    form-within (code.carry k m) found may = absurd may
    form-within (code.b_transport socket k delay) found may = absurd may
    form-within (code.qk_global e) found may = qk_global_within e
    form-within (code.spawn x) found may = absurd may
    form-within (code.control k who all) found may = absurd may
    form-within (code.throw_it who e all) found may = absurd may
    form-within (code.throw e) found may = throw_within e
    form-within (code.return_ e) found may = return_within e
    form-within code.stop found may = absurd may
    form-within (code.if_ e b other) found may = if_within e b other found
    form-within (code.while_ e b) found may = while_within e b found
    form-within (code.guard b u) found may = guard_within b u found
    form-within (code.try_ b handlers) found may = try_within b handlers found
    form-within other found may = search (if-ok c.design p c, on_keeper-within c.design p c, kept-within c.design p c, keeper-within c.design p c, passed)
