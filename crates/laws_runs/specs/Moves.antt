-- The moves that the steps of a run are made of (IEEE 1666-2011, 4.2.1 and 5). Each is one change that may be looked at by itself, as
-- large as it has to be: who comes on top of the stack loses wait, deadline and place in the runnable list in the same move.
use Rattle.std.specs.Prelude.{◌≡◌, ◌⊎◌, ⊤, ℕ, ◌+◌, ◌==◌, ◌&&◌, Bool, true, false, List, [], ◌∷◌, ◌++◌, map, length, slice_get, Option, Some, None, Ok}
use Rattle.sim_model.specs.LogicValues.declared.kinds.Value.{Value}
use Rattle.sim_model.specs.EventCore.declared.event.Ev.{Ev}
use Rattle.sim_model.specs.EventCore.declared.notifications.Pending.{Pending}
use Rattle.sim_model.specs.EventCore.declared.notifications.When.{When}
use Rattle.sim_model.specs.SignalChannel.Signals.{written, conflict_of}
use Rattle.sim_model.specs.SignalChannel.declared.signal.Signal.{Signal}
use Rattle.sim_model.specs.FifoSync.Fifos.{Queued, readable, free, after_read, after_write}
use Rattle.sim_model.specs.FifoSync.Locks.{locked_by, unlocked_by}
use Rattle.sim_model.specs.PayloadPool.declared.payload.Payload.{Payload}
use Rattle.sim_model.specs.TransportPhases.History.{Entry, Call, Return, BCall, BReturn, broken}
use Rattle.sim_model.specs.QuantumKeeper.declared.keeper.Keeper.{Keeper}
use Rattle.sim_model.specs.FlatDesign.Code as code
use Rattle.sim_model.specs.FlatDesign.Code.{Statement, SpawnTerm, statement_at}
use Rattle.sim_model.specs.FlatDesign.declared.design.ChannelId.TheVariants as channel
use Rattle.sim_model.specs.FlatDesign.declared.design.Hop.{Hop}
use Rattle.sim_model.specs.Residual as residual
use Rattle.sim_model.specs.Residual.{Residual, Frame, Next, skip, batch, guard, try_, followed, settle, next_of, put, taken_off, block, entered, begun, has_goal, enter}
use Rattle.sim_model.specs.Unwinding.{raise, catches, left_by_raise, returned, return_marks}
use Rattle.sim_model.specs.Payloads.{with_made, with_acquired, with_released}
use Rattle.sim_model.specs.Configuration.{Config, Instance, Channels, Wait, waits_for_all, Deadline, Trigger, Told, arena, instance_at, change, change_instance, with_residual, with_marks, with_told, with_stack, with_runnable, with_phase}
use Rattle.sim_model.specs.Waits.{holds, without, freed, joined, is_active, notify, leaves_stack, waits}
use Rattle.sim_model.specs.Reading.{Here, here}
use Rattle.sim_model.specs.Storing.{passes, chosen, looped, set_local, set_variable, set_memory, set_payload}
use Rattle.sim_model.specs.Waiting.{cancelled}
use Rattle.sim_model.specs.Channels.{channel_in, blocks, set_signal, drive, set_fifo, set_mutex, set_semaphore, taken_from}
use Rattle.sim_model.specs.Calls.{with_entry, with_left, new_instance, added, runnable_unless}
use Rattle.sim_model.specs.Transport.{blocking_handler, nonblocking_handler, with_pool, history, with_global, with_keeper}
use Rattle.sim_model.specs.Control.{is_top, is_below_top, with_kept, yields, disables, pushed, unwinds, ended_instance, stays_kept}
use Rattle.sim_model.specs.Statements.{settled_in, statement_step, calling_statement}
use Rattle.sim_model.specs.Phases.{channels_updated, without_pending, without_deadline, is_delta, is_zero_timeout, is_at, is_due_at, initialize_each, unchanged, with_snapshot, session_stopped}
use Rattle.sim_model.specs.Steps.{run_begun}
use Rattle.sim_model.specs.declared.plain.Goal.{Goal}
use Rattle.sim_model.specs.declared.plain.Goal.TheVariants as goal_of
use Rattle.sim_model.specs.declared.plain.Via.{Via}
use Rattle.sim_model.specs.declared.plain.Phase.{Phase}
use Rattle.sim_model.specs.declared.plain.Phase.TheVariants as phase
use Rattle.sim_model.specs.declared.plain.Command.{Command}

-- The first number of a move, where it is one of a process, is its serial.
pub data Move : Type 0 where
  -- ---- the body of the process whose turn it is
  -- what comes next is past: a statement, the end of a call, the goal of an exception
  passing : ℕ → Residual → Move
  -- a statement gives place to a block that it holds or a body that it calls
  placing : ℕ → Residual → Residual → Move
  -- a guard is entered, under a number that no guard had
  entering : ℕ → Residual → ℕ → ℕ → Move
  -- a control call that reaches descendants is owed to one instance less
  taking_off : ℕ → Residual → Move
  -- a return ends the call or the unwind block that it stands in; the guards in there are left
  returning : ℕ → Residual → Option Value → Move
  -- the body begins, with its first arguments
  beginning : ℕ → ℕ → List Value → Move
  -- the process terminates: it leaves the stack, and nothing of it is left (5.2.10)
  ending : ℕ → Move
  -- a method returns: it leaves the stack and waits again, by its next trigger or its static sensitivity (5.2.18)
  idling : ℕ → Wait → Deadline → Move
  -- a reset has unwound all (5.6.6)
  resetting : ℕ → Move
  -- a wait is past and the thread is suspended by it (5.2.17); a blocked call of a channel stays, and waits for its event
  waiting : ℕ → Residual → Wait → Deadline → Move
  blocking : ℕ → Residual → Ev → Move
  -- how a method will wait after its return (5.2.18)
  triggering : ℕ → Option Trigger → Move
  -- a process is spawned; it is runnable unless it is not to be initialized (5.5)
  spawning : ℕ → Residual → Here → SpawnTerm → List Value → Move
  -- ---- process control (5.6.6)
  -- an exception goes to the innermost handler of the one whose turn it is, and what is inside is unwound
  throwing : ℕ → Residual → ℕ → Move
  -- so it does of another, which comes on top of the stack and loses its wait, its time-out and its place among the runnable ones
  injecting : ℕ → Instance → ℕ → Move
  -- a kill and a reset: all of it is to be unwound; another one comes on top of the stack
  unwinding : ℕ → Instance → Goal → Move
  -- suspended: a runnable one, which is kept runnable till it is resumed; one on top of the stack, which leaves it and is kept; any
  -- other (5.6.6.1)
  suspending_runnable : ℕ → Move
  yielding : ℕ → Move
  suspending : ℕ → Move
  -- resumed: one that was kept is runnable again; any other (5.6.6.1)
  resuming_kept : ℕ → Move
  resuming : ℕ → Move
  -- disabled, or enabled
  disabling : ℕ → Bool → Move
  -- a suspended one leaves the stack and is kept, once a reset or an exception has unwound it
  staying_reset : ℕ → Move
  staying_thrown : ℕ → Residual → Move
  -- ---- events (5.10)
  -- a process becomes runnable; or is kept, since it is suspended; or waits on for all events that are left
  joining : ℕ → Move
  keeping : ℕ → Move
  striking : ℕ → List Ev → Move
  -- an event is notified, by the rule for several notifications (5.10.6, 5.10.8); its pending notification is cancelled (5.10.7)
  notifying : ℕ → When → Move
  cancelling : ℕ → Move
  -- all notifications and time-outs of the delta notification phase are taken away, and those of a time (4.2.1.4, 4.2.1.5)
  falling_due : Move
  falling_due_at : ℕ → Move
  -- ---- values: of a local variable, a variable of a module, a memory
  setting_local : ℕ → ℕ → Value → Move
  setting_variable : ℕ → Value → Move
  setting_memory : ℕ → List ℕ → Move
  -- ---- channels
  -- a signal is written by a process, and asks for an update; so is a resolved one, by its driver (6.4, 6.13)
  writing : ℕ → ℕ → Value → Signal → Move
  driving : ℕ → ℕ → Value → Move
  -- a fifo is read, or written (6.23)
  reading_fifo : ℕ → Queued → Move
  writing_fifo : ℕ → Queued → Value → Move
  -- a mutex is locked, or unlocked (6.27)
  locking : ℕ → ℕ → Option ℕ → Move
  unlocking : ℕ → ℕ → Option ℕ → Move
  -- a semaphore is taken, or posted (6.29)
  taking_semaphore : ℕ → ℕ → Move
  posting : ℕ → ℕ → Move
  -- ---- transactions
  -- a payload is made, acquired, released (14.5), or changed
  making : ℕ → ℕ → Move
  acquiring : ℕ → Move
  releasing : ℕ → Move
  setting_payload : ℕ → Payload → Move
  -- a transport call over a hop: one that no handler takes; one that a handler takes; its return (11.1, 15.2)
  trying : ℕ → Entry → Move
  calling : ℕ → Residual → ℕ → ℕ → List Value → Via → Entry → Move
  answering : ℕ → Residual → Via → Entry → Move
  -- a quantum keeper, and the global quantum (16.2)
  setting_keeper : ℕ → Keeper → Move
  setting_global : ℕ → Move
  -- ---- the scheduler (4.2.1)
  -- the update phase updates all channels
  updating : Channels → Move
  entering_phase : Phase → Move
  -- the model asks to stop; the session is stopped (4.5.3)
  asking_stop : Move
  stopping : Move
  -- ---- the script and the report
  -- what is left of the script; a run begins; a signal is set from outside
  reading_on : List Command → Move
  beginning_run : Option ℕ → Move
  setting_signal : ℕ → Value → Move
  -- a line of the report
  telling : Told → Move

-- ---- what a move makes of a configuration

abbrev pub guard_entered : Config → ℕ → Residual → ℕ → ℕ → Config
guard_entered c p r b u =
    let g = c.trace.next_guard in
    let d = with_marks (with_residual c p (put r (guard (block (arena c) b) g u))) (enter p g ∷ []) in
    record d { trace = record d.trace { next_guard = g + 1 } }

abbrev pub with_suspended : Config → ℕ → Config
with_suspended c q = change_instance c q (λ j. record j { suspended = true })

abbrev pub with_resumed : Config → ℕ → Config
with_resumed c q = change_instance c q (λ j. record j { suspended = false; kept = false })

abbrev pub without_due : (Pending → Bool) → (Deadline → Bool) → Config → Config
without_due test time c = record c { events = map (without_pending test) c.events; processes = record c.processes { instances = map (without_deadline time) c.processes.instances } }

-- now moves: a snapshot is taken before
abbrev pub time_moved : Config → ℕ → Config
time_moved c t = let d = with_snapshot c in record d { cycle = record d.cycle { now = t }; channels = unchanged d.channels }

-- one that is taken leaves the runnable list, and is the only one on the stack
abbrev pub turn_taken : Config → ℕ → Config
turn_taken c p = with_stack (with_runnable c (without c.processes.runnable p)) (p ∷ [])

abbrev pub made : Config → Move → Config
made c (passing p r) = passes c p r
made c (placing p r new) = with_residual c p (put r new)
made c (entering p r b u) = guard_entered c p r b u
made c (taking_off p r) = with_residual c p (taken_off r)
made c (returning p r v) = with_marks (with_residual c p (returned v r)) (return_marks p r)
made c (beginning p f args) = change_instance c p (λ j. record j { residual = begun (arena c) f args; started = true })
made c (ending p) = leaves_stack (change_instance c p ended_instance)
made c (idling p w d) = leaves_stack (change_instance c p (λ j. record j { residual = skip; started = false; wait = w; deadline = d; trigger = None }))
made c (resetting p) = change_instance c p (λ j. record j { residual = skip; started = false })
made c (waiting p r w d) = waits (passes c p r) p w d
made c (blocking p r e) = blocks c p r e
made c (triggering p t) = change_instance c p (λ j. record j { trigger = t })
made c (spawning p r h x args) =
    runnable_unless x.dont_initialize (length (passes c p r).processes.instances) (added (passes c p r) (new_instance (passes c p r) h x args))
made c (throwing p r e) = with_left (with_residual c p (raise (arena c) r e goal_of.Thrown)) (left_by_raise r e)
made c (injecting q i e) = with_left (pushed (with_residual c q (raise (arena c) i.residual e goal_of.Injected)) q) (left_by_raise i.residual e)
made c (unwinding q i k) = unwinds c q i k
made c (suspending_runnable q) = with_runnable (with_kept (with_suspended c q) q) (without c.processes.runnable q)
made c (yielding q) = leaves_stack (with_kept (with_suspended c q) q)
made c (suspending q) = with_suspended c q
made c (resuming_kept q) = with_runnable (with_resumed c q) (c.processes.runnable ++ q ∷ [])
made c (resuming q) = with_resumed c q
made c (disabling q flag) = disables c q flag
made c (staying_reset p) = stays_kept c p
made c (staying_thrown p r) = stays_kept (passes c p r) p
made c (joining p) = with_runnable (change_instance c p freed) (joined c.processes.runnable p)
made c (keeping p) = change_instance c p (λ j. record (freed j) { kept = true })
made c (striking p es) = change_instance c p (λ j. record j { wait = waits_for_all es })
made c (notifying e w) = notify c e w
made c (cancelling e) = cancelled c e
made c falling_due = without_due is_delta is_zero_timeout c
made c (falling_due_at t) = without_due (is_at t) (is_due_at t) c
made c (setting_local p n v) = set_local c p n v
made c (setting_variable n v) = set_variable c n v
made c (setting_memory m bytes) = set_memory c (Some m) bytes
made c (writing n p v s) = set_signal c n (written (Some p) v s)
made c (driving n p v) = drive c n v p
made c (reading_fifo n q) = set_fifo c n (after_read q)
made c (writing_fifo n q v) = set_fifo c n (after_write q v)
made c (locking n p m) = set_mutex c n (locked_by p m)
made c (unlocking n p m) = set_mutex c n (unlocked_by p m)
made c (taking_semaphore n v) = set_semaphore c n (taken_from v)
made c (posting n v) = set_semaphore c n (v + 1)
made c (making len enables) = with_pool c (with_made c.transactions.pool len enables)
made c (acquiring t) = with_pool c (with_acquired c.transactions.pool t)
made c (releasing t) = with_pool c (with_released c.transactions.pool t)
made c (setting_payload t q) = set_payload c t q
made c (trying hop e) = with_entry c hop e
made c (calling p r s f args via e) = with_residual (with_entry c via.hop e) p (put r (entered (arena c) f args (Some s) (Some via)))
made c (answering p r via e) = with_entry (passes c p r) via.hop e
made c (setting_keeper n k) = with_keeper c (Some n) k
made c (setting_global t) = with_global c t
made c (updating x) = record c { channels = channels_updated x }
made c (entering_phase ph) = with_phase c ph
made c asking_stop = record c { cycle = record c.cycle { stop_asked = true } }
made c stopping = session_stopped c
made c (reading_on ks) = record c { script = ks }
made c (beginning_run end) = run_begun c end
made c (setting_signal n v) = record c { channels = record c.channels { signals = change c.channels.signals n (written None v) } }
made c (telling t) = with_told c t

-- ---- what is known where a move is made

-- it is one's turn
abbrev pub IsTurn : Option ℕ → Type 0
IsTurn who = (p : ℕ) × (who ≡ Some p)

-- p, whose turn it is, on top of the stack
pub record OnTop (who : Option ℕ) (c : Config) (p : ℕ) : Type 0 where
  pub is_turn : who ≡ Some p
  pub rest : List ℕ
  pub top : c.processes.stack ≡ p ∷ rest

-- an instance that was made and has not ended
pub record Lives (c : Config) (q : ℕ) (i : Instance) : Type 0 where
  pub at : instance_at c q ≡ Some i
  pub lives : i.ended ≡ false

-- p, whose turn it is, on top of the stack; of it r is left, with no finished part
pub record InTurn (who : Option ℕ) (c : Config) (p : ℕ) (r : Residual) : Type 0 where
  pub is_turn : who ≡ Some p
  pub rest : List ℕ
  pub top : c.processes.stack ≡ p ∷ rest
  pub instance : Instance
  pub at : instance_at c p ≡ Some instance
  pub left : instance.residual ≡ r
  pub before : Residual
  pub settled : r ≡ settle (arena c) before

-- the statement x, of number s, comes next
pub record InPlace (who : Option ℕ) (c : Config) (p : ℕ) (r : Residual) (s : ℕ) (x : Statement) : Type 0 where
  pub turn : InTurn who c p r
  pub next : next_of r ≡ residual.statement s
  pub found : statement_at (arena c) s ≡ Some x

-- what may be past: a statement; a call that hands nothing back over a hop; and the goal of an exception
abbrev pub is_transport : Option Statement → Bool
is_transport None = false
is_transport (Some (code.b_transport s n d)) = true
is_transport (Some (code.nb_transport y s n phase d)) = true
is_transport (Some other) = false

abbrev pub MayPass : Config → Next → Type 0
MayPass c (residual.statement s) = ⊤
MayPass c (residual.owes s q) = ⊥
MayPass c (residual.leaves x) = is_transport (calling_statement c x.call) ≡ true → x.via ≡ None
MayPass c residual.done = ⊥
MayPass c (residual.reaches goal_of.End) = ⊥
MayPass c (residual.reaches goal_of.Restart) = ⊥
MayPass c (residual.reaches goal_of.Thrown) = ⊤
MayPass c (residual.reaches goal_of.Injected) = ⊤
MayPass c residual.nothing = ⊥

-- where a body is over: at its end, or where a kill or a reset has unwound it
abbrev pub IsOver : Next → Type 0
IsOver (residual.statement s) = ⊥
IsOver (residual.owes s q) = ⊥
IsOver (residual.leaves x) = ⊥
IsOver residual.done = ⊤
IsOver (residual.reaches goal_of.End) = ⊤
IsOver (residual.reaches goal_of.Restart) = ⊤
IsOver (residual.reaches goal_of.Thrown) = ⊥
IsOver (residual.reaches goal_of.Injected) = ⊥
IsOver residual.nothing = ⊤

-- what a statement gives place to: a block that it holds, or nothing; its block and then itself; a body that it calls; what it owes
-- to its target and the descendants of that
pub data Gives (c : Config) (s : ℕ) : Statement → Residual → Type 0 where
  chooses : (e : _) (b : ℕ) (other : Option ℕ) (v : Bool) → Gives c s (code.if_ e b other) (chosen c v b other)
  loops : (e : _) (b : ℕ) (v : Bool) → Gives c s (code.while_ e b) (looped c v s b)
  tries : (b : ℕ) (handlers : List _) → Gives c s (code.try_ b handlers) (try_ (block (arena c) b) handlers)
  calls : (x : Option _) (f : ℕ) (arguments : List _) (args : List Value) → Gives c s (code.call x f arguments) (entered (arena c) f args (Some s) None)
  controls : (k : _) (whom : _) (qs : List ℕ) → Gives c s (code.control k whom true) (batch s qs)
  throws : (whom : _) (e : ℕ) (qs : List ℕ) → Gives c s (code.throw_it whom e true) (batch s qs)

-- what waits at a call that is blocked: a read, a lock, a wait for a semaphore; and a write, where its channel is a fifo
abbrev pub MayBlock : Here → Statement → Type 0
MayBlock h (code.read x t) = ⊤
MayBlock h (code.lock t) = ⊤
MayBlock h (code.sem_wait t) = ⊤
MayBlock h (code.write t y e) = (k : Option ℕ) × (n : ℕ) × (events : ℕ) × (channel_in h t k ≡ Ok (channel.Fifo n events))
MayBlock h other = ⊥

-- the entry of a call over a hop, and of its return, by the statement that calls
abbrev pub IsEntryOf : Option Statement → Bool → ℕ → Bool → Entry → Type 0
IsEntryOf (Some (code.b_transport s n d)) blocks_ t handled e = (blocks_ ≡ true) × (e ≡ BCall t handled)
IsEntryOf (Some (code.nb_transport y s n phase d)) blocks_ t handled e = (blocks_ ≡ false) × (path : _) × (ph : _) × (complete : Bool) × (e ≡ Call t path ph complete handled)
IsEntryOf other blocks_ t handled e = ⊥

-- the handler of the other end, which a blocking call has at the target alone
abbrev pub IsHandler : Config → Via → ℕ → Type 0
IsHandler c via f =
    ((via.blocking ≡ true) × (via.forward ≡ true) × (blocking_handler (slice_get c.design.hops via.hop) ≡ Some f)) ⊎ ((via.blocking ≡ false) × (nonblocking_handler via.forward (slice_get c.design.hops via.hop) ≡ Some f))

abbrev pub IsReturnOf : Option Statement → ℕ → Entry → Type 0
IsReturnOf (Some (code.b_transport s n d)) t e = (complete : Bool) × (e ≡ BReturn t complete)
IsReturnOf (Some (code.nb_transport y s n phase d)) t e = (status : _) × (ph : _) × (complete : Bool) × (e ≡ Return t status ph complete)
IsReturnOf other t e = ⊥

abbrev pub IsOuter : Goal → Type 0
IsOuter goal_of.End = ⊤
IsOuter goal_of.Restart = ⊤
IsOuter goal_of.Thrown = ⊥
IsOuter goal_of.Injected = ⊥

-- a phase behind initialization
abbrev pub IsLater : Phase → Type 0
IsLater phase.Idle = ⊤
IsLater phase.Start = ⊥
IsLater phase.Evaluate = ⊤
IsLater phase.Notify = ⊤
IsLater phase.Timed = ⊤

-- an instance that is neither ended nor active nor disabled
pub record MayWake (c : Config) (p : ℕ) (i : Instance) : Type 0 where
  pub at : instance_at c p ≡ Some i
  pub lives : i.ended ≡ false
  pub inactive : is_active c p ≡ false
  pub enabled : i.disabled ≡ false

-- who is the instance whose turn it is, where it is one's
abbrev pub May : Option ℕ → Config → Move → Type 0
May who c (passing p r) = InTurn who c p r × MayPass c (next_of r)
May who c (placing p r new) = (s : ℕ) × (x : Statement) × InPlace who c p r s x × Gives c s x new
May who c (entering p r b u) = (s : ℕ) × InPlace who c p r s (code.guard b u)
May who c (taking_off p r) = (s : ℕ) × (q : ℕ) × InTurn who c p r × (next_of r ≡ residual.owes s q)
May who c (returning p r v) = (s : ℕ) × (e : Option _) × InPlace who c p r s (code.return_ e)
May who c (beginning p f args) = OnTop who c p × (i : Instance) × (instance_at c p ≡ Some i) × (i.started ≡ false) × (i.code ≡ f) × (i.arguments ≡ args)
May who c (ending p) = (r : Residual) × InTurn who c p r × IsOver (next_of r)
May who c (idling p w d) = (r : Residual) × InTurn who c p r × IsOver (next_of r)
May who c (resetting p) = (r : Residual) × InTurn who c p r × (next_of r ≡ residual.reaches goal_of.Restart)
May who c (waiting p r w d) = (s : ℕ) × (x : _) × InPlace who c p r s (code.wait x)
May who c (blocking p r e) = (s : ℕ) × (x : Statement) × (t : InPlace who c p r s x) × MayBlock (here c p t.turn.instance r) x
May who c (triggering p t) = who ≡ Some p
May who c (spawning p r h x args) = (s : ℕ) × (t : InPlace who c p r s (code.spawn x)) × (h ≡ here c p t.turn.instance r)
May who c (throwing p r e) =
    OnTop who c p × (i : Instance) × (instance_at c p ≡ Some i) × (i.residual ≡ r) × (catches r e ≡ true) × ((has_goal r ≡ false) ⊎ ((s : ℕ) × InPlace who c p r s (code.throw e)))
May who c (injecting q i e) = (p : ℕ) × OnTop who c p × Lives c q i × (is_top c q ≡ false) × (is_below_top c q ≡ false) × (catches i.residual e ≡ true)
May who c (unwinding q i k) = (p : ℕ) × OnTop who c p × Lives c q i × (is_below_top c q ≡ false) × ((is_top c q && has_goal i.residual) ≡ false) × IsOuter k
May who c (suspending_runnable q) = (p : ℕ) × OnTop who c p × (i : Instance) × Lives c q i × (holds c.processes.runnable q ≡ true)
May who c (yielding q) = (p : ℕ) × OnTop who c p × (i : Instance) × Lives c q i × (holds c.processes.runnable q ≡ false) × (yields (with_suspended c q) q i ≡ true)
May who c (suspending q) = (p : ℕ) × OnTop who c p × (i : Instance) × Lives c q i × (holds c.processes.runnable q ≡ false)
May who c (resuming_kept q) = (p : ℕ) × OnTop who c p × (i : Instance) × Lives c q i × (i.kept ≡ true)
May who c (resuming q) = (p : ℕ) × OnTop who c p × (i : Instance) × Lives c q i × (i.kept ≡ false)
May who c (disabling q flag) = (p : ℕ) × OnTop who c p × (i : Instance) × Lives c q i
May who c (staying_reset p) = OnTop who c p × (i : Instance) × (instance_at c p ≡ Some i) × (i.residual ≡ skip) × (i.suspended ≡ true)
May who c (staying_thrown p r) = (t : InTurn who c p r) × (next_of r ≡ residual.reaches goal_of.Injected) × (t.instance.suspended ≡ true)
May who c (joining p) = (i : Instance) × MayWake c p i × (i.suspended ≡ false)
May who c (keeping p) = (i : Instance) × MayWake c p i × (i.suspended ≡ true)
May who c (striking p es) = (i : Instance) × (all : List Ev) × (instance_at c p ≡ Some i) × (i.wait ≡ waits_for_all all)
May who c (notifying e w) = ⊤
May who c (cancelling e) = IsTurn who
May who c falling_due = who ≡ None
May who c (falling_due_at t) = who ≡ None
May who c (setting_local p n v) = who ≡ Some p
May who c (setting_variable n v) = IsTurn who
May who c (setting_memory m bytes) = IsTurn who
May who c (writing n p v s) = (who ≡ Some p) × (slice_get c.channels.signals n ≡ Some s) × (conflict_of (Some p) s.writer ≡ None)
May who c (driving n p v) = who ≡ Some p
May who c (reading_fifo n q) = IsTurn who × (slice_get c.channels.fifos n ≡ Some q) × (v : Value) × (readable q ≡ Some v)
May who c (writing_fifo n q v) = IsTurn who × (slice_get c.channels.fifos n ≡ Some q) × ((free q == 0) ≡ false)
May who c (locking n p m) = (who ≡ Some p) × (slice_get c.channels.mutexes n ≡ Some m)
May who c (unlocking n p m) = (who ≡ Some p) × (slice_get c.channels.mutexes n ≡ Some m)
May who c (taking_semaphore n v) = IsTurn who × (slice_get c.channels.semaphores n ≡ Some v)
May who c (posting n v) = IsTurn who × (slice_get c.channels.semaphores n ≡ Some v)
May who c (making len enables) = IsTurn who
May who c (acquiring t) = IsTurn who
May who c (releasing t) = IsTurn who
May who c (setting_payload t q) = IsTurn who
May who c (trying hop e) = IsTurn who × (s : Option Statement) × (blocks_ : Bool) × (t : ℕ) × IsEntryOf s blocks_ t false e × (broken (history c hop) e ≡ None)
May who c (calling p r s f args via e) =
    (x : Statement) × InPlace who c p r s x × ((h : Hop) × (slice_get c.design.hops via.hop ≡ Some h)) × IsHandler c via f × IsEntryOf (Some x) via.blocking via.payload true e × (broken (history c via.hop) e ≡ None)
May who c (answering p r via e) =
    (x : Frame) × InTurn who c p r × (next_of r ≡ residual.leaves x) × (x.via ≡ Some via) × IsReturnOf (calling_statement c x.call) via.payload e × (broken (history c via.hop) e ≡ None)
May who c (setting_keeper n k) = IsTurn who
May who c (setting_global t) = IsTurn who
May who c (updating x) = (who ≡ None) × (c.channels ≡ x)
May who c (entering_phase ph) = (who ≡ None) × IsLater ph
May who c asking_stop = IsTurn who
May who c stopping = who ≡ None
May who c (reading_on ks) = who ≡ None
May who c (beginning_run end) = who ≡ None
May who c (setting_signal n v) = who ≡ None
May who c (telling t) = ⊤

-- ---- moves one after another

pub data Moves (who : Option ℕ) (c : Config) : Config → Type 0 where
  none : Moves who c c
  then : (d : Config) (m : Move) → Moves who c d → May who d m → Moves who c (made d m)

-- What a step is made of. In a turn it is moves of the one on top of the stack, once the finished parts of its body fell away, which
-- they do nowhere else; between turns it is moves of nobody. In the initialization phase all that are not left out are made
-- runnable together, before any was ever taken; what comes before that changes no process. And where now moves, it does so first,
-- and no channel changes behind it.
pub data StepMoves (c : Config) : Config → Type 0 where
  in_turn : (p : ℕ) (rest : List ℕ) (i : Instance) (d : Config) → c.cycle.phase ≡ phase.Evaluate → c.processes.stack ≡ p ∷ rest → instance_at c p ≡ Some i → Moves (Some p) (settled_in c p i.residual) d → statement_step c p ≡ Ok d → StepMoves c d
  between : (d : Config) → IsLater c.cycle.phase → Moves None c d → StepMoves c d
  initializing : (d e : Config) → c.cycle.phase ≡ phase.Start → Moves None c d → d.processes ≡ c.processes → d.cycle ≡ c.cycle → Moves None (initialize_each 0 c.design.processes d) e → e.cycle.phase ≡ phase.Evaluate → StepMoves c e
  moving_now : (t : ℕ) (d : Config) → c.cycle.phase ≡ phase.Timed → (t == c.cycle.now) ≡ false → Moves None (time_moved c t) d → d.channels ≡ (time_moved c t).channels → StepMoves c d

-- What a taking is made of, where nothing is on the stack: moves of the one that is taken. A serial without an instance is never
-- runnable; its taking would change nothing.
pub data TakingMoves (c : Config) (p : ℕ) : Config → Type 0 where
  of_none : TakingMoves c p c
  of_one : (i : Instance) (d : Config) → c.processes.stack ≡ [] → instance_at c p ≡ Some i → holds c.processes.runnable p ≡ true → Moves (Some p) (turn_taken c p) d → TakingMoves c p d
