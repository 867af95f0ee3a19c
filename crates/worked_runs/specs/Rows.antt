-- The models of the worked runs. Items are numbered by their places in the text, events of the design as they come, and
-- processes by their serials.
use Rattle.std.specs.Prelude.{ℕ, Bool, false, List, [], ◌∷◌, ◌^◌, ◌-◌, Option, Some, None, true, codes}
use Rattle.sim_model.specs.LogicValues.declared.kinds.Digit.{Digit}
use Rattle.sim_model.specs.LogicValues.declared.kinds.Digit.TheVariants as digit
use Rattle.sim_model.specs.LogicValues.declared.kinds.Value.TheVariants as value
use Rattle.sim_model.specs.ModelTree.declared.items.ProcessKind.TheVariants as process
use Rattle.sim_model.specs.ModelTree.declared.expressions.BinaryOp.TheVariants as op
use Rattle.sim_model.specs.ModelTree.declared.statements.Control.TheVariants as control_of
use Rattle.sim_model.specs.EventCore.declared.event.Ev.TheVariants as ev
use Rattle.sim_model.specs.FlatDesign.declared.value_types.ValueType.{ValueType}
use Rattle.sim_model.specs.FlatDesign.declared.value_types.ValueType.TheVariants as type
use Rattle.sim_model.specs.FlatDesign.declared.names.Member.TheVariants as member
use Rattle.sim_model.specs.FlatDesign.declared.code.Await.TheVariants as await
use Rattle.sim_model.specs.FlatDesign.declared.code.Controlled.TheVariants as controlled
use Rattle.sim_model.specs.FlatDesign.declared.code.Statement.{Statement}
use Rattle.sim_model.specs.FlatDesign.declared.code.Store.{Store}
use Rattle.sim_model.specs.FlatDesign.declared.code.Statement.TheVariants as kept
use Rattle.sim_model.specs.FlatDesign.declared.terms.Expr.{Expr, Placed'}
use Rattle.sim_model.specs.FlatDesign.declared.terms.Expr.TheVariants as expr
use Rattle.sim_model.specs.FlatDesign.declared.objects.LeadsTo.TheVariants as leads_to
use Rattle.sim_model.specs.FlatDesign.declared.design.ChannelId.{ChannelId}
use Rattle.sim_model.specs.FlatDesign.declared.design.ChannelId.TheVariants as channel_id
use Rattle.sim_model.specs.FlatDesign.declared.design.Design.{Design}
use Rattle.worked_runs.specs.Body.{Body, end, then, does, choice, loop, guarded, tried, vec_of, boxed, own_event, item, local, named, number, moment, binary, store, channel, assign, say, say_value, write, wait_for, wait_delta, wait_on, control, throw_at, call}
use Rattle.worked_runs.specs.Build.{design_of, signal, many_signal, resolved, fifo, event, variable, exception, function, local_of, thread, thread_with, method, process_of, instance, port, clock, mutex, buffer, semaphore}

abbrev pub byte : ValueType
byte = type.Uint 8

abbrev pub one : Expr
one = expr.Literal (value.Bool true)

abbrev pub signed : ValueType
signed = type.Int 64

abbrev pub integer : ℕ → Expr
integer n = expr.Literal (value.Int 64 n)

-- a thread writes a signal and prints it before and after the update
abbrev pub writer : Design
writer = design_of (signal (codes "a") byte
    ∷ thread (codes "t") (then (write 0 byte (number 5)) (then (say_value (codes "a") (named (item 0))) (then wait_delta (then (say_value (codes "a") (named (item 0))) end))))
    ∷ [])

-- one event is notified three times, and the earliest notification stands
abbrev pub earliest : Design
earliest = design_of (event (codes "e")
    ∷ thread (codes "t") (then (kept.NotifyAfter 0 (moment 10000)) (then (kept.NotifyAfter 0 (moment 7000)) (then (kept.NotifyAfter 0 (moment 20000)) end)))
    ∷ thread (codes "w") (then (wait_on 0) (then (say (codes "w")) (then (wait_on 0) (then (say (codes "again")) end))))
    ∷ [])

-- a method is not woken by its own immediate notification
abbrev pub own_notification : Design
own_notification = design_of (event (codes "e") ∷ variable (codes "n") byte
    ∷ method (codes "s") (ev.Fixed 0 ∷ []) (then (assign (item 1) byte (binary op.Add (type.Uint 64) (named (item 1)) (number 1))) (then (say_value (codes "n") (named (item 1))) (then (kept.Notify 0) end)))
    ∷ [])

-- a notification is cancelled
abbrev pub cancelled : Design
cancelled = design_of (event (codes "e")
    ∷ thread (codes "t") (then (kept.NotifyAfter 0 (moment 5000)) (then (kept.Cancel 0) end))
    ∷ thread (codes "w") (then (wait_on 0) (then (say (codes "w")) end))
    ∷ [])

-- a wait for all of two events ends by its time
abbrev pub timed_out : Design
timed_out = design_of (event (codes "e") ∷ event (codes "f")
    ∷ thread (codes "t") (then (kept.NotifyAfter 0 (moment 3000)) (then (kept.NotifyAfter 1 (moment 12000)) end))
    ∷ thread (codes "w") (then (kept.Wait (await.All (vec_of (own_event 0 ∷ own_event 1 ∷ []) tt) (Some (moment 10000)))) (then (say (codes "woke")) end))
    ∷ [])

-- two threads write one signal
abbrev pub two_writers : Design
two_writers = design_of (signal (codes "a") type.Bool ∷ thread (codes "p") (then (write 0 type.Bool one) end) ∷ thread (codes "q") (then (write 0 type.Bool one) end) ∷ [])

-- two threads drive resolved signals
abbrev pub drive : ℕ → Digit → Statement
drive n d = write n type.Logic (expr.Literal (value.Logic d))

abbrev pub drivers : Design
drivers = design_of (resolved (codes "r") ∷ resolved (codes "s")
    ∷ thread (codes "p") (then (drive 0 digit.Zero) (then (drive 1 digit.Z) end))
    ∷ thread (codes "q") (then (drive 0 digit.One) (then (drive 1 digit.One) end))
    ∷ [])

-- a fifo of one place between two threads
abbrev pub read_and_say : Body → Body
read_and_say rest = then (kept.Read (Some (store (local 0) byte)) (channel 0)) (then (say_value (codes "x") (named (local 0))) rest)

abbrev pub through_fifo : Design
through_fifo = design_of (fifo (codes "f") byte 1
    ∷ thread (codes "p") (then (write 0 byte (number 1)) (then (write 0 byte (number 2)) (then (write 0 byte (number 3)) end)))
    ∷ thread_with (codes "c") (local_of (codes "x") byte ∷ []) (then (kept.Var 0 byte None) (read_and_say (read_and_say (read_and_say end))))
    ∷ [])

-- a thread is killed in a function, inside two guards
abbrev pub killed : Design
killed = design_of (event (codes "e")
    ∷ function (codes "inner") (guarded (then (wait_on 0) (then (say (codes "woke")) end)) (then (say (codes "in")) end) end)
    ∷ thread (codes "t") (guarded (then (call 0) end) (then (say (codes "out")) end) end)
    ∷ thread (codes "k") (then (wait_for 5000) (then (control control_of.Kill 2) (then (say (codes "killed")) (then (kept.Notify 0) end))))
    ∷ [])

-- a thread is reset inside a guard
abbrev pub restarted : Design
restarted = design_of (event (codes "e")
    ∷ thread (codes "t") (then (say (codes "start")) (guarded (then (wait_on 0) end) (then (say (codes "undo")) end) end))
    ∷ thread (codes "k") (then (wait_for 3000) (then (control control_of.Reset 1) (then (say (codes "after")) end)))
    ∷ [])

-- exceptions are thrown at a thread that catches the first
abbrev pub thrown_at : Design
thrown_at = design_of (exception (codes "Halt") ∷ exception (codes "Other") ∷ event (codes "e")
    ∷ thread (codes "t") (tried (then (wait_on 0) end) 0 (then (say (codes "caught")) end) (then (wait_on 0) end))
    ∷ thread (codes "k") (then (wait_for 1000) (then (throw_at 1 0) (then (say (codes "thrown")) (then (throw_at 1 1) (then (say (codes "never")) end)))))
    ∷ [])

-- a method is suspended and resumed, and another disabled and enabled
abbrev pub flags : Design
flags = design_of (event (codes "e")
    ∷ thread (codes "c") (then (control control_of.Suspend 2) (then (control control_of.Resume 2) end))
    ∷ method (codes "r") [] (then (say (codes "r")) end)
    ∷ process_of process.Method (codes "d") [] (ev.Fixed 0 ∷ []) true (then (say (codes "d")) end)
    ∷ thread (codes "k") (then (control control_of.Disable 3) (then (wait_for 5000) (then (kept.Notify 0) (then (wait_for 1000) (then (control control_of.Enable 3) (then (wait_for 1000) (then (kept.Notify 0) end)))))))
    ∷ [])

-- a thread waits for a time and prints
abbrev pub sleeper : Design
sleeper = design_of (thread (codes "t") (then (wait_for 10000) (then (say (codes "x")) end)) ∷ [])

-- a loop without an end
abbrev pub forever : Design
forever = design_of (thread (codes "t") (loop one end end) ∷ [])

-- two threads print
abbrev pub two_prints : Design
two_prints = design_of (thread (codes "p") (then (say (codes "p")) end) ∷ thread (codes "q") (then (say (codes "q")) end) ∷ [])

-- three threads print
abbrev pub three_prints : Design
three_prints = design_of (thread (codes "p") (then (say (codes "p")) end) ∷ thread (codes "q") (then (say (codes "q")) end) ∷ thread (codes "r") (then (say (codes "r")) end) ∷ [])

-- a wait past the greatest time
abbrev pub past_the_end : Design
past_the_end = design_of (thread (codes "t") (then (wait_for (2 ^ 64 - 1)) (then (wait_for 1) end)) ∷ [])

-- a signal that only the script sets
abbrev pub set_by_script : Design
set_by_script = design_of (signal (codes "a") type.Bool ∷ [])

-- a thread asks for the end of the session
abbrev pub stopping : Design
stopping = design_of (thread (codes "t") (then kept.Stop (then (say (codes "a")) (then wait_delta (then (say (codes "b")) end)))) ∷ [])

-- the unwind block of a killed thread kills its killer
abbrev pub kill_below : Design
kill_below = design_of (event (codes "e")
    ∷ thread (codes "t") (guarded (then (wait_on 0) end) (then (control control_of.Kill 2) end) end)
    ∷ thread (codes "k") (then (wait_for 1000) (then (control control_of.Kill 1) end))
    ∷ [])

-- a handle that holds no process
abbrev pub empty_handle : Design
empty_handle = design_of (thread_with (codes "t") (local_of (codes "h") type.Process ∷ []) (then (kept.Var 0 type.Process None) (then (kept.Control control_of.Kill (controlled.Named (local 0)) false) end)) ∷ [])

-- stored values are cut to their types, and a remainder has the sign of what is divided
abbrev pub numbers : Design
numbers = design_of (signal (codes "a") byte ∷ variable (codes "n") (type.Int 8)
    ∷ method (codes "s") (ev.Fixed 0 ∷ []) (then (assign (item 1) (type.Int 8) (integer 200)) (then (say_value (codes "n") (named (item 1)))
    (then (say_value (codes "q") (binary op.Remainder signed (binary op.Subtract signed (integer 7) (integer 9)) (integer 4))) (then (write 0 byte (integer 300)) end))))
    ∷ [])

-- a division by zero
abbrev pub by_zero : Design
by_zero = design_of (method (codes "s") [] (then (say_value (codes "x") (binary op.Divide signed (integer 1) (integer 0))) end) ∷ [])

-- a counter of a clock's posedges, two instances deep
abbrev pub set_to : Bool → Statement
set_to b = write 0 type.Bool (expr.Literal (value.Bool b))

abbrev pub ticking : Body
ticking = loop one (then (set_to true) (then (wait_for 5000) (then (set_to false) (then (wait_for 5000) end)))) end

abbrev pub clk : List ChannelId
clk = channel_id.Signal 0 0 ∷ []

abbrev pub q : List ChannelId
q = channel_id.Signal 1 3 ∷ []

abbrev pub clocked_counter : Design
clocked_counter = design_of (clock (codes "clk") 10000 5000 ticking ∷ signal (codes "q") byte
    ∷ instance (codes "b") 0 ∷ port (codes "clk") (leads_to.In type.Bool) clk ∷ port (codes "q") (leads_to.Out byte) q
    ∷ instance (codes "c") 3 ∷ port (codes "clk") (leads_to.In type.Bool) clk ∷ port (codes "q") (leads_to.Out byte) q ∷ variable (codes "n") byte
    ∷ process_of process.Method (codes "tick") [] (ev.Fixed 1 ∷ []) true (then (assign (item 2) byte (binary op.Add (type.Uint 64) (named (item 2)) (number 1))) (then (write 1 byte (named (item 2))) end))
    ∷ [])

-- a mutex between two threads
abbrev pub locked : Design
locked = design_of (mutex (codes "x")
    ∷ thread (codes "p") (then (kept.Lock (channel 0)) (then (wait_for 2000) (then (kept.Unlock None (channel 0)) (then (say (codes "p")) end))))
    ∷ thread (codes "q") (then (kept.Lock (channel 0)) (then (say_value (codes "q") expr.Now) (then (kept.Unlock None (channel 0)) end)))
    ∷ [])

-- a buffer announces an equal value
abbrev pub buffered : Design
buffered = design_of (buffer (codes "b") type.Bool
    ∷ process_of process.Method (codes "s") [] (ev.Fixed 0 ∷ []) true (then (say_value (codes "b") (named (item 0))) end)
    ∷ thread (codes "t") (then (write 0 type.Bool (expr.Literal (value.Bool false))) end)
    ∷ [])

-- a semaphore
abbrev pub counted : Design
counted = design_of (semaphore (codes "s") 1
    ∷ thread_with (codes "t") (local_of (codes "r") (type.Int 32) ∷ []) (then (kept.Var 0 (type.Int 32) None) (then (kept.SemWait (channel 0)) (then (kept.SemTrywait (Some (store (local 0) (type.Int 32))) (channel 0))
    (then (say_value (codes "r") (named (local 0))) (then (kept.Post (channel 0)) (then (say_value (codes "v") (expr.Member (item 0) member.Value)) end))))))
    ∷ [])

-- a port of two channels
abbrev pub two_channels : Design
two_channels = design_of (signal (codes "a") type.Bool ∷ signal (codes "b") type.Bool
    ∷ instance (codes "c") 0 ∷ port (codes "p") (leads_to.In type.Bool) (channel_id.Signal 0 0 ∷ channel_id.Signal 1 3 ∷ [])
    ∷ method (codes "s") (ev.Fixed 0 ∷ ev.Fixed 3 ∷ []) (then (say_value (codes "p") (Placed' 0 boxed (number 1))) end)
    ∷ [])

-- a mutex for which two threads wait
abbrev pub contended : Design
contended = design_of (mutex (codes "x")
    ∷ thread (codes "p") (does (kept.Lock (channel 0) ∷ wait_for 1000 ∷ kept.Unlock None (channel 0) ∷ []) end)
    ∷ thread (codes "q") (does (kept.Lock (channel 0) ∷ say (codes "q") ∷ wait_for 1000 ∷ kept.Unlock None (channel 0) ∷ []) end)
    ∷ thread (codes "r") (does (kept.Lock (channel 0) ∷ say (codes "r") ∷ kept.Unlock None (channel 0) ∷ []) end)
    ∷ [])

-- what locks answer
abbrev pub answered : Statement
answered = say_value (codes "r") (named (item 1))

abbrev pub result : Option Store
result = Some (store (item 1) (type.Int 32))

abbrev pub tried_locks : Design
tried_locks = design_of (mutex (codes "x") ∷ variable (codes "r") (type.Int 32)
    ∷ thread (codes "p") (does (kept.Trylock result (channel 0) ∷ answered ∷ kept.Trylock result (channel 0) ∷ answered ∷ wait_for 1000 ∷ kept.Unlock result (channel 0) ∷ answered ∷ []) end)
    ∷ thread (codes "q") (does (kept.Unlock result (channel 0) ∷ answered ∷ []) end)
    ∷ [])

-- a semaphore for which two threads wait
abbrev pub used_up : Design
used_up = design_of (semaphore (codes "s") 0
    ∷ thread (codes "p") (does (kept.SemWait (channel 0) ∷ say (codes "p") ∷ []) end)
    ∷ thread (codes "q") (does (kept.SemWait (channel 0) ∷ say (codes "q") ∷ []) end)
    ∷ thread (codes "k") (does (kept.Post (channel 0) ∷ wait_for 1000 ∷ kept.Post (channel 0) ∷ []) end)
    ∷ [])

-- a fifo of one place is read and written without blocking
abbrev pub told_ok : Statement
told_ok = say_value (codes "ok") (named (item 1))

abbrev pub ok : Option Store
ok = Some (store (item 1) type.Bool)

abbrev pub unblocked : Design
unblocked = design_of (fifo (codes "f") byte 1 ∷ variable (codes "ok") type.Bool ∷ variable (codes "x") byte
    ∷ thread (codes "t")
    (does (kept.NbRead ok (channel 0) (store (item 2) byte) ∷ told_ok ∷ kept.NbWrite ok (channel 0) byte (number 5) ∷ told_ok ∷ kept.NbWrite ok (channel 0) byte (number 6) ∷ told_ok ∷ wait_delta
    ∷ kept.NbRead ok (channel 0) (store (item 2) byte) ∷ told_ok ∷ say_value (codes "x") (named (item 2)) ∷ []) end)
    ∷ [])

-- a function calls itself without an end
abbrev pub endless_calls : Design
endless_calls = design_of (function (codes "f") (does (call 0 ∷ []) end) ∷ thread (codes "t") (does (call 0 ∷ []) end) ∷ [])

-- two threads write one signal, the second one 1 ns later
abbrev pub writes_later : (List ℕ → ValueType → Design → Design) → Design
writes_later kind = design_of (kind (codes "a") type.Bool ∷ thread (codes "p") (does (write 0 type.Bool one ∷ []) end)
    ∷ thread (codes "q") (does (wait_for 1000 ∷ write 0 type.Bool (expr.Literal (value.Bool false)) ∷ []) end) ∷ [])

abbrev pub shared_writers : Design
shared_writers = design_of (many_signal (codes "a") type.Bool ∷ thread (codes "p") (does (write 0 type.Bool one ∷ []) end) ∷ thread (codes "q") (does (write 0 type.Bool one ∷ []) end) ∷ [])

-- a method chooses by a signal
abbrev pub chooses : Design
chooses = design_of (signal (codes "a") type.Bool
    ∷ method (codes "s") (ev.Fixed 0 ∷ []) (choice (named (item 0)) (does (say (codes "on") ∷ []) end) (does (say (codes "off") ∷ []) end) (does (say (codes "behind") ∷ []) end))
    ∷ [])
