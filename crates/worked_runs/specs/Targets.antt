-- The models of the runs of process control: a thread k controls a process t. Items are numbered by their places in the text,
-- and processes by their serials: t is the item 2 and has the serial 0; k is the item 5 and has the serial 3; others follow.
use Rattle.std.specs.Prelude.{ℕ, List, [], ◌∷◌, Some, None, codes, true, false}
use Rattle.sim_model.specs.ModelTree.declared.items.ProcessKind.TheVariants as process
use Rattle.sim_model.specs.ModelTree.declared.statements.Control.TheVariants as control_of
use Rattle.sim_model.specs.ModelTree.declared.expressions.BinaryOp.TheVariants as op
use Rattle.sim_model.specs.EventCore.declared.event.Ev.{Ev}
use Rattle.sim_model.specs.EventCore.declared.event.Ev.TheVariants as ev
use Rattle.sim_model.specs.FlatDesign.declared.value_types.ValueType.TheVariants as type
use Rattle.sim_model.specs.FlatDesign.declared.names.PayloadField.TheVariants as field
use Rattle.sim_model.specs.FlatDesign.declared.code.Await.TheVariants as await
use Rattle.sim_model.specs.FlatDesign.declared.code.Destination.TheVariants as destination
use Rattle.sim_model.specs.FlatDesign.declared.code.Statement.{Statement}
use Rattle.sim_model.specs.FlatDesign.declared.code.Statement.TheVariants as kept
use Rattle.sim_model.specs.FlatDesign.declared.design.Design.{Design}
use Rattle.worked_runs.specs.Body.{Body, end, does, tried, guarded, vec_of, own_event, item, local, named, number, moment, binary, assign, say, say_value, wait_for, wait_on, control, control_self, throw_at, notify}
use Rattle.worked_runs.specs.Build.{design_of, event, variable, exception, thread, method, process_of, procedure, local_of, inout, function_with, instance, initiator, target, hop}
use Rattle.worked_runs.specs.Rows.{byte, integer}

-- a method that runs at an event of t and says so
abbrev pub watcher : List ℕ → Ev → List ℕ → Design → Design
watcher name e text d = process_of process.Method name [] (e ∷ []) true (does (say text ∷ []) end) d

abbrev pub acts : (Design → Design) → Body → List (Design → Design) → Design
acts t k others = design_of (exception (codes "Halt") ∷ exception (codes "Other") ∷ event (codes "e") ∷ event (codes "g")
    ∷ t
    ∷ watcher (codes "w") (ev.Terminated 0) (codes "ended")
    ∷ watcher (codes "v") (ev.Restarted 0) (codes "restarted")
    ∷ thread (codes "k") k
    ∷ others)

-- what k does to t

abbrev pub kill : Statement
kill = control control_of.Kill 2

abbrev pub reset : Statement
reset = control control_of.Reset 2

abbrev pub suspend : Statement
suspend = control control_of.Suspend 2

abbrev pub resume : Statement
resume = control control_of.Resume 2

abbrev pub disable : Statement
disable = control control_of.Disable 2

abbrev pub enable : Statement
enable = control control_of.Enable 2

-- an exception that t catches, and one that it does not
abbrev pub halt : Statement
halt = throw_at 2 0

abbrev pub other : Statement
other = throw_at 2 1

-- and else

abbrev pub says : Statement
says = say (codes "k")

abbrev pub later : Statement
later = wait_for 1000

abbrev pub fires : Statement
fires = notify 0

abbrev pub fires_g : Statement
fires_g = notify 1

abbrev pub after_a_while : List Statement → Body
after_a_while ss = does (later ∷ ss) end

-- a thread that waits for the event e, inside a guard inside a try, and then once more
abbrev pub waiter : Design → Design
waiter d = thread (codes "t")
    (does (say (codes "begin") ∷ [])
    (tried (guarded (does (wait_on 0 ∷ say (codes "woke") ∷ []) end) (does (say (codes "undo") ∷ []) end) end) 0 (does (say (codes "halted") ∷ []) end)
    (does (wait_on 0 ∷ say (codes "end") ∷ []) end))) d

-- at 1 ns, where t waits; and at once, where t may be taken after k
abbrev pub on_waiter : List Statement → Design
on_waiter ss = acts waiter (after_a_while ss) []

abbrev pub on_unstarted : List Statement → Design
on_unstarted ss = acts waiter (does ss end) []

-- a method that is sensitive to e
abbrev pub on_method : List Statement → Design
on_method ss = acts (method (codes "t") (ev.Fixed 0 ∷ []) (does (say (codes "run") ∷ []) end)) (after_a_while ss) []

-- a thread that waits for e at most 2 ns, and one that waits for e and g
abbrev pub on_timed : List Statement → Design
on_timed ss = acts (thread (codes "t") (does (say (codes "begin") ∷ kept.Wait (await.Any (vec_of (own_event 0 ∷ []) tt) (Some (moment 2000))) ∷ say (codes "woke") ∷ []) end)) (after_a_while ss) []

abbrev pub on_both : List Statement → Design
on_both ss = acts (thread (codes "t") (does (say (codes "begin") ∷ kept.Wait (await.All (vec_of (own_event 0 ∷ own_event 1 ∷ []) tt) None) ∷ say (codes "woke") ∷ []) end)) (after_a_while ss) []

-- a spawned instance changes its argument, and is reset
abbrev pub respawned : Design
respawned = design_of (event (codes "e") ∷ variable (codes "h") type.Process
    ∷ procedure (codes "w") (local_of (codes "n") byte ∷ [])
    (does (say_value (codes "n") (named (local 0)) ∷ assign (local 0) byte (binary op.Add (type.Uint 64) (named (local 0)) (number 1)) ∷ say_value (codes "n") (named (local 0)) ∷ wait_on 0 ∷ []) end)
    ∷ thread (codes "k")
    (does (kept.Spawn (record { handle = Some (item 1); kind = process.Thread; function = 0; arguments = vec_of (number 5 ∷ []) tt; sensitive = []; dont_initialize = false }) ∷ later ∷ control control_of.Reset 1 ∷ says ∷ []) end)
    ∷ [])

-- A thread suspends itself in the handler of a transport call, and another thread of its module resumes it at 3 ns.
abbrev pub suspends_in : Statement → (Design → Design) → Design
suspends_in calls handler = design_of (instance (codes "i") 0 ∷ initiator (codes "s") 0 None
    ∷ variable (codes "p") type.Payload ∷ variable (codes "ph") (type.Int 32) ∷ variable (codes "d") type.Time
    ∷ thread (codes "t")
    (does (kept.Make (item 1) (number 1) None ∷ kept.Assign (destination.Field (item 1) field.Status) (integer 1) ∷ assign (item 2) (type.Int 32) (integer 1) ∷ calls ∷ say (codes "back") ∷ later ∷ say (codes "late") ∷ []) end)
    ∷ thread (codes "k") (does (wait_for 3000 ∷ control control_of.Resume 4 ∷ []) end)
    ∷ instance (codes "g") 0 ∷ target (codes "s") 0 (Some 2) (Some 2)
    ∷ hop (record { initiator = 2; target = 9; initiator_home = 1; target_home = 2; backward = None; blocking = Some 2; forward = Some 2 })
    ∷ handler
    ∷ [])

abbrev pub suspending : Statement
suspending = control_self control_of.Suspend

abbrev pub suspends_in_nb : Design
suspends_in_nb = suspends_in (kept.NbTransport None 0 (item 1) (item 2) (item 3))
    (function_with (codes "f") (local_of (codes "p") type.Payload ∷ inout (codes "ph") (type.Int 32) ∷ inout (codes "d") type.Time ∷ []) (type.Int 32)
    (does (suspending ∷ say (codes "in") ∷ kept.Return (Some (integer 2)) ∷ []) end))

abbrev pub suspends_in_b : Design
suspends_in_b = suspends_in (kept.BTransport 0 (item 1) (item 3))
    (procedure (codes "h") (local_of (codes "p") type.Payload ∷ inout (codes "d") type.Time ∷ []) (does (suspending ∷ say (codes "in") ∷ []) end))
