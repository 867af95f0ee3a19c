-- The models of the worked runs of spawned instances, payloads, transport calls and quantum keepers.
use Rattle.std.specs.Prelude.{ℕ, List, [], ◌∷◌, ◌++◌, Some, None, codes, true, false}
use Rattle.sim_model.specs.ModelTree.declared.items.ProcessKind.TheVariants as process
use Rattle.sim_model.specs.ModelTree.declared.expressions.BinaryOp.TheVariants as op
use Rattle.sim_model.specs.ModelTree.declared.statements.Control.TheVariants as control_of
use Rattle.sim_model.specs.FlatDesign.declared.value_types.ValueType.TheVariants as type
use Rattle.sim_model.specs.FlatDesign.declared.names.Member.TheVariants as member
use Rattle.sim_model.specs.FlatDesign.declared.names.PayloadField.{PayloadField}
use Rattle.sim_model.specs.FlatDesign.declared.names.PayloadField.TheVariants as field
use Rattle.sim_model.specs.FlatDesign.declared.names.PayloadBytes.TheVariants as bytes_of
use Rattle.sim_model.specs.FlatDesign.declared.names.EventMember.TheVariants as event_member
use Rattle.sim_model.specs.FlatDesign.declared.code.Argument.TheVariants as argument
use Rattle.sim_model.specs.FlatDesign.declared.code.Await.TheVariants as await
use Rattle.sim_model.specs.FlatDesign.declared.code.Destination.TheVariants as destination
use Rattle.sim_model.specs.FlatDesign.declared.code.Local.{Local}
use Rattle.sim_model.specs.FlatDesign.declared.code.Statement.{Statement}
use Rattle.sim_model.specs.FlatDesign.declared.code.Statement.TheVariants as kept
use Rattle.sim_model.specs.FlatDesign.declared.terms.Expr.{Expr, Element'}
use Rattle.sim_model.specs.FlatDesign.declared.terms.Expr.TheVariants as expr
use Rattle.sim_model.specs.FlatDesign.declared.design.Hop.{Hop}
use Rattle.sim_model.specs.FlatDesign.declared.design.Design.{Design}
use Rattle.worked_runs.specs.Body.{Body, end, then, does, branch, loop, guarded, tried, vec_of, boxed, item, local, named, number, moment, binary, store, assign, say, say_value, wait_for, wait_on, control, notify}
use Rattle.worked_runs.specs.Build.{design_of, event, variable, function, function_with, local_of, inout, thread, thread_with, instance, initiator, target, hop, keeper, memory, exception, procedure}
use Rattle.worked_runs.specs.Rows.{byte, integer}

-- an instance is killed, and another one spawned after it
abbrev pub spawn_as : ℕ → ℕ → Statement
spawn_as n f = kept.Spawn (record { handle = Some (item n); kind = process.Thread; function = f; arguments = vec_of [] tt; sensitive = []; dont_initialize = false })

abbrev pub has_ended : ℕ → Expr
has_ended n = expr.Member (item n) member.Terminated

abbrev pub spawned : Design
spawned = design_of (event (codes "e") ∷ event (codes "g") ∷ variable (codes "h") type.Process ∷ variable (codes "n") type.Process
    ∷ function (codes "w") (then (wait_on 0) (then (say (codes "old")) end))
    ∷ function (codes "v") (then (wait_on 1) (then (say (codes "new")) end))
    ∷ thread (codes "k") (then (spawn_as 2 0) (then (wait_for 1000) (then (control control_of.Kill 2) (then (spawn_as 3 1) (then (wait_for 1000) (then (kept.Notify 0)
    (then (say_value (codes "ended") (has_ended 2)) (then (say_value (codes "other") (has_ended 3)) end))))))))
    ∷ [])

-- a payload is carried to a memory, with enable bytes and a streaming width
abbrev pub with_field : PayloadField → ℕ → Statement
with_field f n = kept.Assign (destination.Field (local 0) f) (number n)

abbrev pub with_data : ℕ → ℕ → Statement
with_data i n = kept.Assign (destination.PayloadByte (local 0) bytes_of.Data (number i)) (number n)

abbrev pub byte_at : ℕ → Expr
byte_at i = Element' 0 boxed (number i)

abbrev pub carried : Design
carried = design_of (memory (codes "mem") 64
    ∷ thread_with (codes "t") (local_of (codes "p") type.Payload ∷ []) (then (kept.Var 0 type.Payload None) (then (kept.Make (local 0) (number 4) (Some (number 2)))
    (then (with_field field.Command 1) (then (with_field field.Address 16) (then (with_field field.Width 2)
    (then (with_data 0 17) (then (with_data 1 34) (then (with_data 2 51) (then (with_data 3 68)
    (then (kept.Assign (destination.PayloadByte (local 0) bytes_of.ByteEnable (number 1)) (number 0)) (then (kept.Carry (local 0) 0)
    (then (say_value (codes "status") (expr.Member (local 0) (member.Field field.Status))) (then (say_value (codes "b") (byte_at 16)) (then (say_value (codes "b") (byte_at 17)) end))))))))))))))
    ∷ [])

-- a quantum keeper
abbrev pub keeping : Design
keeping = design_of (keeper (codes "k")
    ∷ thread_with (codes "t") (local_of (codes "i") byte ∷ []) (then (kept.Var 0 byte None) (then (kept.QkGlobal (moment 10000)) (then (kept.QkReset 0)
    (loop (binary op.Less (type.Uint 64) (named (local 0)) (number 3))
    (then (kept.QkInc 0 (moment 4000))
    (branch (expr.Member (item 0) member.NeedSync)
    (then (kept.Wait (await.For (expr.Member (item 0) member.Local))) (then (kept.QkReset 0) (then (say (codes "sync")) (then (say_value (codes "next") (expr.Member (item 0) member.Next)) end))))
    (then (assign (local 0) byte (binary op.Add (type.Uint 64) (named (local 0)) (number 1))) end)))
    end))))
    ∷ [])

-- calls of the base protocol between two instances

abbrev pub handler_locals : List Local
handler_locals = local_of (codes "p") type.Payload ∷ inout (codes "ph") (type.Int 32) ∷ inout (codes "d") type.Time ∷ []

abbrev pub answers : ℕ → Statement
answers n = kept.Return (Some (integer n))

abbrev pub the_hop : ℕ → Hop
the_hop g = record { initiator = 2; target = g; initiator_home = 1; target_home = 2; backward = Some 0; blocking = None; forward = Some 2 }

abbrev pub sending : Body → Body
sending rest =
    then (kept.Var 0 type.Payload None) (then (kept.Var 1 type.Payload None) (then (kept.Var 2 (type.Int 32) None) (then (kept.Var 3 (type.Int 32) None) (then (kept.Var 4 type.Time None)
    (then (kept.Make (local 0) (number 1) None) (then (kept.Make (local 1) (number 1) None) (then (assign (local 2) (type.Int 32) (integer 1))
    (then (kept.NbTransport (Some (store (local 3) (type.Int 32))) 0 (local 0) (local 2) (local 4)) (then (say_value (codes "r") (named (local 3))) rest)))))))))

abbrev pub sender : Body → List (Design → Design)
sender rest =
    instance (codes "i") 0 ∷ initiator (codes "s") 0 (Some 0)
    ∷ function_with (codes "b") handler_locals (type.Int 32) (then (answers 2) end)
    ∷ thread_with (codes "t") (local_of (codes "p") type.Payload ∷ local_of (codes "q") type.Payload ∷ local_of (codes "ph") (type.Int 32) ∷ local_of (codes "r") (type.Int 32) ∷ local_of (codes "d") type.Time ∷ []) (sending rest)
    ∷ []

-- a second request before the first is answered
abbrev pub second_request : Design
second_request = design_of (sender (then (assign (local 2) (type.Int 32) (integer 1)) (then (kept.NbTransport (Some (store (local 3) (type.Int 32))) 0 (local 1) (local 2) (local 4)) (then (say (codes "never")) end)))
    ++ instance (codes "g") 0 ∷ target (codes "s") 0 None (Some 2) ∷ hop (the_hop 6)
    ∷ function_with (codes "f") handler_locals (type.Int 32) (then (say (codes "f")) (then (answers 0) end))
    ∷ [])

-- a response that comes later, as the thread of the target sends it

abbrev pub target_with : Body → List (Design → Design)
target_with rest = instance (codes "g") 0 ∷ target (codes "s") 0 None (Some 2) ∷ hop (the_hop 6)
    ∷ function_with (codes "f") handler_locals (type.Int 32) (then (assign (item 2) type.Payload (named (local 0))) (then (kept.NotifyAfter 3 (moment 1000)) (then (answers 0) end)))
    ∷ variable (codes "k") type.Payload ∷ event (codes "go")
    ∷ thread_with (codes "u") (local_of (codes "ph") (type.Int 32) ∷ local_of (codes "r") (type.Int 32) ∷ local_of (codes "d") type.Time ∷ [])
    (then (kept.Var 0 (type.Int 32) None) (then (kept.Var 1 (type.Int 32) None) (then (kept.Var 2 type.Time None) (then (wait_on 3) rest))))
    ∷ []

abbrev pub completing : Body → Body
completing rest = then (kept.Assign (destination.Field (item 2) field.Status) (integer 1)) rest

abbrev pub responding : Body → Body
responding rest = then (assign (local 0) (type.Int 32) (integer 3)) (then (kept.NbTransport (Some (store (local 1) (type.Int 32))) 0 (item 2) (local 0) (local 2)) (then (say_value (codes "r") (named (local 1))) rest))

abbrev pub response : Body → Design
response b = design_of (sender end ++ target_with b)

-- a blocking call, whose handler waits and carries, or does nothing

abbrev pub blocking_call : Body → Design
blocking_call handler = design_of (instance (codes "i") 0 ∷ initiator (codes "s") 0 None
    ∷ thread_with (codes "t") (local_of (codes "p") type.Payload ∷ local_of (codes "d") type.Time ∷ [])
    (then (kept.Var 0 type.Payload None) (then (kept.Var 1 type.Time None) (then (kept.Make (local 0) (number 2) None) (then (with_field field.Command 1) (then (with_data 0 42)
    (then (kept.BTransport 0 (local 0) (local 1)) (then (say_value (codes "status") (expr.Member (local 0) (member.Field field.Status))) (then (say_value (codes "now") expr.Now)
    (then (kept.Release (local 0)) (then (say_value (codes "live") (expr.Member (local 0) member.Live)) end))))))))))
    ∷ instance (codes "g") 0 ∷ target (codes "s") 0 (Some 1) None ∷ memory (codes "m") 16
    ∷ hop (record { initiator = 2; target = 5; initiator_home = 1; target_home = 2; backward = None; blocking = Some 1; forward = None })
    ∷ procedure (codes "h") (local_of (codes "p") type.Payload ∷ inout (codes "d") type.Time ∷ []) handler
    ∷ [])

abbrev pub carrying : Body
carrying = then (wait_for 3000) (then (kept.Carry (local 0) 1) end)

-- a keeper that is reset at some time
abbrev pub late_keeper : Design
late_keeper = design_of (keeper (codes "k")
    ∷ thread (codes "t") (then (wait_for 3000) (then (kept.QkGlobal (moment 10000)) (then (kept.QkReset 0) (then (say_value (codes "next") (expr.Member (item 0) member.Next)) end))))
    ∷ [])

-- functions with arguments, and an exception that passes a guard

abbrev pub called : Design
called = design_of (exception (codes "Bad")
    ∷ function_with (codes "add") (local_of (codes "x") byte ∷ inout (codes "y") byte ∷ []) byte
    (then (assign (local 1) byte (binary op.Add (type.Uint 64) (named (local 1)) (named (local 0)))) (then (kept.Return (Some (binary op.Multiply (type.Uint 64) (named (local 1)) (number 2)))) end))
    ∷ thread_with (codes "t") (local_of (codes "k") byte ∷ local_of (codes "r") byte ∷ [])
    (then (kept.Var 0 byte (Some (number 3))) (then (kept.Var 1 byte None) (then (kept.Call (Some (store (local 1) byte)) 0 (vec_of (argument.Value (number 4) ∷ argument.Inout (local 0) ∷ []) tt))
    (then (say_value (codes "k") (named (local 0))) (then (say_value (codes "r") (named (local 1)))
    (tried (guarded (then (kept.Throw 0) end) (then (say (codes "undo")) end) end) 0 (then (say (codes "caught")) end) end))))))
    ∷ [])

abbrev pub awaited : Design
awaited = design_of (procedure (codes "w") (local_of (codes "n") byte ∷ []) (then (say_value (codes "w") (named (local 0))) end)
    ∷ thread_with (codes "t") (local_of (codes "h") type.Process ∷ [])
    (then (kept.Var 0 type.Process None)
    (then (kept.Spawn (record { handle = Some (local 0); kind = process.Thread; function = 0; arguments = vec_of (number 5 ∷ []) tt; sensitive = []; dont_initialize = false }))
    (then (kept.Wait (await.Any (vec_of ((record { name = local 0; place = None; event = event_member.Terminated }) ∷ []) tt) None)) (then (say_value (codes "done") (expr.Member (local 0) member.Terminated)) end))))
    ∷ [])

-- a spawned method, whose argument is changed in each turn
abbrev pub spawned_method : Design
spawned_method = design_of (event (codes "e")
    ∷ procedure (codes "w") (local_of (codes "n") byte ∷ []) (does (say_value (codes "n") (named (local 0)) ∷ assign (local 0) byte (number 9) ∷ []) end)
    ∷ thread (codes "k")
    (does (kept.Spawn (record { handle = None; kind = process.Method; function = 0; arguments = vec_of (number 5 ∷ []) tt; sensitive = (record { name = 0; place = None; event = event_member.Own }) ∷ []; dont_initialize = true })
    ∷ wait_for 1000 ∷ notify 0 ∷ wait_for 1000 ∷ notify 0 ∷ []) end)
    ∷ [])
