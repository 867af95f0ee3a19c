-- Models that break one part of the rule on the order of processes, each in its own way. Items are numbered by their places in the
-- text, and processes by their serials.
use Rattle.std.specs.Prelude.{[], ◌∷◌, codes, true, Some, None}
use Rattle.sim_model.specs.LogicValues.declared.kinds.Value.TheVariants as value
use Rattle.sim_model.specs.ModelTree.declared.expressions.BinaryOp.TheVariants as op
use Rattle.sim_model.specs.FlatDesign.declared.value_types.ValueType.{ValueType}
use Rattle.sim_model.specs.FlatDesign.declared.value_types.ValueType.TheVariants as type
use Rattle.sim_model.specs.FlatDesign.declared.names.Member.TheVariants as member
use Rattle.sim_model.specs.FlatDesign.declared.code.Await.TheVariants as await
use Rattle.sim_model.specs.FlatDesign.declared.code.Statement.TheVariants as kept
use Rattle.sim_model.specs.FlatDesign.declared.terms.Expr.{Expr}
use Rattle.sim_model.specs.FlatDesign.declared.terms.Expr.TheVariants as expr
use Rattle.sim_model.specs.FlatDesign.declared.design.Design.{Design}
use Rattle.worked_runs.specs.Body.{end, does, vec_of, own_event, item, local, named, number, moment, binary, store, channel, assign, write, wait_delta, wait_on, notify, notify_delta, cancel}
use Rattle.worked_runs.specs.Build.{design_of, signal, fifo, event, variable, local_of, thread, thread_with}

abbrev pub byte : ValueType
byte = type.Uint 8

abbrev pub integer : ValueType
integer = type.Uint 64

abbrev pub yes : Expr
yes = expr.Literal (value.Bool true)

-- a thread notifies an event at once, for which another one may wait already
abbrev pub notified_at_once : Design
notified_at_once = design_of (event (codes "e") ∷ signal (codes "a") type.Bool
    ∷ thread (codes "p") (does (notify 0 ∷ []) end)
    ∷ thread (codes "q") (does (kept.Wait (await.Any (vec_of (own_event 0 ∷ []) tt) (Some (moment 5000))) ∷ write 1 type.Bool (binary op.Equal type.Time expr.Now (moment 0)) ∷ []) end)
    ∷ [])

-- a thread writes a fifo, and another one asks how much is free
abbrev pub free_is_asked : Design
free_is_asked = design_of (fifo (codes "f") type.Bool 2 ∷ signal (codes "a") byte
    ∷ thread (codes "p") (does (write 0 type.Bool yes ∷ []) end)
    ∷ thread (codes "q") (does (write 1 byte (expr.Member (item 0) member.Free) ∷ []) end)
    ∷ [])

-- a thread reads a fifo, and another one asks how much is available
abbrev pub available_is_asked : Design
available_is_asked = design_of (fifo (codes "f") type.Bool 2 ∷ signal (codes "a") byte
    ∷ thread_with (codes "p") (local_of (codes "x") type.Bool ∷ []) (does (kept.Var 0 type.Bool None ∷ wait_delta ∷ kept.Read (Some (store (local 0) type.Bool)) (channel 0) ∷ []) end)
    ∷ thread (codes "q") (does (write 0 type.Bool yes ∷ write 0 type.Bool yes ∷ wait_delta ∷ write 1 byte (expr.Member (item 0) member.Available) ∷ []) end)
    ∷ [])

-- two threads change one variable
abbrev pub shared_variable : Design
shared_variable = design_of (variable (codes "v") byte ∷ signal (codes "a") byte
    ∷ thread (codes "p") (does (assign (item 0) byte (binary op.Add integer (named (item 0)) (number 1)) ∷ []) end)
    ∷ thread (codes "q") (does (assign (item 0) byte (binary op.Add integer (binary op.Multiply integer (named (item 0)) (number 2)) (number 1)) ∷ wait_delta ∷ write 1 byte (named (item 0)) ∷ []) end)
    ∷ [])

-- two threads read one fifo
abbrev pub shared_reader : Design
shared_reader = design_of (fifo (codes "f") byte 16 ∷ signal (codes "a") byte ∷ signal (codes "b") byte
    ∷ thread (codes "w") (does (write 0 byte (number 1) ∷ write 0 byte (number 2) ∷ []) end)
    ∷ thread_with (codes "p") (local_of (codes "x") byte ∷ []) (does (kept.Var 0 byte None ∷ kept.Read (Some (store (local 0) byte)) (channel 0) ∷ write 1 byte (named (local 0)) ∷ []) end)
    ∷ thread_with (codes "q") (local_of (codes "x") byte ∷ []) (does (kept.Var 0 byte None ∷ kept.Read (Some (store (local 0) byte)) (channel 0) ∷ write 2 byte (named (local 0)) ∷ []) end)
    ∷ [])

-- a thread notifies an event, and another one cancels it
abbrev pub cancelled_by_another : Design
cancelled_by_another = design_of (event (codes "e") ∷ signal (codes "a") type.Bool
    ∷ thread (codes "p") (does (notify_delta 0 ∷ []) end)
    ∷ thread (codes "q") (does (cancel 0 ∷ []) end)
    ∷ thread (codes "w") (does (wait_on 0 ∷ write 1 type.Bool yes ∷ []) end)
    ∷ [])
