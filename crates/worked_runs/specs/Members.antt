-- The models of the runs of members of signals, fifos, payloads, processes and keepers.
use Rattle.std.specs.Prelude.{ℕ, Bool, true, false, List, [], ◌∷◌, Some, None, codes}
use Rattle.sim_model.specs.LogicValues.declared.kinds.Value.TheVariants as value
use Rattle.sim_model.specs.ModelTree.declared.expressions.BinaryOp.TheVariants as op
use Rattle.sim_model.specs.FlatDesign.declared.value_types.ValueType.TheVariants as type
use Rattle.sim_model.specs.FlatDesign.declared.names.Member.{Member}
use Rattle.sim_model.specs.FlatDesign.declared.names.Member.TheVariants as member
use Rattle.sim_model.specs.FlatDesign.declared.names.PayloadField.TheVariants as field
use Rattle.sim_model.specs.FlatDesign.declared.names.PayloadBytes.TheVariants as bytes_of
use Rattle.sim_model.specs.FlatDesign.declared.code.Statement.{Statement}
use Rattle.sim_model.specs.FlatDesign.declared.code.Statement.TheVariants as kept
use Rattle.sim_model.specs.FlatDesign.declared.terms.Expr.{PayloadByte'}
use Rattle.sim_model.specs.FlatDesign.declared.terms.Expr.TheVariants as expr
use Rattle.sim_model.specs.FlatDesign.declared.design.Design.{Design}
use Rattle.worked_runs.specs.Body.{end, does, boxed, item, named, number, moment, binary, store, channel, say_value, write, wait_for, wait_delta}
use Rattle.worked_runs.specs.Build.{design_of, signal, fifo, variable, keeper, thread}
use Rattle.worked_runs.specs.Rows.{byte}

-- a member of the first item
abbrev pub tells : List ℕ → Member → Statement
tells text m = say_value text (expr.Member (item 0) m)

abbrev pub changed : Statement
changed = tells (codes "c") member.Changed

abbrev pub sets : Bool → Statement
sets b = write 0 type.Bool (expr.Literal (value.Bool b))

-- a signal is changed, and then not, and then changed before time moves
abbrev pub changing : Design
changing = design_of (signal (codes "a") type.Bool
    ∷ thread (codes "t") (does (sets true ∷ wait_delta ∷ changed ∷ wait_delta ∷ changed ∷ sets false ∷ wait_for 1000 ∷ changed ∷ []) end) ∷ [])

-- a fifo of two places is written and read
abbrev pub available : Statement
available = tells (codes "a") member.Available

abbrev pub free : Statement
free = tells (codes "f") member.Free

abbrev pub filling : Design
filling = design_of (fifo (codes "f") byte 2 ∷ variable (codes "x") byte
    ∷ thread (codes "t")
    (does (available ∷ free ∷ write 0 byte (number 5) ∷ available ∷ free ∷ wait_delta
    ∷ available ∷ free ∷ kept.Read (Some (store (item 1) byte)) (channel 0) ∷ available ∷ free ∷ wait_delta ∷ free ∷ []) end)
    ∷ [])

-- a payload is new, and is held twice
abbrev pub live : Statement
live = tells (codes "live") member.Live

abbrev pub byte_enable : ℕ → Statement
byte_enable i = say_value (codes "e") (PayloadByte' (item 0) bytes_of.ByteEnable boxed (number i))

abbrev pub holding : Design
holding = design_of (variable (codes "p") type.Payload
    ∷ thread (codes "t")
    (does (live ∷ kept.Make (item 0) (number 4) (Some (number 2))
    ∷ tells (codes "n") member.Length ∷ tells (codes "m") member.EnableLength ∷ tells (codes "c") (member.Field field.Command) ∷ tells (codes "a") (member.Field field.Address)
    ∷ tells (codes "w") (member.Field field.Width) ∷ tells (codes "s") (member.Field field.Status) ∷ byte_enable 1
    ∷ kept.Acquire (item 0) ∷ kept.Release (item 0) ∷ live ∷ kept.Release (item 0) ∷ live ∷ tells (codes "n") member.Length ∷ []) end)
    ∷ [])

abbrev pub past_the_bytes : Design
past_the_bytes = design_of (variable (codes "p") type.Payload
    ∷ thread (codes "t") (does (kept.Make (item 0) (number 4) None ∷ tells (codes "m") member.EnableLength ∷ byte_enable 0 ∷ []) end) ∷ [])

-- sizes that a payload may not have
abbrev pub makes : ℕ → ℕ → Design
makes n m = design_of (variable (codes "p") type.Payload ∷ thread (codes "t") (does (kept.Make (item 0) (number n) (Some (number m)) ∷ []) end) ∷ [])

-- handles: an empty one, one's own, and that of a process of the design
abbrev pub handles : Design
handles = design_of (variable (codes "h") type.Process
    ∷ thread (codes "t")
    (does (tells (codes "v") member.Valid ∷ say_value (codes "t") (expr.Member (item 1) member.Valid)
    ∷ say_value (codes "same") (binary op.Equal type.Process expr.Myself (named (item 1))) ∷ say_value (codes "none") (binary op.Equal type.Process expr.Myself (named (item 0))) ∷ tells (codes "e") member.Terminated ∷ []) end)
    ∷ [])

-- a keeper's local time is set
abbrev pub kept_time : Design
kept_time = design_of (keeper (codes "k")
    ∷ thread (codes "t")
    (does (kept.QkGlobal (moment 10000) ∷ kept.QkReset 0 ∷ kept.QkSet 0 (moment 9999) ∷ tells (codes "s") member.NeedSync ∷ kept.QkSet 0 (moment 10000) ∷ tells (codes "l") member.Local ∷ tells (codes "s") member.NeedSync ∷ []) end)
    ∷ [])
