-- The models of the runs in which a process stops the session. Items are numbered by their places in the text, events of the
-- design as they come, and processes by their serials.
use Rattle.std.specs.Prelude.{true, List, [], ◌∷◌, None, codes}
use Rattle.sim_model.specs.ModelTree.declared.items.ProcessKind.TheVariants as process
use Rattle.sim_model.specs.EventCore.declared.event.Ev.TheVariants as ev
use Rattle.sim_model.specs.FlatDesign.declared.value_types.ValueType.TheVariants as type
use Rattle.sim_model.specs.FlatDesign.declared.code.Statement.{Statement}
use Rattle.sim_model.specs.FlatDesign.declared.code.Statement.TheVariants as kept
use Rattle.sim_model.specs.FlatDesign.declared.design.Design.{Design}
use Rattle.worked_runs.specs.Body.{end, does, number, channel, say, write, wait_for, wait_delta, wait_on}
use Rattle.worked_runs.specs.Build.{design_of, signal, fifo, thread, process_of}
use Rattle.worked_runs.specs.Rows.{byte, one}

-- a signal is written
abbrev pub sets : Statement
sets = write 0 type.Bool one

abbrev pub stops : List Statement
stops = kept.Stop ∷ []

-- a thread writes a signal and stops, at once or 1 ns later
abbrev pub writes : Design
writes = design_of (signal (codes "a") type.Bool ∷ thread (codes "t") (does (sets ∷ stops) end) ∷ [])

abbrev pub writes_later : Design
writes_later = design_of (signal (codes "a") type.Bool ∷ thread (codes "t") (does (wait_for 1000 ∷ sets ∷ stops) end) ∷ [])

-- another thread is runnable beside it, writes another signal, and goes on until it waits
abbrev pub beside : Design
beside = design_of (signal (codes "a") type.Bool ∷ signal (codes "b") type.Bool
    ∷ thread (codes "t") (does (sets ∷ stops) end)
    ∷ thread (codes "u") (does (say (codes "too") ∷ write 1 type.Bool one ∷ wait_delta ∷ say (codes "never") ∷ []) end)
    ∷ [])

-- a thread and a method wait for the change of the signal that is written, and then the writer goes on so
abbrev pub watched : List Statement → Design
watched ss = design_of (signal (codes "a") type.Bool
    ∷ thread (codes "w") (does (wait_on 0 ∷ say (codes "woke") ∷ []) end)
    ∷ process_of process.Method (codes "s") [] (ev.Fixed 0 ∷ []) true (does (say (codes "woke") ∷ []) end)
    ∷ thread (codes "t") (does (sets ∷ ss) end)
    ∷ [])

-- a thread is blocked at the empty fifo that is written, and then the writer goes on so
abbrev pub blocked : List Statement → Design
blocked ss = design_of (fifo (codes "f") byte 1
    ∷ thread (codes "r") (does (kept.Read None (channel 0) ∷ say (codes "read") ∷ []) end)
    ∷ thread (codes "t") (does (write 0 byte (number 1) ∷ ss) end)
    ∷ [])
