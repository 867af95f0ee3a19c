-- The models of the runs of notifications. Items are numbered by their places in the text, and processes by their serials.
use Rattle.std.specs.Prelude.{ℕ, ◌^◌, ◌-◌, [], ◌∷◌, codes, true}
use Rattle.sim_model.specs.ModelTree.declared.items.ProcessKind.TheVariants as process
use Rattle.sim_model.specs.EventCore.declared.event.Ev.TheVariants as ev
use Rattle.sim_model.specs.FlatDesign.declared.code.Statement.{Statement}
use Rattle.sim_model.specs.FlatDesign.declared.design.Design.{Design}
use Rattle.worked_runs.specs.Body.{Body, end, then, item, named, number, say_value, write, wait_for, notify, notify_delta, notify_after, cancel}
use Rattle.worked_runs.specs.Build.{design_of, signal, event, thread, process_of}
use Rattle.worked_runs.specs.Rows.{byte}

-- A thread writes 1 to a signal and goes on, and a method is sensitive to the event and prints the signal. So the method tells
-- 0 where it is woken in the same evaluation phase, and 1 where it is woken later.
abbrev pub telling : Body → Design
telling b = design_of (event (codes "e") ∷ signal (codes "a") byte
    ∷ thread (codes "k") (then (write 1 byte (number 1)) b)
    ∷ process_of process.Method (codes "w") [] (ev.Fixed 0 ∷ []) true (then (say_value (codes "a") (named (item 1))) end)
    ∷ [])

-- one notification of the event, and another one right behind it
abbrev pub two : Statement → Statement → Design
two first second = telling (then first (then second end))

-- another one 3 ns later
abbrev pub later : Statement → Statement → Design
later first second = telling (then first (then (wait_for 3000) (then second end)))

-- the event's notifications, and a cancel
abbrev pub none : Statement
none = cancel 0

abbrev pub now : Statement
now = notify 0

abbrev pub delta : Statement
delta = notify_delta 0

abbrev pub at : ℕ → Statement
at t = notify_after 0 t

abbrev pub greatest : ℕ
greatest = 2 ^ 64 - 1
