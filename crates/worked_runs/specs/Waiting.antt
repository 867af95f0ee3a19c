-- The models of the runs of waits: a process t or s waits, and a thread k notifies. Items are numbered by their places in the
-- text, and processes by their serials: the events e and g are the items 0 and 1.
use Rattle.std.specs.Prelude.{ℕ, false, List, [], ◌∷◌, Some, None, codes}
use Rattle.sim_model.specs.ModelTree.declared.items.ProcessKind.TheVariants as process
use Rattle.sim_model.specs.ModelTree.declared.expressions.BinaryOp.TheVariants as op
use Rattle.sim_model.specs.EventCore.declared.event.Ev.TheVariants as ev
use Rattle.sim_model.specs.FlatDesign.declared.value_types.ValueType.TheVariants as type
use Rattle.sim_model.specs.FlatDesign.declared.code.Await.{Await}
use Rattle.sim_model.specs.FlatDesign.declared.code.Await.TheVariants as await
use Rattle.sim_model.specs.FlatDesign.declared.code.Statement.{Statement}
use Rattle.sim_model.specs.FlatDesign.declared.code.Statement.TheVariants as kept
use Rattle.sim_model.specs.FlatDesign.declared.design.Design.{Design}
use Rattle.worked_runs.specs.Body.{end, does, branch, vec_of, own_event, item, named, number, moment, binary, assign, say, say_value, wait_for, wait_on, notify}
use Rattle.worked_runs.specs.Build.{design_of, event, variable, thread, method, process_of}
use Rattle.worked_runs.specs.Rows.{byte}

-- k notifies them, 1 ns later each time it waits
abbrev pub fires : Statement
fires = notify 0

abbrev pub fires_g : Statement
fires_g = notify 1

abbrev pub later : Statement
later = wait_for 1000

abbrev pub notifier : List Statement → Design → Design
notifier ss d = thread (codes "k") (does (later ∷ ss) end) d

-- a thread waits so
abbrev pub waits : Await → List Statement → Design
waits w ss = design_of (event (codes "e") ∷ event (codes "g")
    ∷ thread (codes "t") (does (say (codes "begin") ∷ kept.Wait w ∷ say (codes "woke") ∷ []) end) ∷ notifier ss ∷ [])

-- for both events, the first of which is named twice
abbrev pub for_both : Await
for_both = await.All (vec_of (own_event 0 ∷ own_event 0 ∷ own_event 1 ∷ []) tt) None

-- for the first one, at most so long
abbrev pub at_most : ℕ → Await
at_most t = await.Any (vec_of (own_event 0 ∷ []) tt) (Some (moment t))

-- a thread that is sensitive to e waits by that, and then for g
abbrev pub statically : List Statement → Design
statically ss = design_of (event (codes "e") ∷ event (codes "g")
    ∷ process_of process.Thread (codes "t") [] (ev.Fixed 0 ∷ []) false (does (say (codes "begin") ∷ kept.Wait await.Static ∷ say (codes "static") ∷ wait_on 1 ∷ say (codes "g") ∷ []) end)
    ∷ notifier ss ∷ [])

-- no time is waited for
abbrev pub no_time : Design
no_time = design_of (thread (codes "t") (does (wait_for 0 ∷ say (codes "zero") ∷ kept.Wait await.Delta ∷ say (codes "delta") ∷ []) end) ∷ [])

-- a method that is sensitive to e sets two next triggers in its first turn, g and then a time
abbrev pub triggers : List Statement → Design
triggers ss = design_of (event (codes "e") ∷ event (codes "g") ∷ variable (codes "n") byte
    ∷ method (codes "s") (ev.Fixed 0 ∷ [])
    (does (assign (item 2) byte (binary op.Add (type.Uint 64) (named (item 2)) (number 1)) ∷ say_value (codes "n") (named (item 2)) ∷ [])
    (branch (binary op.Less (type.Uint 64) (named (item 2)) (number 2))
    (does (kept.NextTrigger (await.Any (vec_of (own_event 1 ∷ []) tt) None) ∷ kept.NextTrigger (await.For (moment 2000)) ∷ []) end) end))
    ∷ notifier ss ∷ [])
