-- The models of the runs of calls that reach the descendants of a process (IEEE 1666-2011, 5.6.6, SC_INCLUDE_DESCENDANTS). Items
-- are numbered by their places in the text, functions too, and processes by their serials: those of the text first.
use Rattle.std.specs.Prelude.{ℕ, List, [], ◌∷◌, Option, Some, None, codes, true, false}
use Rattle.sim_model.specs.ModelTree.declared.items.ProcessKind.TheVariants as process
use Rattle.sim_model.specs.ModelTree.declared.statements.Control.{Control}
use Rattle.sim_model.specs.ModelTree.declared.statements.Control.TheVariants as control_of
use Rattle.sim_model.specs.FlatDesign.declared.value_types.ValueType.TheVariants as type
use Rattle.sim_model.specs.FlatDesign.declared.names.NameUse.{NameUse}
use Rattle.sim_model.specs.FlatDesign.declared.names.Member.TheVariants as member
use Rattle.sim_model.specs.FlatDesign.declared.terms.Expr.TheVariants as expr
use Rattle.sim_model.specs.FlatDesign.declared.code.Controlled.TheVariants as controlled
use Rattle.sim_model.specs.FlatDesign.declared.code.Statement.{Statement}
use Rattle.sim_model.specs.FlatDesign.declared.code.Statement.TheVariants as kept
use Rattle.sim_model.specs.FlatDesign.declared.design.Design.{Design}
use Rattle.worked_runs.specs.Body.{Body, end, then, does, guarded, tried, vec_of, item, local, say, say_value, wait_for, wait_on, control}
use Rattle.worked_runs.specs.Build.{design_of, event, variable, exception, thread, thread_with, procedure, local_of}

-- a call for what a name holds and its descendants
abbrev pub reach : Control → NameUse → Statement
reach c n = kept.Control c (controlled.Named n) true

abbrev pub spawned : Option NameUse → ℕ → Statement
spawned handle f = kept.Spawn (record { handle = handle; kind = process.Thread; function = f; arguments = vec_of [] tt; sensitive = []; dont_initialize = false })

-- waits for the event e, which is the item 0 and never fires, and says this when it is unwound
abbrev pub undone : List ℕ → Body
undone text = guarded (does (wait_on 0 ∷ []) end) (does (say text ∷ []) end) end

-- after a nanosecond a thread ends t, which is this item, with its descendants
abbrev pub killer : ℕ → Design → Design
killer t = thread (codes "k") (does (wait_for 1000 ∷ reach control_of.Kill (item t) ∷ say (codes "k") ∷ []) end)

abbrev pub one_child : Design
one_child = design_of (event (codes "e") ∷ procedure (codes "c") [] (undone (codes "c")) ∷ thread (codes "t") (does (spawned None 0 ∷ []) (undone (codes "t"))) ∷ killer 2 ∷ [])

-- a child ends its parent with all that came of it, and so itself
abbrev pub by_its_child : Design
by_its_child = design_of (event (codes "e")
    ∷ procedure (codes "c") [] (does (wait_for 1000 ∷ []) (guarded (does (reach control_of.Kill (item 2) ∷ say (codes "no") ∷ []) end) (does (say (codes "c") ∷ []) end) end))
    ∷ thread (codes "t") (does (spawned None 0 ∷ []) (undone (codes "t")))
    ∷ [])

-- the child between has ended
abbrev pub one_between : Design
one_between = design_of (event (codes "e") ∷ procedure (codes "g") [] (undone (codes "g")) ∷ procedure (codes "c") [] (does (spawned None 0 ∷ []) end)
    ∷ thread (codes "t") (does (spawned None 1 ∷ []) (undone (codes "t"))) ∷ killer 3 ∷ [])

-- what is to be ended has ended
abbrev pub none_left : Design
none_left = design_of (event (codes "e") ∷ thread (codes "t") end ∷ killer 1 ∷ [])

abbrev pub none_held : Design
none_held = design_of (thread_with (codes "t") (local_of (codes "h") type.Process ∷ []) (does (kept.Var 0 type.Process None ∷ reach control_of.Kill (local 0) ∷ []) end) ∷ [])

-- the child catches what its parent does not
abbrev pub one_catches : Design
one_catches = design_of (exception (codes "X") ∷ event (codes "e")
    ∷ procedure (codes "c") [] (tried (does (wait_on 0 ∷ []) end) 0 (does (say (codes "c") ∷ []) end) end)
    ∷ thread (codes "t") (does (spawned None 0 ∷ wait_on 0 ∷ []) end)
    ∷ thread (codes "k") (does (wait_for 1000 ∷ kept.ThrowIt (controlled.Named (item 2)) 0 true ∷ []) end)
    ∷ [])

-- a child that is being unwound ends the one that ends it
abbrev pub below_the_top : Design
below_the_top = design_of (event (codes "e")
    ∷ procedure (codes "c") [] (guarded (does (wait_on 0 ∷ []) end) (does (reach control_of.Kill (item 2) ∷ []) end) end)
    ∷ thread_with (codes "k") (local_of (codes "h") type.Process ∷ [])
    (does (kept.Var 0 type.Process None ∷ spawned (Some (local 0)) 0 ∷ wait_for 1000 ∷ kept.Control control_of.Kill (controlled.Named (local 0)) false ∷ say (codes "no") ∷ []) end)
    ∷ [])

-- a child suspends its parent with all that came of it, and so itself, last
abbrev pub suspended_by_its_child : Design
suspended_by_its_child = design_of (event (codes "e")
    ∷ procedure (codes "c") [] (does (wait_for 1000 ∷ reach control_of.Suspend (item 2) ∷ say (codes "c goes on") ∷ []) end)
    ∷ thread (codes "t") (does (spawned None 0 ∷ wait_for 2000 ∷ say (codes "t") ∷ []) end)
    ∷ thread (codes "k") (does (wait_for 5000 ∷ say_value (codes "s") (expr.Member (item 2) member.Terminated) ∷ reach control_of.Resume (item 2) ∷ []) end)
    ∷ [])

abbrev pub by_itself : Design
by_itself = design_of (event (codes "e") ∷ procedure (codes "c") [] (undone (codes "c"))
    ∷ thread (codes "t")
    (does (spawned None 0 ∷ wait_for 1000 ∷ []) (guarded (does (kept.Control control_of.Kill controlled.Myself true ∷ say (codes "never") ∷ []) end) (does (say (codes "t") ∷ []) end) end))
    ∷ [])

-- one of those that are to be ended is ended meanwhile, by another's unwind block
abbrev pub ended_meanwhile : Design
ended_meanwhile = design_of (event (codes "e") ∷ variable (codes "a") type.Process ∷ variable (codes "b") type.Process
    ∷ procedure (codes "c") [] (guarded (does (wait_on 0 ∷ []) end) (does (say (codes "c") ∷ control control_of.Kill 1 ∷ []) end) end)
    ∷ procedure (codes "d") [] (undone (codes "d"))
    ∷ thread (codes "t") (does (spawned (Some (item 1)) 1 ∷ spawned (Some (item 2)) 0 ∷ []) (undone (codes "t")))
    ∷ killer 5
    ∷ [])
