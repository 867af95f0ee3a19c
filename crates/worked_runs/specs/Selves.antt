-- The models of the runs of processes that control themselves, or others on the stack of active ones.
use Rattle.std.specs.Prelude.{ℕ, List, [], ◌∷◌, None, codes}
use Rattle.sim_model.specs.ModelTree.declared.statements.Control.{Control}
use Rattle.sim_model.specs.ModelTree.declared.statements.Control.TheVariants as control_of
use Rattle.sim_model.specs.ModelTree.declared.expressions.BinaryOp.TheVariants as op
use Rattle.sim_model.specs.EventCore.declared.event.Ev.TheVariants as ev
use Rattle.sim_model.specs.FlatDesign.declared.value_types.ValueType.TheVariants as type
use Rattle.sim_model.specs.FlatDesign.declared.code.Await.TheVariants as await
use Rattle.sim_model.specs.FlatDesign.declared.code.Statement.{Statement}
use Rattle.sim_model.specs.FlatDesign.declared.code.Statement.TheVariants as kept
use Rattle.sim_model.specs.FlatDesign.declared.terms.Expr.{Expr}
use Rattle.sim_model.specs.FlatDesign.declared.design.Design.{Design}
use Rattle.worked_runs.specs.Body.{Body, end, does, branch, guarded, tried, vec_of, own_event, item, named, number, binary, assign, say, say_value, wait_for, wait_on, control, control_self, throw_at, throw_at_self, call}
use Rattle.worked_runs.specs.Build.{design_of, exception, variable, thread, method, procedure}
use Rattle.worked_runs.specs.Rows.{byte}
use Rattle.worked_runs.specs.Targets.{acts, says, later, fires, fires_g, after_a_while}

-- a thread controls itself inside a guard; a method does so
abbrev pub thread_does : Statement → Body → Design
thread_does s k = acts (thread (codes "t") (does (say (codes "begin") ∷ []) (guarded (does (s ∷ say (codes "on") ∷ []) end) (does (say (codes "undo") ∷ []) end) end))) k []

abbrev pub method_does : Statement → Body → Design
method_does s k = acts (method (codes "t") (ev.Fixed 0 ∷ []) (does (say (codes "run") ∷ []) (guarded (does (s ∷ say (codes "on") ∷ []) end) (does (say (codes "undo") ∷ []) end) end))) k []

abbrev pub killing : Statement
killing = control_self control_of.Kill

abbrev pub disabling : Statement
disabling = control_self control_of.Disable

abbrev pub one_says : Body
one_says = does (says ∷ []) end

-- a count that is kept in a variable of the module, which is the item 6
abbrev pub counts : Statement
counts = assign (item 6) byte (binary op.Add (type.Uint 64) (named (item 6)) (number 1))

abbrev pub tells : Statement
tells = say_value (codes "n") (named (item 6))

abbrev pub first_time : Expr
first_time = binary op.Less (type.Uint 64) (named (item 6)) (number 2)

abbrev pub count : Design → Design
count d = variable (codes "n") byte d

-- the first time they reset themselves
abbrev pub resets_once : Body
resets_once = does (counts ∷ tells ∷ []) (branch first_time (guarded (does (control_self control_of.Reset ∷ say (codes "on") ∷ []) end) (does (say (codes "undo") ∷ []) end) end) (does (say (codes "end") ∷ []) end))

abbrev pub thread_resets_once : Design
thread_resets_once = acts (thread (codes "t") resets_once) one_says (count ∷ [])

abbrev pub method_resets_once : Design
method_resets_once = acts (method (codes "t") (ev.Fixed 0 ∷ []) resets_once) one_says (count ∷ [])

-- a thread disables itself, and waits for a time
abbrev pub disables_itself : Design
disables_itself = acts (thread (codes "t") (does (say (codes "begin") ∷ disabling ∷ later ∷ say (codes "woke") ∷ []) end)) one_says []

-- a method sets its next trigger and resets itself: it goes on in the same turn
abbrev pub retriggered : Design
retriggered = acts (method (codes "t") (ev.Fixed 0 ∷ [])
    (does (counts ∷ []) (branch first_time (does (kept.NextTrigger (await.Any (vec_of (own_event 1 ∷ []) tt) None) ∷ control_self control_of.Reset ∷ []) end) (does (tells ∷ []) end))))
    (after_a_while (fires ∷ says ∷ later ∷ fires_g ∷ [])) (count ∷ [])

-- they throw exceptions at themselves, of which they catch the first
abbrev pub throws : ℕ → Body
throws e = tried (guarded (does (throw_at_self e ∷ say (codes "on") ∷ []) end) (does (say (codes "undo") ∷ []) end) end) 0 (does (say (codes "halted") ∷ []) end) (does (say (codes "end") ∷ []) end)

abbrev pub thread_throws : ℕ → Design
thread_throws e = acts (thread (codes "t") (throws e)) one_says []

abbrev pub method_throws : ℕ → Design
method_throws e = acts (method (codes "t") (ev.Fixed 0 ∷ []) (throws e)) one_says []

-- a thread is unwound, and does this in its unwind block
abbrev pub undoes : List Statement → Body
undoes ss = does (say (codes "begin") ∷ [])
    (tried (guarded (does (wait_on 0 ∷ []) end) (does ss (does (say (codes "undo") ∷ []) end)) end) 0 (does (say (codes "halted") ∷ []) end)
    (does (say (codes "end") ∷ []) end))

abbrev pub unwound : List Statement → List Statement → List (Design → Design) → Design
unwound ss k others = acts (thread (codes "t") (undoes ss)) (after_a_while k) others

-- the thread k, which stands below t on the stack, and a thread j behind it

abbrev pub on_k : Control → Statement
on_k c = control c 5

abbrev pub throws_at_k : Statement
throws_at_k = throw_at 5 0

abbrev pub kills_j : Statement
kills_j = control control_of.Kill 6

abbrev pub says_late : Statement
says_late = say (codes "late")

abbrev pub j : Body → Design → Design
j b d = thread (codes "j") b d

abbrev pub j_undoes : Statement → Body
j_undoes s = guarded (does (wait_on 0 ∷ []) end) (does (s ∷ []) end) end

abbrev pub resumes_k : Body
resumes_k = does (wait_for 4000 ∷ control control_of.Resume 5 ∷ []) end

-- unwind blocks are passed over by a return and by the end of a guard
abbrev pub passed_over : Design
passed_over = design_of (procedure (codes "f") [] (guarded (does (kept.Return None ∷ []) end) (does (say (codes "undo") ∷ []) end) end)
    ∷ thread (codes "t") (does (call 0 ∷ []) (guarded (does (say (codes "in") ∷ []) end) (does (say (codes "undo") ∷ []) end) (does (say (codes "end") ∷ []) end)))
    ∷ [])

-- an exception passes a try that does not name it
abbrev pub thrown_through : Design
thrown_through = design_of (exception (codes "Halt") ∷ exception (codes "Other")
    ∷ thread (codes "t")
    (tried (tried (guarded (does (kept.Throw 0 ∷ []) end) (does (say (codes "inner") ∷ []) end) end) 1 (does (say (codes "wrong") ∷ []) end) (does (say (codes "on") ∷ []) end))
    0 (does (say (codes "halted") ∷ []) end) end)
    ∷ [])
