-- The models of transport calls that are left by an exception, a kill or a reset. What follows shows that the transaction is idle
-- again: it may begin anew, and nothing else may come of it.
use Rattle.std.specs.Prelude.{ℕ, List, [], ◌∷◌, ◌++◌, codes}
use Rattle.sim_model.specs.ModelTree.declared.statements.Control.TheVariants as control_of
use Rattle.sim_model.specs.FlatDesign.declared.value_types.ValueType.TheVariants as type
use Rattle.sim_model.specs.FlatDesign.declared.code.Statement.{Statement}
use Rattle.sim_model.specs.FlatDesign.declared.code.Statement.TheVariants as kept
use Rattle.sim_model.specs.FlatDesign.declared.design.Design.{Design}
use Rattle.worked_runs.specs.Body.{end, does, then, branch, guarded, tried, item, local, named, moment, assign, say, wait_for, wait_on, control, control_self, throw_at}
use Rattle.worked_runs.specs.Build.{thread}
use Rattle.worked_runs.specs.Transports.{answers}
use Rattle.worked_runs.specs.Links.{all, link, link_of, makes, makes_q, phase, calls, calls_for, tells_phase, tells_delay, sends, blocks, completed, keeps, goes, updates, completes, has_phase, at_phase, first_time, counts, accepts, nothing, woken}
use Rattle.worked_runs.specs.Words.{two_requests}

abbrev pub delays : ℕ → Statement
delays n = assign (local 1) type.Time (moment n)

-- an exception passes a blocking call, out of a guard, and its transaction begins anew
abbrev pub thrown_out : Design
thrown_out =
    link (does (makes ∷ []) (tried (does (blocks ∷ say (codes "never") ∷ []) end) 0 (does (tells_delay ∷ []) end) (does (blocks ∷ tells_delay ∷ []) end))) accepts accepts
    (first_time (does (counts ∷ delays 5000 ∷ []) (guarded (does (kept.Throw 0 ∷ []) end) (does (say (codes "undo") ∷ []) end) end)) (does (completes ∷ delays 7000 ∷ []) end)) nothing

-- an exception passes a non-blocking call
abbrev pub thrown_out_of_nb : Design
thrown_out_of_nb =
    link (does (makes ∷ []) (tried (does (phase 1 ∷ calls ∷ say (codes "never") ∷ []) end) 0 (does (tells_phase ∷ []) end) (does (sends 1) end))) accepts
    (first_time (does (counts ∷ updates 2 ∷ kept.Throw 0 ∷ []) end) (does (completes ∷ answers 2 ∷ []) end)) nothing nothing

-- another thread kills the caller while its call waits, or throws an exception at it, and the transaction begins anew
abbrev pub killed_in_a_call : Design
killed_in_a_call =
    link_of all (does (makes ∷ blocks ∷ []) end) accepts accepts (does (wait_for 2000 ∷ completes ∷ []) end) nothing
    (thread (codes "v") (does (wait_for 1000 ∷ control control_of.Kill 7 ∷ blocks ∷ say (codes "v") ∷ []) end) ∷ [])

abbrev pub thrown_at_in_a_call : Design
thrown_at_in_a_call =
    link_of all (does (makes ∷ []) (tried (does (blocks ∷ say (codes "never") ∷ []) end) 0 (does (say (codes "caught") ∷ []) end) (does (blocks ∷ tells_delay ∷ []) end))) accepts accepts
    (does (wait_for 2000 ∷ completes ∷ delays 5000 ∷ []) end) nothing
    (thread (codes "v") (does (wait_for 1000 ∷ throw_at 7 0 ∷ []) end) ∷ [])

-- another thread resets the caller while its blocking call waits, and then does this; the payload is made in the first turn of the
-- caller alone, and is called with anew in the second
abbrev pub reset_in_a_call : List Statement → Design
reset_in_a_call ss =
    link_of all (first_time (does (counts ∷ makes ∷ []) end) (does (blocks ∷ tells_delay ∷ []) end)) accepts accepts
    (does (wait_for 2000 ∷ completes ∷ delays 5000 ∷ []) end) nothing
    (thread (codes "v") (does (wait_for 1000 ∷ control control_of.Reset 7 ∷ ss) end) ∷ [])

abbrev pub resets_itself : Statement
resets_itself = control_self control_of.Reset

-- the caller resets itself in the forward handler of its request, and in its second turn does this
abbrev pub reset_in_nb : List Statement → Design
reset_in_nb ss =
    link (first_time (does (counts ∷ makes ∷ phase 1 ∷ calls ∷ []) end) (does ss end)) accepts
    (first_time (does (counts ∷ updates 2 ∷ resets_itself ∷ []) end) (does (completes ∷ answers 2 ∷ []) end)) nothing nothing

-- An exception passes the call in which u ends the request, at 1 ns; then u does this, and t that at 2 ns.
abbrev pub left_end_of_request : List Statement → List Statement → Design
left_end_of_request us ts =
    link (does (makes ∷ sends 1 ++ wait_for 2000 ∷ ts) end) (does (updates 4 ∷ kept.Throw 0 ∷ []) end)
    (at_phase 1 (keeps ∷ goes ∷ answers 0 ∷ []) 0) (does (completes ∷ []) end)
    (then (wait_on 5) (tried (does (phase 2 ∷ calls ∷ say (codes "never") ∷ []) end) 0 (does (tells_phase ∷ []) end) (does us end)))

-- u kills itself in the backward handler of its response, at 1 ns, and t does this at 2 ns
abbrev pub left_response : List Statement → Design
left_response ts =
    link (does (makes ∷ sends 1 ++ wait_for 2000 ∷ ts) end) (does (updates 4 ∷ control_self control_of.Kill ∷ []) end)
    (at_phase 1 (keeps ∷ goes ∷ answers 0 ∷ []) 0) nothing
    (woken (completed ∷ phase 3 ∷ calls ∷ say (codes "never") ∷ []))

-- two requests are answered with their ends, and exceptions pass the responses of both, one after another
abbrev pub left_responses : Design
left_responses =
    link (does (makes ∷ two_requests) end) (does (kept.Throw 0 ∷ []) end)
    (at_phase 1 (assign (item 9) type.Payload (named (item 1)) ∷ keeps ∷ goes ∷ completes ∷ updates 2 ∷ answers 1 ∷ []) 0) nothing
    (then (wait_on 5) (tried (does (phase 3 ∷ calls ∷ []) end) 0 end (tried (does (calls_for 9 ∷ []) end) 0 end end)))

-- t resets itself in the forward handler of the end of the response, and in its second turn does this
abbrev pub left_end_of_response : List Statement → Design
left_end_of_response ss =
    link (first_time (does (counts ∷ makes ∷ phase 1 ∷ calls ∷ phase 4 ∷ calls ∷ []) end) (does ss end)) accepts
    (branch (has_phase 1) (does (completes ∷ updates 3 ∷ answers 1 ∷ []) end) (does (resets_itself ∷ []) end)) nothing nothing

-- The second transaction requests; in the handler of a blocking call of the first, t calls back with the response of the second,
-- and resets itself in the backward handler of that call: both calls are left. In its second turn both request.
abbrev pub left_together : Design
left_together =
    link (first_time (does (counts ∷ makes ∷ makes_q ∷ phase 1 ∷ calls_for 5 ∷ blocks ∷ []) end) (does (phase 1 ∷ calls ∷ phase 1 ∷ calls_for 5 ∷ []) end))
    (does (resets_itself ∷ []) end) (does (completes ∷ keeps ∷ updates 2 ∷ answers 1 ∷ []) end) (does (phase 3 ∷ calls ∷ []) end) nothing
