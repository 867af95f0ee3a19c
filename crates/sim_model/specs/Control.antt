-- Process control (IEEE 1666-2011, 5.6.6): what a control call does, by its target, and what an unwinding ends in.
use Rattle.std.specs.Prelude.{ℕ, suc, Bool, true, false, not, ◌&&◌, ◌||◌, List, [], ◌∷◌, ◌++◌, drop, filter, Option, Some, None, Result, Ok, Err, if◌then◌else◌}
use Rattle.flat_design.specs.ModelTree.declared.items.ProcessKind.{ProcessKind}
use Rattle.flat_design.specs.ModelTree.declared.items.ProcessKind.TheVariants as process
use Rattle.flat_design.specs.ModelTree.declared.statements.Control.{Control}
use Rattle.flat_design.specs.ModelTree.declared.statements.Control.TheVariants as control
use Rattle.flat_design.specs.EventCore.declared.event.Ev.TheVariants as ev
use Rattle.flat_design.specs.declared.code.Controlled.{Controlled}
use Rattle.flat_design.specs.declared.code.Controlled.TheVariants as controlled
use Rattle.flat_design.specs.declared.faults.RunFault.{RunFault}
use Rattle.flat_design.specs.declared.faults.RunFault.TheVariants as fault
use Rattle.sim_model.specs.Values.{on_ok}
use Rattle.sim_model.specs.Residual.{Residual, skip, batch, goal, put, in_nb, has_goal, begun}
use Rattle.sim_model.specs.Unwinding.{unw, catches, raise, left_by_unw, left_by_raise}
use Rattle.sim_model.specs.Configuration.{Config, Instance, Trigger, waits_statically, no_deadline, instance_at, change_instance, with_residual, with_runnable, arena}
use Rattle.sim_model.specs.Waits.{holds, without, freed, fire, leaves_stack}
use Rattle.sim_model.specs.Reading.{Here, process_of, not_empty}
use Rattle.sim_model.specs.Storing.{passes}
use Rattle.sim_model.specs.Calls.{with_left, thrown, is_alive}
use Rattle.sim_model.specs.declared.plain.Goal.{Goal}
use Rattle.sim_model.specs.declared.plain.Goal.TheVariants as goal_of

abbrev pub top_of : List ℕ → List ℕ
top_of [] = []
top_of (p ∷ ps) = p ∷ []

abbrev pub is_top : Config → ℕ → Bool
is_top c q = holds (top_of c.processes.stack) q

abbrev pub is_below_top : Config → ℕ → Bool
is_below_top c q = holds (drop 1 c.processes.stack) q

abbrev pub is_thread : ProcessKind → Bool
is_thread process.Thread = true
is_thread process.Method = false

-- flags

abbrev pub with_kept : Config → ℕ → Config
with_kept c q = change_instance c q (λ i. record i { kept = true })

-- a thread on top that no call holds leaves the stack at once, and is kept
abbrev pub yields : Config → ℕ → Instance → Bool
yields c q i = is_top c q && (is_thread i.kind && (not (in_nb i.residual) && not (has_goal i.residual)))

abbrev pub suspended : Config → ℕ → Instance → Config
suspended c q i =
    if holds c.processes.runnable q then with_runnable (with_kept c q) (without c.processes.runnable q)
    else if yields c q i then leaves_stack (with_kept c q) else c

abbrev pub suspends : Config → ℕ → Instance → Config
suspends c q i = suspended (change_instance c q (λ j. record j { suspended = true })) q i

abbrev pub resumes : Config → ℕ → Instance → Config
resumes c q i =
    let d = change_instance c q (λ j. record j { suspended = false; kept = false }) in
    if i.kept then with_runnable d (c.processes.runnable ++ q ∷ []) else d

abbrev pub disables : Config → ℕ → Bool → Config
disables c q flag = change_instance c q (λ j. record j { disabled = flag })

-- a target is put on top of the stack: its wait, deadline, kept mark, next trigger and place in the runnable list are gone
abbrev pub pushed : Config → ℕ → Config
pushed c q =
    let d = change_instance c q (λ j. record (freed j) { kept = false; trigger = None }) in
    record d { processes = record d.processes { runnable = without d.processes.runnable q; stack = q ∷ d.processes.stack } }

abbrev pub pushed_unless_top : Config → ℕ → Config
pushed_unless_top c q = if is_top c q then c else pushed c q

-- a kill or a reset unwinds what is left, and then reaches its goal
abbrev pub unwinds : Config → ℕ → Instance → Goal → Config
unwinds c q i k = with_left (pushed_unless_top (with_residual c q (goal (unw i.residual) k)) q) (left_by_unw i.residual)

-- of an instance below the top it is a fault; of the top in its own unwinding it is nothing
abbrev pub ends_or_restarts : Config → ℕ → Instance → Goal → Result Config RunFault
ends_or_restarts c q i k =
    if is_below_top c q then Err (fault.ControlOnActive q)
    else if is_top c q && has_goal i.residual then Ok c else Ok (unwinds c q i k)

-- an exception for another: nothing for a method or a thread that was not begun
abbrev pub injected : Config → ℕ → Instance → ℕ → Result Config RunFault
injected c q i e =
    if not (is_thread i.kind) || not i.started then Ok c
    else if catches i.residual e then Ok (with_left (pushed (with_residual c q (raise (arena c) i.residual e goal_of.Injected)) q) (left_by_raise i.residual e))
    else Err (fault.Uncaught e)

abbrev pub throws_at : Config → ℕ → Instance → ℕ → Result Config RunFault
throws_at c q i e =
    if is_below_top c q then Err (fault.ControlOnActive q)
    else if is_top c q then (if has_goal i.residual then Ok c else thrown c q i.residual e) else injected c q i e

abbrev pub controlled_by : Config → ℕ → Instance → Control → Result Config RunFault
controlled_by c q i control.Suspend = Ok (suspends c q i)
controlled_by c q i control.Resume = Ok (resumes c q i)
controlled_by c q i control.Disable = Ok (disables c q true)
controlled_by c q i control.Enable = Ok (disables c q false)
controlled_by c q i control.Kill = ends_or_restarts c q i goal_of.End
controlled_by c q i control.Reset = ends_or_restarts c q i goal_of.Restart

-- control of an instance that has ended has no effect
abbrev pub unless_ended : Config → Option Instance → (Instance → Result Config RunFault) → Result Config RunFault
unless_ended c None f = Ok c
unless_ended c (Some i) f = if i.ended then Ok c else f i

-- the caller is past its statement already
abbrev pub control_call : Config → ℕ → Control → Result Config RunFault
control_call c q k = unless_ended c (instance_at c q) (λ i. controlled_by c q i k)

abbrev pub throw_call : Config → ℕ → ℕ → Result Config RunFault
throw_call c q e = unless_ended c (instance_at c q) (λ i. throws_at c q i e)

abbrev pub target_of : Here → ℕ → Controlled → Result ℕ RunFault
target_of h p (controlled.Named n) = not_empty (process_of h n)
target_of h p controlled.Myself = Ok p

-- Whom a call of p reaches that is for q and its descendants (IEEE 1666-2011, 5.6.6, SC_INCLUDE_DESCENDANTS): none where q has
-- ended. Else q, and before it all that have not ended and lead to it over parents, also over those that have ended, the greatest
-- serial first; p itself comes last.

abbrev pub is_live : Option Instance → Bool
is_live None = false
is_live (Some i) = is_alive i

-- n is found where its parent is
abbrev pub found_with : ℕ → Option ℕ → List ℕ → List ℕ
found_with n None found = found
found_with n (Some q) found = if holds found q then n ∷ found else found

-- a parent is a smaller serial, so that one pass over the parents of n and those behind it finds all
abbrev pub descended : ℕ → List (Option ℕ) → List ℕ → List ℕ
descended n [] found = found
descended n (parent ∷ parents) found = descended (suc n) parents (found_with n parent found)

abbrev pub with_descendants : List (Option ℕ) → ℕ → List ℕ
with_descendants parents q = descended (suc q) (drop (suc q) parents) (q ∷ [])

abbrev pub last_if : List ℕ → ℕ → List ℕ
last_if qs p = if holds qs p then without qs p ++ p ∷ [] else qs

abbrev pub targets : Config → ℕ → ℕ → List ℕ
targets c q p = if is_live (instance_at c q) then last_if (filter (λ n. is_live (instance_at c n)) (with_descendants c.processes.parents q)) p else []

-- the statement s owes its call to these
abbrev pub with_owed : Config → ℕ → Residual → ℕ → List ℕ → Config
with_owed c p r s qs = with_residual c p (put r (batch s qs))

abbrev pub do_control : Config → ℕ → Residual → Here → ℕ → Control → Controlled → Bool → Result Config RunFault
do_control c p r h s k who false = on_ok (target_of h p who) (λ q. control_call (passes c p r) q k)
do_control c p r h s k who true = on_ok (target_of h p who) (λ q. Ok (with_owed c p r s (targets c q p)))

abbrev pub do_throw_it : Config → ℕ → Residual → Here → ℕ → Controlled → ℕ → Bool → Result Config RunFault
do_throw_it c p r h s who e false = on_ok (target_of h p who) (λ q. throw_call (passes c p r) q e)
do_throw_it c p r h s who e true = on_ok (target_of h p who) (λ q. Ok (with_owed c p r s (targets c q p)))

-- the ends of unwindings, and of bodies

-- an instance that ends leaves the stack, and its terminated event fires
abbrev pub ended_instance : Instance → Instance
ended_instance i = record (freed i) { residual = skip; kept = false; trigger = None; ended = true }

abbrev pub ends : Config → ℕ → Config
ends c p = fire (leaves_stack (change_instance c p ended_instance)) (ev.Terminated p)

-- the body begins; a next trigger that was set in this turn stays
abbrev pub begins : Config → ℕ → Instance → Config
begins c p i = change_instance c p (λ j. record j { residual = begun (arena c) i.code i.arguments; started = true })

-- an instance that is suspended leaves the stack, and is kept
abbrev pub stays_kept : Config → ℕ → Config
stays_kept c p = leaves_stack (with_kept c p)

abbrev pub restarts : Config → ℕ → Instance → Config
restarts c p i =
    let d = fire (change_instance c p (λ j. record j { residual = skip; started = false })) (ev.Restarted p) in
    if i.suspended then stays_kept d p else begins d p i

abbrev pub goes_on : Config → ℕ → Instance → Residual → Config
goes_on c p i r = if i.suspended then stays_kept (passes c p r) p else passes c p r

abbrev pub reaches_goal : Config → ℕ → Instance → Residual → Goal → Config
reaches_goal c p i r goal_of.End = ends c p
reaches_goal c p i r goal_of.Restart = restarts c p i
reaches_goal c p i r goal_of.Thrown = passes c p r
reaches_goal c p i r goal_of.Injected = goes_on c p i r

-- a thread that returns has ended; a method waits, by its next trigger or by its static sensitivity
abbrev pub next_wait : Option Trigger → Trigger
next_wait None = record { wait = waits_statically; deadline = no_deadline }
next_wait (Some t) = t

abbrev pub idles : Config → ℕ → Instance → Config
idles c p i =
    leaves_stack (change_instance c p (λ j. record j { residual = skip; started = false; wait = (next_wait i.trigger).wait; deadline = (next_wait i.trigger).deadline; trigger = None }))

abbrev pub done_by : Config → ℕ → Instance → ProcessKind → Config
done_by c p i process.Thread = ends c p
done_by c p i process.Method = idles c p i
