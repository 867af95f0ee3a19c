-- One step of a run: the next command in Idle, the step of the phase, or the taking of a process (IEEE 1666-2011, 4.2.1).
use Rattle.std.specs.Prelude.{ℕ, ◌+◌, Bool, true, false, List, [], ◌∷◌, ◌++◌, slice_get, Option, Some, None, Result, Ok, Err, codes, if◌then◌else◌}
use Rattle.std.specs.Fmt.{decimal}
use Rattle.signal_channel.specs.LogicValues.declared.kinds.Value.{Value}
use Rattle.signal_channel.specs.LogicValues.ValueText.{text_of}
use Rattle.quantum_keeper.specs.SimTime.declared.moments.Time.{Time}
use Rattle.signal_channel.specs.Signals.{written}
use Rattle.flat_design.specs.declared.design.Visible.{Visible}
use Rattle.flat_design.specs.declared.design.VisibleId.{VisibleId}
use Rattle.flat_design.specs.declared.design.VisibleId.TheVariants as visible_id
use Rattle.flat_design.specs.declared.faults.RunFault.{RunFault}
use Rattle.sim_model.specs.Values.{on_ok, time_within}
use Rattle.sim_model.specs.Configuration.{Config, Instance, line, turn, path_of, change, change_instance, instance_at, with_runnable, with_stack, with_told}
use Rattle.sim_model.specs.Waits.{holds, without}
use Rattle.sim_model.specs.Control.{begins}
use Rattle.sim_model.specs.Statements.{statement_step}
use Rattle.sim_model.specs.Phases.{initialization, update_step, delta_step, timed_step, visible_value}
use Rattle.sim_model.specs.declared.plain.Phase.{Phase}
use Rattle.sim_model.specs.declared.plain.Phase.TheVariants as phase
use Rattle.sim_model.specs.declared.plain.Command.{Command}
use Rattle.sim_model.specs.declared.plain.Command.TheVariants as command

-- what the next step is: it goes to a configuration; or it is a run fault, which changes nothing; or it takes a runnable
-- process, whichever is chosen; or there is none, since the session has ended
pub data Outcome : Type 0 where
  went : Config → Outcome
  faulted : RunFault → Outcome
  takes : Outcome
  ended : Outcome

abbrev pub as_outcome : Result Config RunFault → Outcome
as_outcome (Ok d) = went d
as_outcome (Err f) = faulted f

-- show: a line with the time, the word script, the path and the value
abbrev pub show_line : ℕ → List ℕ → Value → List ℕ
show_line now path v = decimal now ++ codes " script " ++ path ++ codes " " ++ text_of v ++ 10 ∷ []

abbrev pub shows : Config → Option Visible → Config
shows c None = c
shows c (Some v) = with_told c (line (show_line c.cycle.now (path_of c.design v.object) (visible_value c v.id)))

-- set: a signal or a buffer asks for an update with the value, and the script is no writer
abbrev pub sets : Config → Value → VisibleId → Config
sets c v (visible_id.Signal n) = record c { channels = record c.channels { signals = change c.channels.signals n (written None v) } }
sets c v (visible_id.Resolved n) = c

abbrev pub sets_visible : Config → Value → Option Visible → Config
sets_visible c v None = c
sets_visible c v (Some x) = sets c v x.id

-- run: the first time initialization comes next, and later evaluation
abbrev pub first_phase : Bool → Phase
first_phase false = phase.Start
first_phase true = phase.Evaluate

abbrev pub run_begun : Config → Option ℕ → Config
run_begun c end = record c { cycle = record c.cycle { phase = first_phase c.cycle.begun; begun = true; end = end; stop_asked = false } }

-- a run for a time ends at now and that time together; past 2^64 - 1 ps that is a fault
abbrev pub begin_run : Config → Option Time → Result Config RunFault
begin_run c None = Ok (run_begun c None)
begin_run c (Some d) = on_ok (time_within (c.cycle.now + d.0)) (λ end. Ok (run_begun c (Some end)))

abbrev pub carry_out : Config → Command → Result Config RunFault
carry_out c (command.Run d) = begin_run c d
carry_out c (command.Set i v) = Ok (sets_visible c v (slice_get c.design.visible i))
carry_out c (command.Show i) = Ok (shows c (slice_get c.design.visible i))

-- the next command of the script; with none left the session has ended
abbrev pub next_command : Config → List Command → Outcome
next_command c [] = ended
next_command c (k ∷ ks) = as_outcome (carry_out (record c { script = ks }) k)

-- evaluation: a statement of the instance on top of the stack; with none there, a runnable one is taken; with none of these
-- either, the update phase
abbrev pub evaluate : Config → List ℕ → List ℕ → Outcome
evaluate c (p ∷ stack) runnable = as_outcome (statement_step c p)
evaluate c [] (q ∷ runnable) = takes
evaluate c [] [] = went (update_step c)

abbrev pub step_in : Config → Phase → Outcome
step_in c phase.Idle = next_command c c.script
step_in c phase.Start = went (initialization c)
step_in c phase.Evaluate = evaluate c c.processes.stack c.processes.runnable
step_in c phase.Notify = went (delta_step c)
step_in c phase.Timed = went (timed_step c)

-- the step that a configuration makes
abbrev pub step : Config → Outcome
step c = if c.cycle.stopped then ended else step_in c c.cycle.phase

-- an instance that is taken leaves the runnable list and is the only one on the stack; its body begins, where it was not begun
abbrev pub turn_line : ℕ → List ℕ → ℕ → List ℕ
turn_line now path p = decimal now ++ codes " " ++ path ++ codes " turn " ++ decimal p ++ 10 ∷ []

-- a new turn has no next trigger yet
abbrev pub begins_unless_begun : Config → ℕ → Instance → Config
begins_unless_begun c p i = if i.started then c else begins (change_instance c p (λ j. record j { trigger = None })) p i

abbrev pub instance_taken : Config → ℕ → Option Instance → Config
instance_taken c p None = c
instance_taken c p (Some i) =
    begins_unless_begun (with_told (with_stack (with_runnable c (without c.processes.runnable p)) (p ∷ [])) (turn (turn_line c.cycle.now i.path p))) p i

abbrev pub taken_if : Config → ℕ → Bool → Option Config
taken_if c p true = Some (instance_taken c p (instance_at c p))
taken_if c p false = None

-- the taking of p, which has to be runnable
abbrev pub taking : Config → ℕ → Option Config
taking c p = taken_if c p (holds c.processes.runnable p)
