-- What a step of a session has to be.
use Rattle.std.specs.Prelude.{◌≡◌, ◌≤◌, ℕ, zero, suc, false, List, [], ◌∷◌, ◌++◌, slice_get, Option, Some, None, if◌then◌else◌}
use Rattle.flat_design.specs.declared.design.Visible.{Visible}
use Rattle.flat_design.specs.declared.faults.RunFault.{RunFault}
use Rattle.kernel_phases.specs.ReadySet.Ready.{in_order}
use Rattle.kernel_phases.specs.SimModel.Clean.{times}
use Rattle.kernel_phases.specs.SimModel.Configuration.{Config, Instance, Told, line, turn, instance_at, path_of}
use Rattle.kernel_phases.specs.SimModel.Phases.{visible_value}
use Rattle.kernel_phases.specs.SimModel.Steps.{Outcome, went, faulted, takes, ended, step, show_line, turn_line, taking}
use Rattle.kernel_phases.specs.SimModel.Waits.{holds}
use Rattle.kernel_phases.specs.SimModel.declared.plain.Command.{Command}
use Rattle.kernel_phases.specs.KernelState.Kernel.{StandsFor}
use Rattle.kernel_phases.specs.KernelState.declared.kernel.Kernel.{Kernel}
use Rattle.kernel_steps.specs.ExecTransactions.Calling.{IsOfProtocol}
use Rattle.kernel_steps.specs.StepAnswers.{AddsLine}
use Rattle.kernel_steps.specs.declared.answers.StepAnswer.{StepAnswer}
use Rattle.kernel_steps.specs.declared.answers.StepAnswer.TheVariants as answer
use Rattle.kernel_runs.specs.declared.answers.Telling.{Telling}
use Rattle.kernel_runs.specs.declared.answers.Telling.TheVariants as telling
use Rattle.kernel_runs.specs.declared.answers.Made.{Made}
use Rattle.kernel_runs.specs.declared.answers.Made.TheVariants as made
use Rattle.kernel_runs.specs.declared.answers.Brief.{Brief}
use Rattle.kernel_runs.specs.declared.answers.Brief.TheVariants as brief

-- the step of an instance as one of the session
abbrev pub made_of : StepAnswer → Made
made_of answer.Went = made.Went telling.Nothing
made_of (answer.Printed p s v) = made.Went (telling.Print p s v)
made_of (answer.Fault f) = made.Fault f
made_of answer.NoMemory = made.NoMemory

-- what became of a step, by its brief answer and what an instance answered
abbrev pub whole_of : Brief → StepAnswer → Made
whole_of brief.Went said = made.Went telling.Nothing
whole_of (brief.Took p) said = made.Took p
whole_of (brief.Shows n) said = made.Went (telling.Show n)
whole_of brief.Ended said = made.Ended
whole_of brief.NotReady said = made.NotReady
whole_of brief.NoMemory said = made.NoMemory
whole_of brief.Answered said = made_of said

-- what a show tells: nothing where there is no such object
abbrev pub told_by_show : Config → Option Visible → List Told
told_by_show c None = []
told_by_show c (Some v) = line (show_line c.cycle.now (path_of c.design v.object) (visible_value c v.id)) ∷ []

-- what is told of the step from c to d, in words of d
abbrev pub TellsOf : Config → Config → Telling → Type 0
TellsOf c d telling.Nothing = d.trace.told ≡ c.trace.told
TellsOf c d (telling.Print p s v) = AddsLine c d p s v
TellsOf c d (telling.Show i) = d.trace.told ≡ c.trace.told ++ told_by_show d (slice_get d.design.visible i)

-- a step went to a configuration that the kernel stands for now, with the same rest of the script, and this is told of it
abbrev pub GoesTo : Kernel → Telling → Config → Outcome → Type 0
GoesTo new t c (went d) = StandsFor new d × (d.script ≡ c.script) × TellsOf c d t
GoesTo new t c (faulted f) = ⊥
GoesTo new t c takes = ⊥
GoesTo new t c ended = ⊥

-- the taking of p is told, by the instance as it is then, which has not ended
pub record TellsTurn (c d : Config) (p : ℕ) : Type 0 where
  pub taken : Instance
  pub there : instance_at d p ≡ Some taken
  pub lives : taken.ended ≡ false
  pub told : d.trace.told ≡ c.trace.told ++ turn (turn_line d.cycle.now taken.path p) ∷ []

-- the step took p, and the kernel stands for the configuration of that taking
pub record TookIt (new : Kernel) (p : ℕ) (c : Config) : Type 0 where
  pub to : Config
  pub taken : taking c p ≡ Some to
  pub stands : StandsFor new to
  pub script : to.script ≡ c.script
  pub turn : TellsTurn c to p

abbrev pub TookTo : Kernel → ℕ → Config → Outcome → Type 0
TookTo new p c (went d) = ⊥
TookTo new p c (faulted f) = ⊥
TookTo new p c takes = TookIt new p c
TookTo new p c ended = ⊥

-- a step that is a run fault: the fault is the step's, and the kernel stands for what it stood for
abbrev pub IsFault : Kernel → RunFault → Config → Outcome → Type 0
IsFault new f c (went d) = ⊥
IsFault new f c (faulted g) = (f ≡ g) × StandsFor new c
IsFault new f c takes = ⊥
IsFault new f c ended = ⊥

-- the step takes a process, and none was taken
abbrev pub IsUntaken : Kernel → Config → Outcome → Type 0
IsUntaken new c (went d) = ⊥
IsUntaken new c (faulted f) = ⊥
IsUntaken new c takes = StandsFor new c
IsUntaken new c ended = ⊥

-- the session has ended: there is no step
abbrev pub IsOver : Kernel → Config → Outcome → Type 0
IsOver new c (went d) = ⊥
IsOver new c (faulted f) = ⊥
IsOver new c takes = ⊥
IsOver new c ended = StandsFor new c

-- memory was refused: the kernel stands for what it stood for, and the step would have gone on, or have broken a rule of the base
-- protocol
abbrev pub IsRefused : Kernel → Config → Outcome → Type 0
IsRefused new c (went d) = StandsFor new c
IsRefused new c (faulted f) = IsOfProtocol f × StandsFor new c
IsRefused new c takes = ⊥
IsRefused new c ended = ⊥

-- the answer of a step is what the step is
abbrev pub MadeAs : Kernel → Config → Outcome → Made → Type 0
MadeAs new c outcome (made.Went t) = GoesTo new t c outcome
MadeAs new c outcome (made.Took p) = TookTo new p c outcome
MadeAs new c outcome made.Ended = IsOver new c outcome
MadeAs new c outcome (made.Fault f) = IsFault new f c outcome
MadeAs new c outcome made.NotReady = IsUntaken new c outcome
MadeAs new c outcome made.NoMemory = IsRefused new c outcome

-- whatever configuration the kernel stood for
abbrev pub Makes : Kernel → Kernel → Made → (Config → Outcome) → Type 0
Makes old new result f = (c : Config) → StandsFor old c → MadeAs new c (f c) result

-- the same of a step that may take a command off the script, whose rest is then this
abbrev pub StepAs : Kernel → List Command → Config → Outcome → Made → Type 0
StepAs new script c outcome (made.Went t) = GoesTo new t (record c { script = script }) outcome
StepAs new script c outcome (made.Took p) = TookTo new p c outcome × (script ≡ c.script)
StepAs new script c outcome made.Ended = IsOver new c outcome × (script ≡ c.script)
StepAs new script c outcome (made.Fault f) = IsFault new f c outcome × (script ≡ c.script)
StepAs new script c outcome made.NotReady = IsUntaken new c outcome × (script ≡ c.script)
StepAs new script c outcome made.NoMemory = IsRefused new c outcome × (script ≡ c.script)

abbrev pub StepsOn : Kernel → Kernel → List Command → List Command → Made → (Config → Outcome) → Type 0
StepsOn old new before after result f =
    (c : Config) → StandsFor old c → c.script ≡ before → StepAs new after c (f c) result

-- what a step that takes a process answers where this is picked: there is no taking where none is picked, or one that is not
-- runnable
abbrev pub taken_as : Config → Option ℕ → Made
taken_as c None = made.NotReady
taken_as c (Some p) = if holds c.processes.runnable p then made.Took p else made.NotReady

-- A chooser is asked once in a step that takes a process, with the runnable serials in rising order, and the step answers by what
-- it picks; in every other step it is as before.
module _ {C : Type 0} (picks : C → List ℕ → Option ℕ) (later : C → List ℕ → C) where
  abbrev pub AskedAs : C → C → Config → Made → Outcome → Type 0
  AskedAs before after c m (went d) = after ≡ before
  AskedAs before after c m (faulted f) = after ≡ before
  AskedAs before after c m takes = (m ≡ taken_as c (picks before (in_order c.processes.runnable))) × (after ≡ later before (in_order c.processes.runnable))
  AskedAs before after c m ended = after ≡ before

  abbrev pub Asks : Kernel → C → C → Made → (Config → Outcome) → Type 0
  Asks old before after result f = (c : Config) → StandsFor old c → AskedAs before after c result (f c)

-- in its runnable list nothing stands twice, as in every run
abbrev pub NoDoubles : Config → Type 0
NoDoubles c = (q : ℕ) → times q c.processes.runnable ≤ 1

-- a step that takes no process and no memory
abbrev pub IsPlain : Made → Type 0
IsPlain (made.Went t) = Unit {0}
IsPlain (made.Took p) = ⊥
IsPlain made.Ended = Unit {0}
IsPlain (made.Fault f) = Unit {0}
IsPlain made.NotReady = ⊥
IsPlain made.NoMemory = ⊥

-- several steps
module _ {C : Type 0} (picks : C → List ℕ → Option ℕ) (later : C → List ℕ → C) where
  -- So many quiet steps lead from a kernel with this rest of the script and this chooser to another: each goes on, takes no process, and
  -- nothing is told of it.
  abbrev pub Quietly : Kernel → List Command → C → ℕ → Kernel → List Command → C → Type 0
  Quietly old script held zero there left h = (there ≡ old) × (left ≡ script) × (h ≡ held)
  Quietly old script held (suc n) there left h =
      (k : Kernel) × (before : List Command) × (j : C) × Quietly old script held n k before j
      × StepsOn k there before left (made.Went telling.Nothing) step × Asks picks later k j h (made.Went telling.Nothing) step

  -- so many quiet steps, and then one that is this
  pub record Stepped (old new : Kernel) (before after : List Command) (held next : C) (quiet : ℕ) (result : Made) : Type 0 where
    pub there : Kernel
    pub left : List Command
    pub chooser : C
    pub quietly : Quietly old before held quiet there left chooser
    pub last : StepsOn there new left after result step
    pub asks : Asks picks later there chooser next result step
