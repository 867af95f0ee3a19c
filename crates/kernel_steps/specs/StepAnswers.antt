-- What a step of an instance answers.
use Rattle.std.specs.Prelude.{◌≡◌, ℕ, false, List, ◌∷◌, [], ◌++◌, Option, Some, Result, Ok, Err}
use Rattle.exec_channels.specs.LogicValues.declared.kinds.Value.{Value}
use Rattle.flat_design.specs.Code as code
use Rattle.flat_design.specs.Code.{Term, Statement, statement_at}
use Rattle.flat_design.specs.declared.faults.RunFault.{RunFault}
use Rattle.exec_channels.specs.SimModel.Configuration.{Config, Instance, line, instance_at, arena}
use Rattle.exec_channels.specs.SimModel.Residual.{Residual, settle}
use Rattle.exec_channels.specs.SimModel.Reading.{here}
use Rattle.exec_channels.specs.SimModel.Statements.{settled_in, do_statement, statement_step}
use Rattle.exec_channels.specs.SimModel.Storing.{print_line}
use Rattle.exec_channels.specs.KernelState.Kernel.{StandsFor}
use Rattle.exec_channels.specs.KernelState.Moves.{Follows}
use Rattle.exec_channels.specs.KernelState.declared.kernel.Kernel.{Kernel}
use Rattle.exec_channels.specs.KernelState.declared.stops.StatementStop.{StatementStop}
use Rattle.exec_channels.specs.KernelState.declared.stops.StatementStop.TheVariants as stop
use Rattle.exec_transactions.specs.Calling.{IsOfProtocol}
use Rattle.kernel_steps.specs.declared.answers.StepAnswer.{StepAnswer}
use Rattle.kernel_steps.specs.declared.answers.StepAnswer.TheVariants as answer
use Rattle.kernel_steps.specs.declared.answers.StepBrief.{StepBrief}
use Rattle.kernel_steps.specs.declared.answers.StepBrief.TheVariants as brief
use Rattle.kernel_steps.specs.FrameConditions.{Quiet, Keeps}

-- what a step answers, by its word and what was said
abbrev pub whole_step : StepBrief → StepAnswer → StepAnswer
whole_step brief.Went said = answer.Went
whole_step brief.Said said = said

-- The one report that is added, in the step from c to d, is the line of a print, which is statement s, with this value. It is told
-- by instance p, which has not ended then, at the time that it is then.
pub record AddsLine (c d : Config) (p s : ℕ) (v : Option Value) : Type 0 where
  pub text : List ℕ
  pub shown : Option Term
  pub teller : Instance
  pub prints : statement_at (arena d) s ≡ Some (code.print text shown)
  pub there : instance_at d p ≡ Some teller
  pub lives : teller.ended ≡ false
  pub told : d.trace.told ≡ c.trace.told ++ line (print_line d.cycle.now teller.path text v) ∷ []

-- A step that was made follows the definition. A run fault is answered as it is, and changes nothing, nor does a refusal of
-- memory, which comes only where there is no fault but one of the base protocol.
abbrev pub Tells : Kernel → StepAnswer → Config → Instance → Result Config RunFault → Type 0
Tells new answer.Went c i r = Follows new (Ok tt) c r
Tells new (answer.Printed p s v) c i (Ok d) = StandsFor new d × AddsLine c d p s v
Tells new (answer.Printed p s v) c i (Err f) = ⊥
Tells new (answer.Fault f) c i r = Follows new (Err f) c r
Tells new answer.NoMemory c i (Ok d) = StandsFor new c
Tells new answer.NoMemory c i (Err f) = IsOfProtocol f × StandsFor new c

-- The same, and the design and the script's rest stay, and nothing is told but the line of a print.
abbrev pub TellsAll : Kernel → StepAnswer → Config → Instance → Result Config RunFault → Type 0
TellsAll new answer.Went c i (Ok d) = StandsFor new d × Quiet c d
TellsAll new answer.Went c i (Err f) = ⊥
TellsAll new (answer.Printed p s v) c i (Ok d) = StandsFor new d × Keeps c d × AddsLine c d p s v
TellsAll new (answer.Printed p s v) c i (Err f) = ⊥
TellsAll new (answer.Fault f) c i r = Follows new (Err f) c r
TellsAll new answer.NoMemory c i (Ok d) = StandsFor new c
TellsAll new answer.NoMemory c i (Err f) = IsOfProtocol f × StandsFor new c

-- a step of instance p, by its first move and then by f
abbrev pub Makes : Kernel → Kernel → StepAnswer → ℕ → (Config → ℕ → Instance → Residual → Result Config RunFault) → Type 0
Makes old new answer p f = (c : Config) (i : Instance) → StandsFor old c → instance_at c p ≡ Some i
    → Tells new answer c i (f (settled_in c p i.residual) p (record i { residual = settle (arena c) i.residual }) (settle (arena c) i.residual))

abbrev pub MakesAll : Kernel → Kernel → StepAnswer → ℕ → (Config → ℕ → Instance → Residual → Result Config RunFault) → Type 0
MakesAll old new answer p f = (c : Config) (i : Instance) → StandsFor old c → instance_at c p ≡ Some i
    → TellsAll new answer c i (f (settled_in c p i.residual) p (record i { residual = settle (arena c) i.residual }) (settle (arena c) i.residual))

-- by statement s, which is x
abbrev pub Carries : Kernel → Kernel → StepAnswer → ℕ → ℕ → Statement → Type 0
Carries old new answer p s x = Makes old new answer p (λ c q i r. do_statement c q i r (here c q i r) s x)

abbrev pub CarriesAll : Kernel → Kernel → StepAnswer → ℕ → ℕ → Statement → Type 0
CarriesAll old new answer p s x = MakesAll old new answer p (λ c q i r. do_statement c q i r (here c q i r) s x)

-- the whole step
abbrev pub MakesStep : Kernel → Kernel → StepAnswer → ℕ → Type 0
MakesStep old new answer p = (c : Config) (i : Instance) → StandsFor old c → instance_at c p ≡ Some i → TellsAll new answer c i (statement_step c p)

-- the answers of statements as that of the step: of those that take no memory, and of those that may
abbrev pub plain_answer : Result Unit RunFault → StepAnswer
plain_answer (Ok u) = answer.Went
plain_answer (Err f) = answer.Fault f

abbrev pub taking_answer : Result Unit StatementStop → StepAnswer
taking_answer (Ok u) = answer.Went
taking_answer (Err (stop.Fault f)) = answer.Fault f
taking_answer (Err stop.NoMemory) = answer.NoMemory
