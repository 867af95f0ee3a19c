-- What a step adds to the texts of a session.
use Rattle.std.specs.Prelude.{◌≡◌, ◌<◌, ◌⊎◌, ℕ, List, [], ◌∷◌, ◌++◌, length, Option, Some, None, Result, Ok, Err, ⊤}
use Rattle.std.specs.List.{flat_map}
use Rattle.sim_io.specs.declared.outside.Trouble.{Trouble}
use Rattle.sim_io.specs.declared.outside.Trouble.TheVariants as trouble
use Rattle.vcd_trace.specs.SimModel.Configuration.{Config, Snapshot}
use Rattle.vcd_trace.specs.SimModel.Texts.{shown, closing, choice_text}
use Rattle.vcd_trace.specs.SimModel.Steps.{step, went}
use Rattle.vcd_trace.specs.SimModel.Trace.{header, trace_text}
use Rattle.vcd_trace.specs.SimModel.declared.plain.Log.{Log}
use Rattle.vcd_trace.specs.SimModel.declared.plain.Stop.{Stop}
use Rattle.vcd_trace.specs.Traced.{trace_so_far, Keeps}
use Rattle.vcd_trace.specs.declared.tracing.Tracing.{Tracing}
use Rattle.kernel_start.specs.KernelState.Kernel.{StandsFor}
use Rattle.kernel_start.specs.KernelState.declared.kernel.Kernel.{Kernel}
use Rattle.kernel_runs.specs.Made.{TellsOf, TellsTurn}
use Rattle.kernel_runs.specs.declared.answers.Telling.{Telling}
use Rattle.session.specs.Cut.{cut_by}
use Rattle.session.specs.Outputs.{Texts, behind, no_texts, Outer, Names, Took, IsFront}

-- the bytes of a line, where there is one
abbrev pub text_if : Option (List ℕ) → List ℕ
text_if None = []
text_if (Some line) = line

-- the report so far of a session that stands in this configuration
abbrev pub text_so_far : Log → Config → List ℕ
text_so_far log c = flat_map (shown log) c.trace.told

-- what is told of a step is this text, under either log, whatever the step leads to
abbrev pub TextOf : Kernel → Telling → List ℕ → Type 0
TextOf k t text = (log : Log) (c d : Config) → StandsFor k d → TellsOf c d t → text_so_far log d ≡ text_so_far log c ++ text

-- the same of a taking
abbrev pub TextOfTurn : Kernel → Log → ℕ → List ℕ → Type 0
TextOfTurn k log p text = (c d : Config) → StandsFor k d → TellsTurn c d p → text_so_far log d ≡ text_so_far log c ++ text

-- ---- what became of a text of which something is known, T, that came behind what was due of its kind: what of both is taken or due now,
-- and of which as much was taken as G says

-- all of it
abbrev pub With : (List ℕ → Type 0) → List ℕ → List ℕ → Type 0
With T due given = (text : List ℕ) × T text × (given ≡ due ++ text)

-- a front of it, be it before there was a text
abbrev pub FrontIf : (List ℕ → Type 0) → List ℕ → List ℕ → Type 0
FrontIf T due given = IsFront given due ⊎ ((text : List ℕ) × T text × IsFront given (due ++ text))

-- a front of it that lacks a byte
abbrev pub ShortOf : (List ℕ → Type 0) → List ℕ → List ℕ → Type 0
ShortOf T due given = (text : List ℕ) × T text × IsFront given (due ++ text) × (length given < length (due ++ text))

-- all of it; a front that lacks a byte; or, where memory was refused, any front
abbrev pub IsPart : (List ℕ → Type 0) → List ℕ → List ℕ → Result Unit Trouble → Type 0
IsPart T due given (Ok u) = With T due given
IsPart T due given (Err trouble.Failed) = ShortOf T due given
IsPart T due given (Err trouble.NoMemory) = FrontIf T due given

abbrev pub Into : (List ℕ → Type 0) → (List ℕ → Type 0) → List ℕ → List ℕ → Result Unit Trouble → Type 0
Into T G due left result = (taken : List ℕ) × IsPart T due (taken ++ left) result × G taken

-- the same of three texts that are given one after another
pub record Fronts3 (T P C : List ℕ → Type 0) (due given : Texts) : Type 0 where
  pub report : FrontIf T due.report given.report
  pub trace : FrontIf P due.trace given.trace
  pub choices : FrontIf C due.choices given.choices

abbrev pub AreParts : (T P C : List ℕ → Type 0) → Texts → Texts → Result Unit Trouble → Type 0
AreParts T P C due given (Ok u) = With T due.report given.report × With P due.trace given.trace × With C due.choices given.choices
AreParts T P C due given (Err trouble.Failed) = Fronts3 T P C due given × (ShortOf T due.report given.report ⊎ (ShortOf P due.trace given.trace ⊎ ShortOf C due.choices given.choices))
AreParts T P C due given (Err trouble.NoMemory) = Fronts3 T P C due given

pub record Recorded (T P C : List ℕ → Type 0) (AreNamed : Names → Type 0) (old new : Outer) (due left : Texts) (result : Result Unit Trouble) : Type 0 where
  pub taken : Texts
  pub took : Took AreNamed old new taken
  pub parts : AreParts T P C due (behind taken left) result

-- what is due behind a call that lets go where it is cut
abbrev pub left_by : Texts → Result Unit Trouble → Texts
left_by left (Ok u) = left
left_by left (Err e) = no_texts

-- nothing
abbrev pub Nothing : List ℕ → Type 0
Nothing text = text ≡ []

-- ---- the trace

-- what is kept of a trace is that of these snapshots, where there is a trace
abbrev pub KeepsIf : Option ℕ → Tracing → List Snapshot → Type 0
KeepsIf None t ss = ⊤
KeepsIf (Some id) t ss = Keeps t ss

-- what a step from this time adds to the trace, and what is kept behind it
pub record PointOf (k : Kernel) (time : ℕ) (before after : Tracing) (text : List ℕ) : Type 0 where
  pub adds : (c d : Config) → step c ≡ went d → StandsFor k d → c.cycle.now ≡ time → d.design ≡ c.design → Keeps before c.trace.snapshots → trace_so_far d ≡ trace_so_far c ++ text
  pub keeps : (c d : Config) → step c ≡ went d → StandsFor k d → c.cycle.now ≡ time → Keeps before c.trace.snapshots → Keeps after d.trace.snapshots

-- what the end of a session adds to it
abbrev pub LastPointOf : Kernel → Tracing → List ℕ → Type 0
LastPointOf k before text = (c : Config) → StandsFor k c → Keeps before c.trace.snapshots → trace_so_far c ++ text ≡ trace_text c

-- what a trace begins with
abbrev pub HeaderOf : Kernel → List ℕ → Type 0
HeaderOf k text = (c : Config) → StandsFor k c → text ≡ header c.design

-- the final lines and the end line of a session that ends so
abbrev pub IsClosing : Kernel → Stop → List ℕ → Type 0
IsClosing k s text = (c : Config) → StandsFor k c → text ≡ closing c s

-- the line of this choice
abbrev pub IsLineOf : ℕ → List ℕ → Type 0
IsLineOf choice text = text ≡ choice_text (choice ∷ [])

-- nothing is due where there is a file
abbrev pub EmptyFor : Option ℕ → List ℕ → Type 0
EmptyFor None due = ⊤
EmptyFor (Some id) due = due ≡ []

-- where all was written, nothing is due
abbrev pub AllOut : Option ℕ → Option ℕ → Texts → Result Unit Trouble → Type 0
AllOut trace choices left (Ok u) = (left.report ≡ []) × EmptyFor trace left.trace × EmptyFor choices left.choices
AllOut trace choices left (Err e) = ⊤

-- the last texts of a session were written so
abbrev pub Closes : (T P : List ℕ → Type 0) → Option ℕ → Option ℕ → (Names → Type 0) → Outer → Outer → Texts → Result Unit Trouble → Type 0
Closes T P trace choices AreNamed old new due result = (left : Texts) × Recorded T P Nothing AreNamed old new due left result × AllOut trace choices left result

-- how a session ends whose last texts were due at this end and were written so
abbrev pub stopped_by : Stop → Result Unit Trouble → Stop
stopped_by due (Ok u) = due
stopped_by due (Err e) = cut_by e

abbrev pub Finishes : (Result Unit Trouble → Type 0) → Stop → Stop → Type 0
Finishes R due s = (written : Result Unit Trouble) × R written × (s ≡ stopped_by due written)

-- a text that there is where a file is to get it
abbrev pub TextFor : Option ℕ → (List ℕ → Type 0) → List ℕ → Type 0
TextFor None T text = text ≡ []
TextFor (Some id) T text = T text
