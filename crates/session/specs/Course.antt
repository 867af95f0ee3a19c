-- How a session went, and what it wrote.
use Rattle.std.specs.Prelude.{◌≡◌, ◌≤◌, ℕ, suc, Bool, true, false, List, [], ◌∷◌, ◌++◌, length, Option, Some, None, ⊤, if◌then◌else◌}
use Rattle.kernel_start.specs.KernelState.declared.kernel.Kernel.{Kernel}
use Rattle.vcd_trace.specs.SimModel.Configuration.{Config}
use Rattle.vcd_trace.specs.SimModel.Steps.{Outcome, went, faulted, takes, ended}
use Rattle.vcd_trace.specs.SimModel.Runs.{after, Ruled, stop_of}
use Rattle.vcd_trace.specs.SimModel.Texts.{report, choice_text}
use Rattle.vcd_trace.specs.SimModel.Trace.{trace_text}
use Rattle.vcd_trace.specs.SimModel.declared.plain.Stop.{Stop}
use Rattle.vcd_trace.specs.SimModel.declared.plain.Stop.TheVariants as stop
use Rattle.vcd_trace.specs.Traced.{trace_so_far}
use Rattle.session.specs.declared.plans.Plan.{Plan}
use Rattle.session.specs.Outputs.{Texts, TookFronts, TookShort, IsNear, text_for}
use Rattle.session.specs.Telling.{text_so_far}

-- the texts of a session that stands in this configuration, these choices having been taken: where it has ended, all of them; and
-- else those so far
abbrev pub texts_at : Plan → Config → List ℕ → Option Stop → Texts
texts_at plan c choices None = record { report = text_so_far plan.log c; trace = text_for plan.vcd (trace_so_far c); choices = text_for plan.choices (choice_text choices) }
texts_at plan c choices (Some s) = record { report = report plan.log c s; trace = text_for plan.vcd (trace_text c); choices = text_for plan.choices (choice_text choices) }

-- what was taken of these texts of a session, by its end: at a cut fronts of them, and any other end is the run's, and all of them
abbrev pub Wrote : (Texts → Type 0) → Option Stop → Texts → Stop → Type 0
Wrote TookIt ending texts stop.WriteFault = TookShort TookIt texts
Wrote TookIt ending texts stop.NoMemory = TookFronts TookIt texts
Wrote TookIt ending texts stop.Done = (ending ≡ Some stop.Done) × TookIt texts
Wrote TookIt ending texts stop.Stopped = (ending ≡ Some stop.Stopped) × TookIt texts
Wrote TookIt ending texts stop.Budget = (ending ≡ Some stop.Budget) × TookIt texts
Wrote TookIt ending texts (stop.Replay place) = (ending ≡ Some (stop.Replay place)) × TookIt texts
Wrote TookIt ending texts (stop.Fault f) = (ending ≡ Some (stop.Fault f)) × TookIt texts

-- how the run ends in this configuration, to which so many steps with these choices led
abbrev pub end_of : Plan → Config → List ℕ → ℕ → Option Stop
end_of plan c choices steps = stop_of c plan.rule (length choices) steps plan.budget

-- The texts of all steps but the last are at most 65,536 bytes longer than what was taken of them: those of the configuration before
-- that step, to which the choices led that were taken until then. Of the order in which the three were taken nothing is said.
abbrev pub LacksLittle : Plan → Config → List ℕ → ℕ → (Texts → Type 0) → Type 0
LacksLittle plan first choices steps TookIt = (m : ℕ) → steps ≡ suc m → (before : Config) (used left : List ℕ) → choices ≡ used ++ left → after m used first ≡ Some before
    → (front : Texts) × TookIt front × IsNear 65536 front (texts_at plan before used None)

-- A session is a run: so many steps with these choices, each of them what the rule picks, lead from the first configuration to
-- the last, whose end is the session's, and its texts were taken; where a cut ends the session, little is lacking in what was taken.
pub record Ran (first : Config) (plan : Plan) (choices : List ℕ) (steps : ℕ) (s : Stop) (TookIt : Texts → Type 0) : Type 0 where
  pub last : Config
  pub is_run : after steps choices first ≡ Some last
  pub ruled : Ruled plan.rule steps choices first
  pub within : steps ≤ plan.budget
  pub wrote : Wrote TookIt (end_of plan last choices steps) (texts_at plan last choices (end_of plan last choices steps)) s
  pub near : LacksLittle plan first choices steps TookIt

-- an end of the run itself, and no cut
abbrev pub IsEnd : Stop → Type 0
IsEnd stop.Done = ⊤
IsEnd stop.Stopped = ⊤
IsEnd stop.Budget = ⊤
IsEnd (stop.Replay place) = ⊤
IsEnd (stop.Fault f) = ⊤
IsEnd stop.WriteFault = ⊥
IsEnd stop.NoMemory = ⊥

-- how a session whose kernel has no step left came to its end
abbrev pub IsEndedAs : Kernel → Stop → Type 0
IsEndedAs k s = s ≡ (if k.cycle.stopped then stop.Stopped else stop.Done)

-- whether there is no step
abbrev pub IsOverAs : Bool → Outcome → Type 0
IsOverAs true (went d) = ⊥
IsOverAs true (faulted f) = ⊥
IsOverAs true takes = ⊥
IsOverAs true ended = ⊤
IsOverAs false (went d) = ⊤
IsOverAs false (faulted f) = ⊤
IsOverAs false takes = ⊤
IsOverAs false ended = ⊥

-- whether a list has nothing
abbrev pub is_empty : {A : Type 0} → List A → Bool
is_empty [] = true
is_empty (x ∷ xs) = false
