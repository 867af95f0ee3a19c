-- What the words ask for: of which texts a run is made, and how it goes.
use Rattle.std.specs.Prelude.{◌≡◌, ◌≤◌, ℕ, List, length, codes, Option, Some, None, ⊤}
use Rattle.session.specs.SimIo.Contents.{IsText}
use Rattle.command_line.specs.SimModel.declared.plain.Log.TheVariants as log
use Rattle.command_line.specs.SimModel.declared.plain.Rule.{Rule}
use Rattle.command_line.specs.SimModel.declared.plain.Rule.TheVariants as rule
use Rattle.command_line.specs.Line.{ChoiceRule, Simulation, Mode, Ordered, Replayed, Simulate, Page, Generate}
use Rattle.command_line.specs.declared.modes.Order.{Order}
use Rattle.command_line.specs.declared.modes.Order.TheVariants as order
use Rattle.model_gen.specs.Generated.{generated}
use Rattle.run_input.specs.Limits.{model_limit}
use Rattle.run_input.specs.Loaded.{AreTexts, IsAloneLimit, IsRunLimit}
use Rattle.run_input.specs.Together.{Together}
use Rattle.session.specs.declared.plans.Plan.{Plan}
use Rattle.tlmsim.specs.Call.{Call}
use Rattle.tlmsim.specs.Pages.{ReadsModel}

-- the replay file that is named, if there is one
abbrev pub replay_of : ChoiceRule → Option (List ℕ)
replay_of (Ordered o) = None
replay_of (Replayed file) = Some file

-- These are the texts of the run that is asked for: of a simulation those of its files, where the shelf tells them, each within its
-- limit; of a generated model its text, and the script that runs it once. A file of which a page is told is not run.
abbrev pub HasTexts : Call → Mode → List ℕ → List ℕ → Option (List ℕ) → Type 0
HasTexts c (Simulate s) model script replay = AreTexts c.before.files c.after.files s.model s.script (replay_of s.rule) model script replay
HasTexts c (Page kind name) model script replay = ⊥
HasTexts c (Generate g) model script replay = (model ≡ generated g.size) × (script ≡ codes "run") × (replay ≡ None)

-- the text of a file of which a page is told, within its limit
pub record HasText (c : Call) (name model : List ℕ) : Type 0 where
  pub text : IsText c.before.files c.after.files name model
  pub within : length model ≤ model_limit

-- this is the text of the model that is judged
abbrev pub IsModel : Call → Mode → List ℕ → Type 0
IsModel c (Simulate s) model = (script : List ℕ) × (replay : Option (List ℕ)) × HasTexts c (Simulate s) model script replay
IsModel c (Page kind name) model = ReadsModel kind × HasText c name model
IsModel c (Generate g) model = model ≡ generated g.size

-- this is the limit of a file that is read
abbrev pub IsLimitIn : Mode → List ℕ → ℕ → Type 0
IsLimitIn (Simulate s) = IsRunLimit s.model s.script (replay_of s.rule)
IsLimitIn (Page kind name) = IsAloneLimit name
IsLimitIn (Generate g) = λ file limit. ⊥

abbrev pub IsLimitOf : Option Mode → List ℕ → ℕ → Type 0
IsLimitOf None = λ file limit. ⊥
IsLimitOf (Some mode) = IsLimitIn mode

-- ---- how a run goes

abbrev pub rule_of : Order → Rule
rule_of order.First = rule.First
rule_of order.Last = rule.Last
rule_of (order.Seed seed) = rule.Seed seed

-- the rule of choices: by an order; or the list of a replay file
abbrev pub IsRule : ChoiceRule → Option (List ℕ) → Rule → Type 0
IsRule (Ordered o) None r = r ≡ rule_of o
IsRule (Ordered o) (Some choices) r = ⊥
IsRule (Replayed file) None r = ⊥
IsRule (Replayed file) (Some choices) r = r ≡ rule.Replay choices

-- the plan is what is asked for
pub record PlansRun (s : Simulation) (replay : Option (List ℕ)) (p : Plan) : Type 0 where
  pub rule_is : IsRule s.rule replay p.rule
  pub budget_is : p.budget ≡ s.budget
  pub log_is : p.log ≡ s.log
  pub vcd_is : Together s.vcd p.vcd (λ name id. ⊤)
  pub choices_are : Together s.choices p.choices (λ name id. ⊤)

abbrev pub IsPlan : Mode → Option (List ℕ) → Plan → Type 0
IsPlan (Simulate s) replay p = PlansRun s replay p
IsPlan (Page kind name) replay p = ⊥
IsPlan (Generate g) replay p = p ≡ record { rule = rule_of g.order; budget = g.budget; log = log.Prints; vcd = None; choices = None }

-- the most steps
abbrev pub budget_of : Mode → ℕ
budget_of (Simulate s) = s.budget
budget_of (Page kind name) = 0
budget_of (Generate g) = g.budget
