-- What a refusal of a text says, where it is one: out of memory it says nothing.
use Rattle.std.specs.Prelude.{ℕ, List, Option, ⊤}
use Rattle.model_tree.specs.Tree as tree
use Rattle.flat_design.specs.declared.design.Design.{Design}
use Rattle.run_input.specs.Acceptance.{Accepts, AcceptsModel, HasModelFault, HasReplayFault, HasScriptFault, IsDesignOfSource}
use Rattle.script_text.specs.SimModel.declared.plain.Command.{Command}
use Rattle.result_texts.specs.declared.refusals.ModelFault.{ModelFault}
use Rattle.result_texts.specs.declared.refusals.ScriptFault.{ScriptFault}
use Rattle.run_input.specs.declared.judging.ModelStop.{ModelStop}
use Rattle.run_input.specs.declared.judging.ModelStop.TheVariants as model_stop
use Rattle.run_input.specs.declared.judging.ScriptStop.{ScriptStop}
use Rattle.run_input.specs.declared.judging.ScriptStop.TheVariants as script_stop
use Rattle.run_input.specs.declared.judging.JudgeStop.{JudgeStop}
use Rattle.run_input.specs.declared.judging.JudgeStop.TheVariants as judge_stop

-- P of what is wrong with the model, or with the script
abbrev pub IfModelFault : ModelStop → (ModelFault → Type 0) → Type 0
IfModelFault (model_stop.Fault f) P = P f
IfModelFault model_stop.NoMemory P = ⊤

abbrev pub IfScriptFault : ScriptStop → (ScriptFault → Type 0) → Type 0
IfScriptFault (script_stop.Fault f) P = P f
IfScriptFault script_stop.NoMemory P = ⊤

-- what is said of the model is so; or the model is accepted, and what is said of the script is so over a design of it; or both
-- are accepted, and what is said of the replay text is so
abbrev pub HasTextFault : List ℕ → List ℕ → Option (List ℕ) → JudgeStop → Type 0
HasTextFault model script replay (judge_stop.Model f) = HasModelFault model f
HasTextFault model script replay (judge_stop.Script f) = (m : tree.Source) × (d : Design) × AcceptsModel model m × IsDesignOfSource m d × HasScriptFault d script f
HasTextFault model script replay (judge_stop.Replay line) =
    (m : tree.Source) × (d : Design) × (commands : List Command) × Accepts model script m d commands × HasReplayFault replay line
HasTextFault model script replay judge_stop.NoMemory = ⊤
