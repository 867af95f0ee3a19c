-- How the refusals of one stage are those of the next.
use Rattle.std.proofs.Common.{◌≡◌, ◌⊎◌, inl, inr, ⊎_elim, Option, Some, None, IsSome, refl, subst, List, ℕ, Result, Ok, Err, OnOk, IfOk, IfErr, MatchResult}
use Rattle.model_tree.specs.Tree as tree
use Rattle.model_tree.specs.declared.faults.Fault.{Fault}
use Rattle.model_tree.specs.declared.faults.CheckStop.{CheckStop}
use Rattle.model_tree.specs.declared.faults.CheckStop.TheVariants.{Refused}
use Rattle.model_tree.specs.declared.faults.ParseStop.{ParseStop}
use Rattle.model_tree.specs.declared.faults.ParseStop.TheVariants as parse_stop
use Rattle.model_tree.specs.declared.whole.Tree.{Tree}
use Rattle.model_tree.specs.WholeTree.{source_of}
use Rattle.script_text.specs.ModelLexer.Reads.{Reads}
use Rattle.expanded_text.specs.Becomes.{Becomes}
use Rattle.elaborate.specs.TickRules.Sources.{source_fault, ticked}
use Rattle.model_tree.specs.Stops.{IfRefused}
use Rattle.flat_design.specs.declared.design.Design.{Design}
use Rattle.elaborate.specs.Elaborated.{elaboration_fault}
use Rattle.run_input.specs.Acceptance.{IsRead, ReadsExpanded, BreaksRule, BreaksWhole, IsBrokenModel, HasModelFault, AcceptsModel, IsDesignOfSource, IsDesignOfText, BreaksScript, HasScriptFault, HasReplayFault, IsBrokenReplay}
use Rattle.run_input.specs.Refused.{HasTextFault, IfModelFault}
use Rattle.run_input.specs.declared.judging.ModelStop.{ModelStop}
use Rattle.run_input.specs.declared.judging.JudgeStop.{JudgeStop}
use Rattle.run_input.specs.declared.judging.JudgeStop.TheVariants as judge_stop
use Rattle.result_texts.specs.declared.refusals.ModelFault.{ModelFault}
use Rattle.result_texts.specs.declared.refusals.ModelFault.TheVariants as model_fault
use Rattle.result_texts.specs.declared.refusals.ScriptFault.{ScriptFault}
use Rattle.result_texts.specs.declared.refusals.ScriptFault.TheVariants as script_fault

is_some : {T : Type 0} (found : Option T) (x : T) → found ≡ Some x → IsSome found
is_some None x e = cc
is_some (Some y) x e = refl

-- the fault of a refusal
pub refused_fault : (stop : CheckStop) (fault : Fault) (o : Option Fault) → stop ≡ Refused fault → IfRefused stop (λ f. o ≡ Some f) → o ≡ Some fault
refused_fault stop fault o e h =
    let P : CheckStop → Type 0 = λ s. IfRefused s (λ f. o ≡ Some f) in
    subst P e h

-- what is wrong with a model breaks it
pub model_broken_by : (model : List ℕ) (f : ModelFault) → HasModelFault model f → IsBrokenModel model
model_broken_by model (model_fault.Syntax line) h = inl h
model_broken_by model (model_fault.Rule fault) h = inr (⊎_elim
    (λ (f : source_fault h.0 ≡ Some fault). inl (record { m = h.0; reads = h.1; fault = is_some (source_fault h.0) fault f }))
    (λ w. inr (record { m = h.0; reads = h.1; faultless = w.0; fault = is_some (elaboration_fault (ticked h.0)) fault w.1 }))
    h.2)

-- and what is wrong with a script
pub script_broken_by : (d : Design) (script : List ℕ) (f : ScriptFault) → HasScriptFault d script f → BreaksScript d script
script_broken_by d script (script_fault.Syntax line) h = inl (line, h)
script_broken_by d script (script_fault.Command fault) h = inr (h.0, fault, h.1, h.2)

-- and what is wrong with a replay text
pub replay_broken_by : (replay : Option (List ℕ)) (line : ℕ) → HasReplayFault replay line → IsBrokenReplay replay
replay_broken_by replay line h = (line, h)

-- what is wrong with the model or the script is so whatever replay text stands beside them
pub beside_replay : (model script : List ℕ) (replay : Option (List ℕ)) (stop : JudgeStop) → HasTextFault model script None stop → HasTextFault model script replay stop
beside_replay model script replay (judge_stop.Model f) h = h
beside_replay model script replay (judge_stop.Script f) h = h
beside_replay model script replay (judge_stop.Replay line) h = absurd h.4
beside_replay model script replay judge_stop.NoMemory h = tt

by_findings : (text : List ℕ) (m : tree.Source) → IsRead text m → (fault whole : Option Fault) → source_fault m ≡ fault → elaboration_fault (ticked m) ≡ whole
    → AcceptsModel text m ⊎ (BreaksRule text ⊎ BreaksWhole text)
by_findings text m reads (Some fault) whole f w = inr (inl (record { m = m; reads = reads; fault = is_some (source_fault m) fault f }))
by_findings text m reads None (Some fault) f w = inr (inr (record { m = m; reads = reads; faultless = f; fault = is_some (elaboration_fault (ticked m)) fault w }))
by_findings text m reads None None f w = inl (record { reads = reads; faultless = f; elaborated = w })

-- a model that reads is accepted or refused
pub one_of : (text : List ℕ) (m : tree.Source) → IsRead text m → AcceptsModel text m ⊎ (BreaksRule text ⊎ BreaksWhole text)
one_of text m reads = by_findings text m reads (source_fault m) (elaboration_fault (ticked m)) refl refl

-- what is said of a tree is so of a text that reads as it
pub text_design : (text : List ℕ) (m : tree.Source) (r : Result Design ModelStop) → IsRead text m → OnOk r ((t : List ℕ) → IsRead t m → AcceptsModel t m) → IfOk r (IsDesignOfSource m) → IfOk r (IsDesignOfText text)
text_design text m (Ok d) reads accepted is = (m, accepted text reads, is)
text_design text m (Err stop) reads accepted is = tt

pub text_fault : (text : List ℕ) (m : tree.Source) (r : Result Design ModelStop) → IsRead text m → IfErr r (λ stop. (t : List ℕ) → IsRead t m → IfModelFault stop (HasModelFault t)) → IfErr r (λ stop. IfModelFault stop (HasModelFault text))
text_fault text m (Ok d) reads fault = tt
text_fault text m (Err stop) reads fault = fault text reads

-- what is read of what a model becomes is so of the model
pub expanded_read : (text out : List ℕ) (r : Result Tree ParseStop) → Becomes text out → IfOk r (λ t. Reads out (source_of t)) → IfOk r (λ t. ReadsExpanded text (source_of t))
expanded_read text out (Ok t) becomes reads = (out, becomes, reads)
expanded_read text out (Err e) becomes reads = tt

-- whatever it becomes
pub expanded_only : (text out : List ℕ) (r : Result Tree ParseStop)
    → ((text one other : List ℕ) (m : tree.Source) → Becomes text one → Becomes text other → Reads one m → Reads other m)
    → Becomes text out → ((m : tree.Source) → Reads out m → MatchResult r (λ t. source_of t ≡ m) (λ e. e ≡ parse_stop.NoMemory))
    → (m : tree.Source) → ReadsExpanded text m → IfErr r (λ e. e ≡ parse_stop.NoMemory)
expanded_only text out r same becomes only m (other, becomes', reads) = from r (only m (same text other out m becomes' becomes reads))
  where
    from : (r : Result Tree ParseStop) → MatchResult r (λ t. source_of t ≡ m) (λ e. e ≡ parse_stop.NoMemory) → IfErr r (λ e. e ≡ parse_stop.NoMemory)
    from (Ok t) h = tt
    from (Err e) h = h

-- nothing is refused that reads as it stands, or by what it becomes
pub read_only : (text : List ℕ) (line : ℕ) (r : Result Tree ParseStop)
    → ((m : tree.Source) → Reads text m → parse_stop.Syntax line ≡ parse_stop.NoMemory)
    → ((m : tree.Source) → ReadsExpanded text m → IfErr r (λ e. e ≡ parse_stop.NoMemory))
    → (m : tree.Source) → IsRead text m → IfErr r (λ e. e ≡ parse_stop.NoMemory)
read_only text line r none only m (inl reads) = let no = none m reads in cc
read_only text line r none only m (inr expanded) = only m expanded
