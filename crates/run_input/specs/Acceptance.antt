-- Which texts are accepted, and which are refused; and what the laid-out text of a model is.
use Rattle.std.specs.Prelude.{◌≡◌, ◌≤◌, ◌<◌, ◌-◌, ◌^◌, ◌⊎◌, ℕ, List, All, length, Option, Some, None, IsSome, Ok, Err}
use Rattle.model_tree.specs.Tree as tree
use Rattle.model_tree.specs.declared.faults.Fault.{Fault}
use Rattle.script_text.specs.ModelLexer.Reads.{Reads}
use Rattle.elaborate.specs.TickRules.Sources.{resolution_of, source_fault, ticked}
use Rattle.elaborate.specs.DesignRules.Designs.{IsDesignOf}
use Rattle.elaborate.specs.Elaborated.{elaboration_fault}
use Rattle.elaborate.specs.LawsCode.OwnBlocks.{HaveOwnBlocks}
use Rattle.flat_design.specs.Sound.{SoundDesign}
use Rattle.flat_design.specs.declared.design.Design.{Design}
use Rattle.flat_design.specs.declared.design.SemaphorePart.{SemaphorePart}
use Rattle.instance_table.specs.declared.TheConstants.{MAX_LIVE}
use Rattle.script_text.specs.SimModel.declared.plain.Command.{Command}
use Rattle.script_text.specs.ScriptText.{read_script}
use Rattle.script_text.specs.NamedScript.{name_script}
use Rattle.script_text.specs.declared.forms.TextCommand.{TextCommand}
use Rattle.script_text.specs.ChoiceList.{read_choices}
use Rattle.model_print.specs.Printed.{printed_text}
use Rattle.run_input.specs.Together.{Together}
use Rattle.result_texts.specs.declared.refusals.ModelFault.{ModelFault}
use Rattle.result_texts.specs.declared.refusals.ModelFault.TheVariants as model_fault
use Rattle.result_texts.specs.declared.refusals.ScriptFault.{ScriptFault}
use Rattle.result_texts.specs.declared.refusals.ScriptFault.TheVariants as script_fault
use Rattle.expanded_text.specs.Becomes.{Becomes}

-- the model has clocked threads, and the text that it becomes reads as this tree
abbrev pub ReadsExpanded : List ℕ → tree.Source → Type 0
ReadsExpanded model m = (out : List ℕ) × Becomes model out × Reads out m

-- the model reads as this tree: as it stands; or, one of language 3, as what it becomes
abbrev pub IsRead : List ℕ → tree.Source → Type 0
IsRead model m = Reads model m ⊎ ReadsExpanded model m

-- the model reads as no tree
abbrev pub HasNoTree : List ℕ → Type 0
HasNoTree model = (m : tree.Source) → IsRead model m → ⊥

-- the model reads as a tree, and breaks the rule on its resolution, or one on single modules
pub record BreaksRule (model : List ℕ) : Type 0 where
  pub m : tree.Source
  pub reads : IsRead model m
  pub fault : IsSome (source_fault m)

-- the model reads as a tree that breaks no such rule, whose instances or whose bindings are at fault
pub record BreaksWhole (model : List ℕ) : Type 0 where
  pub m : tree.Source
  pub reads : IsRead model m
  pub faultless : source_fault m ≡ None
  pub fault : IsSome (elaboration_fault (ticked m))

-- the model is refused, for one of these causes
abbrev pub IsBrokenModel : List ℕ → Type 0
IsBrokenModel model = HasNoTree model ⊎ (BreaksRule model ⊎ BreaksWhole model)

-- this is the first fault of a model: of its resolution or of a rule on single modules, or, where it breaks none, of its instances and bindings
abbrev pub IsFirstFault : tree.Source → Fault → Type 0
IsFirstFault m fault = (source_fault m ≡ Some fault) ⊎ ((source_fault m ≡ None) × (elaboration_fault (ticked m) ≡ Some fault))

-- what is said of a model that is refused is so: it reads as no tree; or as one of which this is the first fault
abbrev pub HasModelFault : List ℕ → ModelFault → Type 0
HasModelFault model (model_fault.Syntax line) = HasNoTree model
HasModelFault model (model_fault.Rule fault) = (m : tree.Source) × IsRead model m × IsFirstFault m fault

-- the model reads as this tree, which breaks no rule, and whose instances and bindings are not at fault
pub record AcceptsModel (model : List ℕ) (m : tree.Source) : Type 0 where
  pub reads : IsRead model m
  pub faultless : source_fault m ≡ None
  pub elaborated : elaboration_fault (ticked m) ≡ None

-- the design of a whole text: it is that of the tree of ticks, no block of its code stands inside two bodies, and its resolution is
-- that of the text
pub record IsDesignOfSource (m : tree.Source) (d : Design) : Type 0 where
  pub parts : IsDesignOf (ticked m) d
  pub apart : HaveOwnBlocks d.code
  pub resolution : d.resolution.power ≡ (resolution_of m.head).power

-- the design is that of the tree that the model is accepted as
abbrev pub IsDesignOfText : List ℕ → Design → Type 0
IsDesignOfText model d = (m : tree.Source) × AcceptsModel model m × IsDesignOfSource m d

-- a design that a session can be run of: it is sound, has no more processes and events than a session takes, and its semaphores start low
pub record CanRun (d : Design) : Type 0 where
  pub sound : SoundDesign d
  pub few : length d.processes ≤ MAX_LIVE
  pub events : d.events < 2 ^ 32 - 1
  pub starts : All (λ (p : SemaphorePart). p.start < 2 ^ 31) d.semaphores

-- the script has no command list, or a command that names what the design lacks or has a bad value
abbrev pub BreaksScript : Design → List ℕ → Type 0
BreaksScript d script =
    ((line : ℕ) × (read_script script ≡ Err line)) ⊎ ((text : List TextCommand) × (fault : Fault) × (read_script script ≡ Ok text) × (name_script d text ≡ Err fault))

-- what is said of a script that is refused is so: it reads as no command list, and this line says so; or as commands
-- of which this is the first fault over the design
abbrev pub HasScriptFault : Design → List ℕ → ScriptFault → Type 0
HasScriptFault d script (script_fault.Syntax line) = read_script script ≡ Err line
HasScriptFault d script (script_fault.Command fault) = (text : List TextCommand) × (read_script script ≡ Ok text) × (name_script d text ≡ Err fault)

-- the script is refused over a design of the tree
pub record IsBrokenScript (m : tree.Source) (script : List ℕ) : Type 0 where
  pub design : Design
  pub is_design : IsDesignOfSource m design
  pub breaks : BreaksScript design script

-- the script has a command list, whose names and values fit the design
abbrev pub NamesScript : Design → List ℕ → List Command → Type 0
NamesScript d script commands = (text : List TextCommand) × (read_script script ≡ Ok text) × (name_script d text ≡ Ok commands)

-- the model is accepted as this tree, of which this is a design, and the script as these commands over the design
pub record Accepts (model script : List ℕ) (m : tree.Source) (d : Design) (commands : List Command) : Type 0 where
  pub accepted : AcceptsModel model m
  pub is_design : IsDesignOfSource m d
  pub named : NamesScript d script commands

-- the replay text is this list of serials; where there is no text there is no list
abbrev pub ReadsReplay : Option (List ℕ) → Option (List ℕ) → Type 0
ReadsReplay replay choices = Together replay choices (λ text list. read_choices text ≡ Ok list)

-- what is said of a replay text that is refused is so: there is one, it is no list of serials, and this line says so
abbrev pub HasReplayFault : Option (List ℕ) → ℕ → Type 0
HasReplayFault None line = ⊥
HasReplayFault (Some text) line = read_choices text ≡ Err line

-- the replay text is refused
abbrev pub IsBrokenReplay : Option (List ℕ) → Type 0
IsBrokenReplay replay = (line : ℕ) × HasReplayFault replay line

-- the model is accepted as a tree, and this is the text of that tree, laid out
pub record IsLayoutOf (model page : List ℕ) : Type 0 where
  pub m : tree.Source
  pub accepted : AcceptsModel model m
  pub page_is : page ≡ printed_text m
