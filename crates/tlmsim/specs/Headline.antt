-- The answers of the top call, the cause of each, and what `err` gets with it.
use Rattle.std.specs.Prelude.{◌≡◌, ◌≤◌, ◌⊎◌, ◌<◌, ℕ, List, [], Option, Some, None, Err, length, codes}
use Rattle.session.specs.SimIo.Contents.{Files, AfterTold, Grew, Lacks, IsLarge, Same}
use Rattle.session.specs.SimIo.Cause.{Rose}
use Rattle.flat_design.specs.declared.faults.RunFault.{RunFault}
use Rattle.traffic_file.specs.declared.stops.BusStop.{BusStop}
use Rattle.traffic_file.specs.BusText.{bus_of}
use Rattle.model_tree.specs.Tree as tree
use Rattle.flat_design.specs.declared.design.Design.{Design}
use Rattle.flat_design.specs.Sound.{SoundDesign}
use Rattle.command_line.specs.SimModel.Configuration.{start}
use Rattle.command_line.specs.SimModel.declared.plain.Command.{Command}
use Rattle.command_line.specs.SimModel.declared.plain.Stop.{Stop}
use Rattle.command_line.specs.SimModel.declared.plain.Stop.TheVariants as stop
use Rattle.command_line.specs.Line.{Mode, Simulation, Simulate, Page, Generate, line_of}
use Rattle.command_line.specs.declared.modes.Generated.{Generated}
use Rattle.command_line.specs.declared.modes.PageKind.{PageKind}
use Rattle.command_line.specs.declared.modes.PageKind.TheVariants as page_kind
use Rattle.model_gen.specs.Generated.{generated}
use Rattle.session.specs.Course.{Ran, IsEnd}
use Rattle.session.specs.Fronts.{WroteFront}
use Rattle.session.specs.Outputs.{Texts, IsFront}
use Rattle.session.specs.declared.plans.Plan.{Plan}
use Rattle.run_input.specs.Limits.{model_limit, script_limit, replay_limit}
use Rattle.run_input.specs.Loaded.{IsUnread, IsTooLarge}
use Rattle.run_input.specs.Acceptance.{IsBrokenModel, HasModelFault, AcceptsModel, IsBrokenScript, HasScriptFault, Accepts, ReadsReplay, HasReplayFault, IsBrokenReplay, IsDesignOfSource}
use Rattle.run_input.specs.Together.{Together}
use Rattle.tlmsim.specs.Requests.{HasTexts, HasText, IsModel, IsPlan, budget_of, replay_of}
use Rattle.tlmsim.specs.Call.{Call, Keeps, NamesOne, names_in, names_if}
use Rattle.tlmsim.specs.Orderly.{Orderly, HadNoEnd}
use Rattle.tlmsim.specs.Pages.{IsPageOf, IsFitFor, IsUnfitFor}
use Rattle.tlmsim.specs.WrittenTexts.{Holds, TakesAll, TakesShort, Spared}
use Rattle.tlmsim.specs.Telling.{WroteCut}
use Rattle.run_input.specs.ResultTexts.ErrLines.{usage_line, read_line, model_line, script_line, replay_line, bus_line, large_line, err_line, write_line, memory_line}
use Rattle.run_input.specs.ResultTexts.declared.refusals.ModelFault.{ModelFault}
use Rattle.run_input.specs.ResultTexts.declared.refusals.ScriptFault.{ScriptFault}
use Rattle.run_input.specs.ResultTexts.declared.refusals.Refusal.{Refusal}
use Rattle.run_input.specs.ResultTexts.declared.refusals.Refusal.TheVariants as refusal

-- ---- refusals of the input

-- a file that the words name for reading could not be read: each only once those before it were read within their limits, the model,
-- the script, the replay file. The shelf's read count rose in this call, or it tells its files and lacks this one.
abbrev pub UnreadIn : Call → Mode → List ℕ → Type 0
UnreadIn c (Simulate s) file = IsUnread c.before.files c.after.files (Rose c.before.reads c.after.reads) s.model s.script (replay_of s.rule) file
UnreadIn c (Page kind name) file = (file ≡ name) × (Rose c.before.reads c.after.reads ⊎ Lacks c.before.files name)
UnreadIn c (Generate g) file = ⊥

pub record ReadFailed (c : Call) (file : List ℕ) : Type 0 where
  pub mode : Mode
  pub line : line_of c.words ≡ Some mode
  pub cause : UnreadIn c mode file

-- more bytes than its limit were read of a file
abbrev pub LargeIn : Call → Mode → List ℕ → Type 0
LargeIn c (Simulate s) file = IsTooLarge c.before.files c.after.files s.model s.script (replay_of s.rule) file
LargeIn c (Page kind name) file = (file ≡ name) × IsLarge c.before.files c.after.files name model_limit
LargeIn c (Generate g) file = ⊥

pub record TooLarge (c : Call) (file : List ℕ) : Type 0 where
  pub mode : Mode
  pub line : line_of c.words ≡ Some mode
  pub cause : LargeIn c mode file

-- all files were read, and this is wrong with the model: it has no tree, or breaks a rule
pub record ModelRefused (c : Call) (f : ModelFault) : Type 0 where
  pub mode : Mode
  pub line : line_of c.words ≡ Some mode
  pub model : List ℕ
  pub is_model : IsModel c mode model
  pub fault : HasModelFault model f

-- all files were read, the model is accepted, and this is wrong with the script over a design of it
pub record ScriptRefused (c : Call) (f : ScriptFault) : Type 0 where
  pub mode : Mode
  pub line : line_of c.words ≡ Some mode
  pub model : List ℕ
  pub script : List ℕ
  pub replay : Option (List ℕ)
  pub texts : HasTexts c mode model script replay
  pub m : tree.Source
  pub accepted : AcceptsModel model m
  pub design : Design
  pub is_design : IsDesignOfSource m design
  pub fault : HasScriptFault design script f

-- all files were read, model and script are accepted, and this line says that the replay text is no list of serials
pub record ReplayRefused (c : Call) (at : ℕ) : Type 0 where
  pub mode : Mode
  pub line : line_of c.words ≡ Some mode
  pub model : List ℕ
  pub script : List ℕ
  pub replay : Option (List ℕ)
  pub texts : HasTexts c mode model script replay
  pub m : tree.Source
  pub design : Design
  pub commands : List Command
  pub accepts : Accepts model script m design commands
  pub fault : HasReplayFault replay at

-- the traffic file was read, and this is wrong with it
pub record BusRefused (c : Call) (f : BusStop) : Type 0 where
  pub name : List ℕ
  pub line : line_of c.words ≡ Some (Page page_kind.Traffic name)
  pub text : List ℕ
  pub is_text : HasText c name text
  pub fault : bus_of text ≡ Err f

-- the cause of a refusal
abbrev pub RefusedFor : Call → Refusal → Type 0
RefusedFor c refusal.Usage = line_of c.words ≡ None
RefusedFor c (refusal.Read file) = ReadFailed c file
RefusedFor c (refusal.Model f) = ModelRefused c f
RefusedFor c (refusal.Script f) = ScriptRefused c f
RefusedFor c (refusal.Replay at) = ReplayRefused c at
RefusedFor c (refusal.Bus f) = BusRefused c f
RefusedFor c (refusal.TooLarge file) = TooLarge c file

-- ---- runs

-- the texts of the run that the words ask for are accepted
pub record Accepted (c : Call) : Type 0 where
  pub mode : Mode
  pub line : line_of c.words ≡ Some mode
  pub model : List ℕ
  pub script : List ℕ
  pub replay : Option (List ℕ)
  pub texts : HasTexts c mode model script replay
  pub m : tree.Source
  pub design : Design
  pub commands : List Command
  pub accepts : Accepts model script m design commands
  pub listed : Option (List ℕ)
  pub reads : ReadsReplay replay listed
  pub sound : SoundDesign design

-- The run of a design of the source tree, which is sound, under the script, as the words ask for it, with these choices and steps,
-- which ended so, and whose texts were taken as T says; each choice is one of the rule; and the run is orderly: what has ended is
-- named nowhere, unwind blocks run exactly once, and the protocol is kept on each hop. Before each of its steps the run had no end: it
-- ended at its first named cause, or at the budget. Of the texts of all steps but the last at most 65,536 bytes each were not taken.
pub record Session (c : Call) (choices : List ℕ) (steps : ℕ) (s : Stop) (T : Mode → Texts → Type 0) : Type 0 where
  pub accepted : Accepted c
  pub orderly : Orderly accepted.design accepted.commands
  pub plan : Plan
  pub planned : IsPlan accepted.mode accepted.listed plan
  pub ran : Ran (start accepted.design accepted.commands) plan choices steps s (T accepted.mode)
  pub no_end_before : HadNoEnd (start accepted.design accepted.commands) plan choices steps

-- a run that ended by itself, with all its texts
abbrev pub Ended : Call → List ℕ → ℕ → Stop → Type 0
Ended c choices steps s = Session c choices steps s (λ mode. TakesAll c mode steps)

-- no choices, no steps
pub record NoRun (choices : List ℕ) (steps : ℕ) : Type 0 where
  pub no_choices : choices ≡ []
  pub no_steps : steps ≡ 0

-- the words ask for a page of a file, and this is that page
pub record HasPage (c : Call) (page : List ℕ) : Type 0 where
  pub kind : PageKind
  pub name : List ℕ
  pub line : line_of c.words ≡ Some (Page kind name)
  pub text : List ℕ
  pub is_text : HasText c name text
  pub is_page : IsPageOf kind text page

-- `out` took it
pub record PageTold (c : Call) (choices : List ℕ) (steps : ℕ) : Type 0 where
  pub page : List ℕ
  pub has : HasPage c page
  pub out : Grew c.before.out c.after.out page
  pub no_run : NoRun choices steps

-- the script was carried out, or the model stopped it; or a page was told
abbrev pub Finished : Call → List ℕ → ℕ → Type 0
Finished c choices steps = Ended c choices steps stop.Done ⊎ (Ended c choices steps stop.Stopped ⊎ PageTold c choices steps)

-- ---- cuts

-- what an end of a run leaves of its texts where the line of its steps was not written whole; and where a write failed it was one to `out`
abbrev pub EndedShort : Call → List ℕ → ℕ → Stop → Type 0
EndedShort c choices steps cut = (s : Stop) × IsEnd s × Session c choices steps s (λ mode. TakesShort c mode steps) × (cut ≡ stop.WriteFault → Rose c.before.out_faults c.after.out_faults)

-- `out` took a front of the page, which lacks a byte; and where a write failed it was one to `out`
pub record PageShort (c : Call) (choices : List ℕ) (steps : ℕ) (s : Stop) : Type 0 where
  pub page : List ℕ
  pub has : HasPage c page
  pub part : List ℕ
  pub front : IsFront part page
  pub short : length part < length page
  pub out : Grew c.before.out c.after.out part
  pub rose : s ≡ stop.WriteFault → Rose c.before.out_faults c.after.out_faults
  pub no_run : NoRun choices steps

-- the texts are accepted, and no run was begun, since not all of the files that the words name were created; and where that failed a
-- write to the files did
pub record NotBegun (c : Call) (choices : List ℕ) (steps : ℕ) (s : Stop) : Type 0 where
  pub accepted : Accepted c
  pub named : NamesOne (names_in accepted.mode)
  pub spared : Spared c accepted.mode
  pub rose : s ≡ stop.WriteFault → Rose c.before.writes c.after.writes
  pub no_run : NoRun choices steps

-- The texts that were cut: those of a run, taken in fronts; a run's that had ended, whose steps were not told whole; a page; or none,
-- where a file was not created.
abbrev pub IsCut : Call → List ℕ → ℕ → Stop → Type 0
IsCut c choices steps s =
    Session c choices steps s (λ mode. Holds c (names_in mode)) ⊎ (EndedShort c choices steps s ⊎ (PageShort c choices steps s ⊎ NotBegun c choices steps s))

-- `out` or a file that the words name was not written: a count of faults rose, that of `out`; or that of the shelf, where the words name
-- a file for writing
abbrev pub OneRose : Call → Type 0
OneRose c = Rose c.before.out_faults c.after.out_faults ⊎ (NamesOne (names_if (line_of c.words)) × Rose c.before.writes c.after.writes)

-- ---- what `err` gets

-- no choices, no steps; `out` is as it was, and so is each file
pub record Untouched (c : Call) (choices : List ℕ) (steps : ℕ) : Type 0 where
  pub no_run : NoRun choices steps
  pub out : c.after.out ≡ c.before.out
  pub files : AfterTold c.before.files c.after.files Same

-- `err` got just this line
abbrev pub Gets : Call → List ℕ → Type 0
Gets c line = Grew c.before.err c.after.err line

-- `err` and its count are as they were
pub record IsSilent (c : Call) : Type 0 where
  pub err : c.after.err ≡ c.before.err
  pub faults : c.after.err_faults ≡ c.before.err_faults

-- a text was cut by a write that failed, and `err` got a front of the line that says so
pub record TextCut (c : Call) (choices : List ℕ) (steps : ℕ) : Type 0 where
  pub cut : IsCut c choices steps stop.WriteFault
  pub rose : OneRose c
  pub told : WroteFront c.before.err c.after.err write_line

-- memory was refused before all texts were written, and `err` got a front of the line that says so
pub record TextLacking (c : Call) (choices : List ℕ) (steps : ℕ) : Type 0 where
  pub cut : IsCut c choices steps stop.NoMemory
  pub told : WroteFront c.before.err c.after.err memory_line

-- a write to `err` failed in the line of a refusal: `err` got a front of it that lacks a byte, and a front of the line that
-- says so
pub record LineCut (c : Call) (choices : List ℕ) (steps : ℕ) : Type 0 where
  pub untouched : Untouched c choices steps
  pub refused : Refusal
  pub cause : RefusedFor c refused
  pub rose : Rose c.before.err_faults c.after.err_faults
  pub told : WroteCut c.before.err c.after.err (err_line refused) write_line

-- memory was refused before the end of a refusal's line, or before anything was begun: `err` got a front of the line that says so,
-- behind a front of the refusal's where that one was begun
pub record LineLacking (c : Call) (choices : List ℕ) (steps : ℕ) : Type 0 where
  pub untouched : Untouched c choices steps
  pub told : WroteFront c.before.err c.after.err memory_line ⊎ ((r : Refusal) × RefusedFor c r × WroteCut c.before.err c.after.err (err_line r) memory_line)

-- a model or a traffic file is refused, and `err` got its line
abbrev pub ModelTold : Call → Type 0
ModelTold c = ((f : ModelFault) × ModelRefused c f × Gets c (model_line f)) ⊎ ((f : BusStop) × BusRefused c f × Gets c (bus_line f))

-- a script or a replay text is refused, and `err` got its line
abbrev pub ScriptTold : Call → Type 0
ScriptTold c = ((f : ScriptFault) × ScriptRefused c f × Gets c (script_line f)) ⊎ ((at : ℕ) × ReplayRefused c at × Gets c (replay_line at))

-- ---- the statuses

-- by how a session ended
abbrev pub stop_status : Stop → ℕ
stop_status stop.Done = 0
stop_status stop.Stopped = 0
stop_status (stop.Fault f) = 5
stop_status stop.Budget = 6
stop_status stop.WriteFault = 7
stop_status stop.NoMemory = 8
stop_status (stop.Replay place) = 9

-- the status of a refusal of the input
abbrev pub IsRefusal : ℕ → Type 0
IsRefusal status = (status ≡ 1) ⊎ ((status ≡ 2) ⊎ ((status ≡ 3) ⊎ ((status ≡ 4) ⊎ (status ≡ 10))))

-- the statuses of a run that ended, and of a page that was told
abbrev pub IsRunStatus : ℕ → Type 0
IsRunStatus status = (status ≡ 0) ⊎ ((status ≡ 5) ⊎ ((status ≡ 6) ⊎ (status ≡ 9)))

-- a cause gives this status, but where memory was refused, or a write to `err` failed in the line of the refusal
abbrev pub Gives : Call → ℕ → ℕ → Type 0
Gives c status due = (status ≡ due) ⊎ ((status ≡ 8) ⊎ ((status ≡ 7) × Rose c.before.err_faults c.after.err_faults))

-- ---- when each comes

-- the files are told before and after, and none could not be read
pub record Reads (c : Call) (old new : Files) : Type 0 where
  pub told : c.before.files ≡ Some old
  pub told_after : c.after.files ≡ Some new
  pub no_fault : Rose c.before.reads c.after.reads → ⊥

-- the files that a simulation is made of are there, with these texts
pub record Given (c : Call) (old new : Files) (model script : List ℕ) (replay : Option (List ℕ)) : Type 0 where
  pub reads : Reads c old new
  pub s : Simulation
  pub line : line_of c.words ≡ Some (Simulate s)
  pub model_is : old s.model ≡ Some model
  pub script_is : old s.script ≡ Some script
  pub replay_is : Together (replay_of s.rule) replay (λ name text. old name ≡ Some text)

-- the model or the file of a page that the words name is there with this text; of the other files nothing is said
abbrev pub names_model : Mode → Option (List ℕ)
names_model (Simulate s) = Some s.model
names_model (Page kind name) = Some name
names_model (Generate g) = None

pub record ModelGiven (c : Call) (old new : Files) (model : List ℕ) : Type 0 where
  pub reads : Reads c old new
  pub mode : Mode
  pub line : line_of c.words ≡ Some mode
  pub name : List ℕ
  pub named : names_model mode ≡ Some name
  pub model_is : old name ≡ Some model

-- the file of which a page is asked for is there with this text
pub record PageGiven (c : Call) (old new : Files) (model : List ℕ) : Type 0 where
  pub reads : Reads c old new
  pub kind : PageKind
  pub name : List ℕ
  pub line : line_of c.words ≡ Some (Page kind name)
  pub model_is : old name ≡ Some model

-- each text is within its limit
pub record Within (model script : List ℕ) (replay : Option (List ℕ)) : Type 0 where
  pub model_within : length model ≤ model_limit
  pub script_within : length script ≤ script_limit
  pub replay_within : (text : List ℕ) → replay ≡ Some text → length text ≤ replay_limit

-- one is not
abbrev pub PastLimit : List ℕ → List ℕ → Option (List ℕ) → Type 0
PastLimit model script replay = (model_limit < length model) ⊎ ((script_limit < length script) ⊎ ((text : List ℕ) × (replay ≡ Some text) × (replay_limit < length text)))

-- each status and its cause, with what `err` gets; what is kept at every status; and each cause and its status
pub record Answers (c : Call) (status : ℕ) (choices : List ℕ) (steps : ℕ) : Type 0 where
  pub done : status ≡ 0 → Finished c choices steps
  pub usage : status ≡ 1 → (line_of c.words ≡ None) × Gets c usage_line
  pub read : status ≡ 2 → (file : List ℕ) × ReadFailed c file × Gets c (read_line file)
  pub model : status ≡ 3 → ModelTold c
  pub script : status ≡ 4 → ScriptTold c
  pub fault : status ≡ 5 → (f : RunFault) × Ended c choices steps (stop.Fault f)
  pub budget : status ≡ 6 → (s : Ended c choices steps stop.Budget) × (steps ≡ budget_of s.accepted.mode)
  pub write : status ≡ 7 → TextCut c choices steps ⊎ LineCut c choices steps
  pub memory : status ≡ 8 → TextLacking c choices steps ⊎ LineLacking c choices steps
  pub replay : status ≡ 9 → (place : ℕ) × Ended c choices steps (stop.Replay place)
  pub large : status ≡ 10 → (file : List ℕ) × TooLarge c file × Gets c (large_line file)
  pub refused : IsRefusal status → Untouched c choices steps
  pub silent : IsRunStatus status → IsSilent c
  pub bound : status ≤ 10
  pub kept : Keeps c
  pub usage_comes : line_of c.words ≡ None → Gives c status 1
  pub large_comes : (old new : Files) (model script : List ℕ) (replay : Option (List ℕ)) → Given c old new model script replay → PastLimit model script replay → Gives c status 10
  pub large_model_comes : (old new : Files) (model : List ℕ) → ModelGiven c old new model → model_limit < length model → Gives c status 10
  pub model_comes : (old new : Files) (model script : List ℕ) (replay : Option (List ℕ)) → Given c old new model script replay → Within model script replay → IsBrokenModel model → Gives c status 3
  pub script_comes : (old new : Files) (model script : List ℕ) (replay : Option (List ℕ)) → Given c old new model script replay → Within model script replay
      → (m : tree.Source) → AcceptsModel model m → IsBrokenScript m script → Gives c status 4
  pub replay_comes : (old new : Files) (model script : List ℕ) (replay : Option (List ℕ)) → Given c old new model script replay → Within model script replay
      → (m : tree.Source) (d : Design) (commands : List Command) → Accepts model script m d commands → IsBrokenReplay replay → Gives c status 4
  pub page_refused_comes : (old new : Files) (text : List ℕ) (g : PageGiven c old new text) → length text ≤ model_limit → IsUnfitFor g.kind text → Gives c status 3
  pub complete : (old new : Files) (model script : List ℕ) (replay : Option (List ℕ)) → Given c old new model script replay → Within model script replay
      → (m : tree.Source) (d : Design) (commands : List Command) (listed : Option (List ℕ)) → Accepts model script m d commands → ReadsReplay replay listed
      → (OneRose c → ⊥) → IsRunStatus status ⊎ (status ≡ 8)
  pub generates : (g : Generated) → line_of c.words ≡ Some (Generate g) → (m : tree.Source) (d : Design) (commands : List Command)
      → Accepts (generated g.size) (codes "run") m d commands → (OneRose c → ⊥) → IsRunStatus status ⊎ (status ≡ 8)
  pub page_comes : (old new : Files) (text : List ℕ) (g : PageGiven c old new text) → length text ≤ model_limit → IsFitFor g.kind text
      → (Rose c.before.out_faults c.after.out_faults → ⊥) → (status ≡ 0) ⊎ (status ≡ 8)
