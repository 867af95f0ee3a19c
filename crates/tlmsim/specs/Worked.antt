-- What the work below the statuses comes to.
use Rattle.std.specs.Prelude.{◌≡◌, ◌<◌, ◌⊎◌, ⊤, ℕ, Bool, true, false, List, length, Option, Result, Ok, Err}
use Rattle.session.specs.SimIo.Contents.{AfterTold, Grew, Same}
use Rattle.command_line.specs.SimModel.declared.plain.Stop.{Stop}
use Rattle.command_line.specs.SimModel.declared.plain.Stop.TheVariants as stop
use Rattle.session.specs.Course.{IsEnd}
use Rattle.session.specs.Outputs.{IsFront}
use Rattle.session.specs.declared.plans.Outcome.{Outcome}
use Rattle.traffic_file.specs.declared.stops.BusStop.{BusStop}
use Rattle.traffic_file.specs.declared.stops.BusStop.TheVariants as bus_stop
use Rattle.traffic_file.specs.BusText.{bus_of}
use Rattle.command_line.specs.declared.modes.PageKind.{PageKind}
use Rattle.command_line.specs.declared.modes.PageKind.TheVariants as page_kind
use Rattle.run_input.specs.Acceptance.{HasModelFault}
use Rattle.run_input.specs.ResultTexts.declared.refusals.Refusal.TheVariants as refusal
use Rattle.run_input.specs.declared.loading.LoadStop.{LoadStop}
use Rattle.run_input.specs.declared.loading.LoadStop.TheVariants as load_stop
use Rattle.run_input.specs.declared.judging.JudgeStop.{JudgeStop}
use Rattle.run_input.specs.declared.judging.JudgeStop.TheVariants as judge_stop
use Rattle.run_input.specs.declared.judging.ModelStop.{ModelStop}
use Rattle.run_input.specs.declared.judging.ModelStop.TheVariants as model_stop
use Rattle.tlmsim.specs.Call.{Call}
use Rattle.tlmsim.specs.Headline.{Ended, IsCut, PageTold, OneRose, RefusedFor}
use Rattle.tlmsim.specs.Pages.{ReadsModel}
use Rattle.tlmsim.specs.WrittenTexts.{steps_line}
use Rattle.tlmsim.specs.declared.working.WorkStop.{WorkStop}
use Rattle.tlmsim.specs.declared.working.WorkStop.TheVariants as work_stop

-- why nothing was begun where a file was not read, or a text was not accepted
abbrev pub unread : LoadStop → WorkStop
unread (load_stop.Failed file) = work_stop.Refused (refusal.Read file)
unread (load_stop.TooLarge file) = work_stop.Refused (refusal.TooLarge file)
unread load_stop.NoMemory = work_stop.NoMemory

abbrev pub unfit : JudgeStop → WorkStop
unfit (judge_stop.Model f) = work_stop.Refused (refusal.Model f)
unfit (judge_stop.Script f) = work_stop.Refused (refusal.Script f)
unfit (judge_stop.Replay at) = work_stop.Refused (refusal.Replay at)
unfit judge_stop.NoMemory = work_stop.NoMemory

abbrev pub unformed : ModelStop → WorkStop
unformed (model_stop.Fault f) = work_stop.Refused (refusal.Model f)
unformed model_stop.NoMemory = work_stop.NoMemory

abbrev pub unserved : BusStop → WorkStop
unserved (bus_stop.Syntax line) = work_stop.Refused (refusal.Bus (bus_stop.Syntax line))
unserved (bus_stop.Refused kind line name) = work_stop.Refused (refusal.Bus (bus_stop.Refused kind line name))
unserved bus_stop.NoMemory = work_stop.NoMemory

-- why a text has no such page: what is wrong with the model, or with the traffic file; of want of memory nothing is said
abbrev pub HasNoPage : PageKind → List ℕ → WorkStop → Type 0
HasNoPage kind text (work_stop.Refused (refusal.Model f)) = ReadsModel kind × HasModelFault text f
HasNoPage kind text (work_stop.Refused (refusal.Bus f)) = (kind ≡ page_kind.Traffic) × (bus_of text ≡ Err f)
HasNoPage kind text (work_stop.Refused refusal.Usage) = ⊥
HasNoPage kind text (work_stop.Refused (refusal.Read file)) = ⊥
HasNoPage kind text (work_stop.Refused (refusal.Script f)) = ⊥
HasNoPage kind text (work_stop.Refused (refusal.Replay at)) = ⊥
HasNoPage kind text (work_stop.Refused (refusal.TooLarge file)) = ⊥
HasNoPage kind text work_stop.NoMemory = ⊤

-- by how it ended: a run with all its texts, or a page that was told; or one that was cut
abbrev pub EndedSo : Call → List ℕ → ℕ → Stop → Type 0
EndedSo c choices steps stop.Done = Ended c choices steps stop.Done ⊎ PageTold c choices steps
EndedSo c choices steps stop.Stopped = Ended c choices steps stop.Stopped
EndedSo c choices steps stop.Budget = Ended c choices steps stop.Budget
EndedSo c choices steps (stop.Replay place) = Ended c choices steps (stop.Replay place)
EndedSo c choices steps (stop.Fault f) = Ended c choices steps (stop.Fault f)
EndedSo c choices steps stop.WriteFault = IsCut c choices steps stop.WriteFault × OneRose c
EndedSo c choices steps stop.NoMemory = IsCut c choices steps stop.NoMemory

-- whether a run was cut, or ended by itself
abbrev pub IsCutAs : Stop → Bool → Type 0
IsCutAs s true = IsEnd s → ⊥
IsCutAs s false = IsEnd s

-- what became of a run behind which the line of its steps was to be written: it was cut before, or there is the line, or a part of
-- it and the run is cut there
abbrev pub TellsBy : Option (List ℕ) → Option (List ℕ) → List ℕ → Stop → Stop → Type 0
TellsBy old new line due stop.WriteFault = (part : List ℕ) × IsFront part line × (length part < length line) × Grew old new part
TellsBy old new line due stop.NoMemory = (part : List ℕ) × IsFront part line × (length part < length line) × Grew old new part
TellsBy old new line due stop.Done = (stop.Done ≡ due) × Grew old new line
TellsBy old new line due stop.Stopped = (stop.Stopped ≡ due) × Grew old new line
TellsBy old new line due stop.Budget = (stop.Budget ≡ due) × Grew old new line
TellsBy old new line due (stop.Replay place) = (stop.Replay place ≡ due) × Grew old new line
TellsBy old new line due (stop.Fault f) = (stop.Fault f ≡ due) × Grew old new line

pub record TellsSteps (old new : Option (List ℕ)) (run told : Outcome) : Type 0 where
  pub choices : told.choices ≡ run.choices
  pub steps : told.steps ≡ run.steps
  pub cut : (IsEnd run.stop → ⊥) → (told.stop ≡ run.stop) × (new ≡ old)
  pub ended : IsEnd run.stop → TellsBy old new (steps_line run.steps) run.stop told.stop

-- it is cut there by a fault
abbrev pub CutNow : Outcome → Outcome → Type 0
CutNow run told = IsEnd run.stop × (told.stop ≡ stop.WriteFault)

-- `out` and the files are as they were
pub record Unmoved (c : Call) : Type 0 where
  pub out : c.after.out ≡ c.before.out
  pub files : AfterTold c.before.files c.after.files Same

abbrev pub Works : Call → Result Outcome WorkStop → Type 0
Works c (Ok o) = EndedSo c o.choices o.steps o.stop
Works c (Err (work_stop.Refused r)) = RefusedFor c r × Unmoved c
Works c (Err work_stop.NoMemory) = Unmoved c

-- P of the file that is larger than its limit
abbrev pub IfLarge : WorkStop → (List ℕ → Type 0) → Type 0
IfLarge (work_stop.Refused (refusal.TooLarge file)) P = P file
IfLarge (work_stop.Refused refusal.Usage) P = ⊤
IfLarge (work_stop.Refused (refusal.Read file)) P = ⊤
IfLarge (work_stop.Refused (refusal.Model f)) P = ⊤
IfLarge (work_stop.Refused (refusal.Script f)) P = ⊤
IfLarge (work_stop.Refused (refusal.Replay at)) P = ⊤
IfLarge (work_stop.Refused (refusal.Bus f)) P = ⊤
IfLarge work_stop.NoMemory P = ⊤
