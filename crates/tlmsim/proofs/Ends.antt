-- What the work that the words ask for comes to.
use Rattle.std.proofs.Common.{◌≡◌, ◌≤◌, ◌<◌, ◌⊎◌, ⊎_elim, inl, inr, ℕ, true, not, List, [], ◌++◌, length, take, drop, Option, Some, None, Err, refl, sym, ◌∙◌, ap, subst, arith, length-take, take-append-drop}
use Rattle.std.specs.Prelude.{IfSome, codes, option_copied, ⊤}
use Rattle.std.specs.Borrow.{Bor}
use Rattle.std.proofs.lemmas.Bool.{false≢true}
use Rattle.std.proofs.lemmas.Slice.Eq.{bytes_eq-Decides}
use Rattle.session.specs.SimIo.Cause.{Rose}
use Rattle.session.specs.SimIo.Contents.{Files, AfterTold, Grew, IsText, Same, WereTold}
use Rattle.session.specs.SimIo.Writes.{TookOf}
use Rattle.session.proofs.SimIo.Chains.{grew_none, grew_on, rose_on}
use Rattle.session.specs.SimIo.declared.outside.Trouble.{Trouble}
use Rattle.session.specs.SimIo.declared.outside.Trouble.TheVariants as trouble
use Rattle.flat_design.specs.Sound.{SoundDesign}
use Rattle.flat_design.specs.declared.design.Design.{Design}
use Rattle.model_tree.specs.Tree as tree
use Rattle.command_line.specs.SimModel.Configuration.{start}
use Rattle.command_line.specs.SimModel.declared.plain.Command.{Command}
use Rattle.command_line.specs.SimModel.declared.plain.Stop.{Stop}
use Rattle.command_line.specs.SimModel.declared.plain.Stop.TheVariants as stop
use Rattle.command_line.specs.Line.{Simulation, Mode, Simulate, Page, Generate, are_apart, line_of}
use Rattle.command_line.specs.Views.{text_of}
use Rattle.command_line.specs.declared.modes.PageKind.{PageKind}
use Rattle.command_line.specs.declared.modes.PageKind.TheVariants as page_kind
use Rattle.traffic_file.specs.declared.stops.BusStop.{BusStop}
use Rattle.traffic_file.specs.declared.stops.BusStop.TheVariants as bus_stop
use Rattle.traffic_file.specs.BusText.{bus_of}
use Rattle.traffic_file.specs.Stops.{IfRefused, IfSyntax}
use Rattle.run_input.specs.ResultTexts.declared.refusals.Refusal.TheVariants as refusal
use Rattle.command_line.specs.declared.modes.Generated.{Generated}
use Rattle.session.specs.Course.{Ran, IsEnd}
use Rattle.session.specs.Cut.{cut_by}
use Rattle.session.specs.Outputs.{AreApart, AreNames, FilesGot, IsFront, Names, Outer, Texts, Took}
use Rattle.session.specs.declared.plans.Plan.{Plan}
use Rattle.session.specs.declared.plans.Outcome.{Outcome}
use Rattle.tlmsim.specs.Held.{FilesHold, FilesMade, FilesSpared, IsAsBefore, IsSpared}
use Rattle.model_gen.specs.Generated.{generated}
use Rattle.run_input.specs.Limits.{model_limit}
use Rattle.run_input.specs.Loaded.{AreTexts, FileCause, LoadCause}
use Rattle.run_input.specs.Acceptance.{Accepts, HasModelFault, ReadsReplay}
use Rattle.run_input.specs.Refused.{HasTextFault, IfModelFault}
use Rattle.run_input.specs.Together.{Together}
use Rattle.run_input.specs.declared.loading.LoadStop.{LoadStop}
use Rattle.run_input.specs.declared.loading.LoadStop.TheVariants as load_stop
use Rattle.run_input.specs.declared.judging.JudgeStop.{JudgeStop}
use Rattle.run_input.specs.declared.judging.JudgeStop.TheVariants as judge_stop
use Rattle.run_input.specs.declared.judging.ModelStop.{ModelStop}
use Rattle.run_input.specs.declared.judging.ModelStop.TheVariants as model_stop
use Rattle.tlmsim.specs.Requests.{HasText, HasTexts, IsPlan, PlansRun, replay_of}
use Rattle.tlmsim.specs.Call.{Call, IsNamed, NamesOne, OnlyThese, names_if, names_in, no_names}
use Rattle.tlmsim.specs.Headline.{Accepted, Ended, EndedShort, IsCut, HasPage, OneRose, Session}
use Rattle.tlmsim.specs.Orderly.{HadNoEnd, Orderly}
use Rattle.tlmsim.specs.WrittenTexts.{Spared, Holds, TakesAll, TakesShort, steps_line}
use Rattle.tlmsim.specs.Worked.{CutNow, EndedSo, TellsBy, TellsSteps, Unmoved, Works, HasNoPage, unfit, unformed, unread, unserved}
use Rattle.tlmsim.specs.Pages.{ReadsModel}
use Rattle.tlmsim.specs.declared.working.WorkStop.{WorkStop}
use Rattle.tlmsim.specs.declared.working.WorkStop.TheVariants as work_stop
use Rattle.tlmsim.proofs.Courses.{ran_with}

-- ---- texts and files, seen from a later moment

text_later : (old mid new : Option Files) (name text : List ℕ) → WereTold mid new → IsText old mid name text → IsText old new name text
text_later old mid None name text told is = tt
text_later old None (Some new) name text told is = absurd told
text_later None (Some mid) (Some new) name text told is = tt
text_later (Some old) (Some mid) (Some new) name text told is = is

together_later : (old mid new : Option Files) (replay text : Option (List ℕ)) → WereTold mid new → Together replay text (IsText old mid) → Together replay text (IsText old new)
together_later old mid new None None told is = tt
together_later old mid new None (Some text) told is = is
together_later old mid new (Some name) None told is = is
together_later old mid new (Some name) (Some text) told is = text_later old mid new name text told is

pub texts_later : (old mid new : Option Files) (model script : List ℕ) (replay : Option (List ℕ)) (m s : List ℕ) (r : Option (List ℕ)) → WereTold mid new → AreTexts old mid model script replay m s r → AreTexts old new model script replay m s r
texts_later old mid new model script replay m s r told t = record {
  model_is = text_later old mid new model m told t.model_is;
  script_is = text_later old mid new script s told t.script_is;
  replay_is = together_later old mid new replay r told t.replay_is;
  model_within = t.model_within;
  script_within = t.script_within;
  replay_within = t.replay_within;
}

pub were_told : (old new : Option Files) (P : Files → Files → Type 0) → AfterTold old new P → WereTold old new
were_told old None P h = tt
were_told None (Some new) P h = absurd h
were_told (Some old) (Some new) P h = tt

-- names of files that are borrowed
pub copied_text : (t : Option (Bor (List ℕ))) → option_copied t ≡ text_of t
copied_text None = refl
copied_text (Some t) = refl

-- a list there is where a replay file is named
pub named_list : (old new : Option Files) (file text list : Option (List ℕ)) → Together file text (IsText old new) → ReadsReplay text list → Together file list (λ name xs. ⊤)
named_list old new None None None a b = tt
named_list old new None None (Some list) a b = b
named_list old new None (Some text) list a b = absurd a
named_list old new (Some file) None list a b = absurd a
named_list old new (Some file) (Some text) None a b = b
named_list old new (Some file) (Some text) (Some list) a b = tt

-- ---- what is left of the files

only_on : (names : Names) (old mid new : Option Files) (P : Files → Files → Type 0) → AfterTold old mid Same → AfterTold mid new P → ((a b : Files) → P a b → OnlyThese names a b) → AfterTold old new (OnlyThese names)
only_on names old mid None P x y only = tt
only_on names old None (Some new) P x y only = absurd y
only_on names None (Some mid) (Some new) P x y only = absurd x
only_on names (Some old) (Some mid) (Some new) P x y only = λ name a b. only mid new y name a b ∙ x name

pub only_same : (names : Names) (old new : Option Files) → AfterTold old new Same → AfterTold old new (OnlyThese names)
only_same names old None x = tt
only_same names None (Some new) x = absurd x
only_same names (Some old) (Some new) x = λ name a b. x name

pub only_spared : (names : Names) (old mid new : Option Files) → AfterTold old mid Same → AfterTold mid new (FilesSpared names) → AfterTold old new (OnlyThese names)
only_spared names old mid new x y = only_on names old mid new (FilesSpared names) x y (λ a b h. h.others)

pub only_held : (names : Names) (t : Texts) (old new : Option Files) → AfterTold old new (FilesHold names t) → AfterTold old new (OnlyThese names)
only_held names t old None x = tt
only_held names t None (Some new) x = absurd x
only_held names t (Some old) (Some new) x = x.others

pub spared_on : (names : Names) (old mid new : Option Files) → AfterTold old mid Same → AfterTold mid new (FilesSpared names) → AfterTold old new (FilesSpared names)
spared_on names old mid None x y = tt
spared_on names old None (Some new) x y = absurd y
spared_on names None (Some mid) (Some new) x y = absurd x
spared_on names (Some old) (Some mid) (Some new) x y = record { trace = spare names.trace y.trace; choices = spare names.choices y.choices; in_order = ⊎_elim (λ same. inl (left names.choices same)) inr y.in_order; others = λ name a b. y.others name a b ∙ x name }
  where
    left : (one : Option (List ℕ)) → IsAsBefore one mid new → IsAsBefore one old new
    left None h = tt
    left (Some n) h = h ∙ x n

    spare : (one : Option (List ℕ)) → IsSpared one mid new → IsSpared one old new
    spare None h = tt
    spare (Some n) (inl is) = inl (is ∙ x n)
    spare (Some n) (inr empty) = inr empty

pub made_on : (names : Names) (old mid new : Option Files) → AfterTold old mid Same → AfterTold mid new (FilesMade names) → AfterTold old new (FilesMade names)
made_on names old mid None x y = tt
made_on names old None (Some new) x y = absurd y
made_on names None (Some mid) (Some new) x y = absurd x
made_on names (Some old) (Some mid) (Some new) x y = record { trace = y.trace; choices = y.choices; others = λ name a b. y.others name a b ∙ x name }

-- ---- refusals

pub unread_works : (c : Call) (s : Simulation) → line_of c.words ≡ Some (Simulate s) → (st : LoadStop) → LoadCause c.before.files c.after.files (Rose c.before.reads c.after.reads) s.model s.script (replay_of s.rule) st → Unmoved c → Works c (Err (unread st))
unread_works c s line (load_stop.Failed file) cause unmoved = (record { mode = Simulate s; line = line; cause = cause }, unmoved)
unread_works c s line (load_stop.TooLarge file) cause unmoved = (record { mode = Simulate s; line = line; cause = cause }, unmoved)
unread_works c s line load_stop.NoMemory cause unmoved = unmoved

pub unread_page : (c : Call) (kind : PageKind) (name : List ℕ) → line_of c.words ≡ Some (Page kind name) → (st : LoadStop) → FileCause c.before.files c.after.files (Rose c.before.reads c.after.reads) name model_limit st → Unmoved c → Works c (Err (unread st))
unread_page c kind name line (load_stop.Failed file) cause unmoved = (record { mode = Page kind name; line = line; cause = cause }, unmoved)
unread_page c kind name line (load_stop.TooLarge file) cause unmoved = (record { mode = Page kind name; line = line; cause = cause }, unmoved)
unread_page c kind name line load_stop.NoMemory cause unmoved = unmoved

-- a text that has no page
pub no_page : (c : Call) (kind : PageKind) (name : List ℕ) → line_of c.words ≡ Some (Page kind name) → (text : List ℕ) → HasText c name text → (st : WorkStop) → HasNoPage kind text st → Unmoved c → Works c (Err st)
no_page c kind name line text has (work_stop.Refused (refusal.Model f)) (reads, fault) unmoved = (record { mode = Page kind name; line = line; model = text; is_model = (reads, has); fault = fault }, unmoved)
no_page c kind name line text has (work_stop.Refused (refusal.Bus f)) (is, fault) unmoved = (record { name = name; line = subst (λ k. line_of c.words ≡ Some (Page k name)) is line; text = text; is_text = has; fault = fault }, unmoved)
no_page c kind name line text has (work_stop.Refused refusal.Usage) none unmoved = absurd none
no_page c kind name line text has (work_stop.Refused (refusal.Read file)) none unmoved = absurd none
no_page c kind name line text has (work_stop.Refused (refusal.Script f)) none unmoved = absurd none
no_page c kind name line text has (work_stop.Refused (refusal.Replay at)) none unmoved = absurd none
no_page c kind name line text has (work_stop.Refused (refusal.TooLarge file)) none unmoved = absurd none
no_page c kind name line text has work_stop.NoMemory none unmoved = unmoved

-- a model that was not accepted has no page
pub unformed_none : (kind : PageKind) (text : List ℕ) → ReadsModel kind → (st : ModelStop) → IfModelFault st (HasModelFault text) → HasNoPage kind text (unformed st)
unformed_none kind text reads (model_stop.Fault f) fault = (reads, fault)
unformed_none kind text reads model_stop.NoMemory fault = tt

-- nor has a traffic file that is refused
pub unserved_none : (text : List ℕ) (st : BusStop) → IfSyntax st (λ line. bus_of text ≡ Err (bus_stop.Syntax line)) → IfRefused st (λ kind line name. bus_of text ≡ Err (bus_stop.Refused kind line name)) → HasNoPage page_kind.Traffic text (unserved st)
unserved_none text (bus_stop.Syntax line) syntax refused = (refl, syntax)
unserved_none text (bus_stop.Refused kind line name) syntax refused = (refl, refused)
unserved_none text bus_stop.NoMemory syntax refused = tt

-- of a simulation
pub unfit_works : (c : Call) (s : Simulation) → line_of c.words ≡ Some (Simulate s) → (model script : List ℕ) (replay : Option (List ℕ)) → HasTexts c (Simulate s) model script replay → (st : JudgeStop) → HasTextFault model script replay st → Unmoved c → Works c (Err (unfit st))
unfit_works c s line model script replay texts (judge_stop.Model f) fault unmoved = (record { mode = Simulate s; line = line; model = model; is_model = (script, replay, texts); fault = fault }, unmoved)
unfit_works c s line model script replay texts (judge_stop.Script f) fault unmoved =
    (record { mode = Simulate s; line = line; model = model; script = script; replay = replay; texts = texts; m = fault.0; accepted = fault.2; design = fault.1; is_design = fault.3; fault = fault.4 }, unmoved)
unfit_works c s line model script replay texts (judge_stop.Replay at) fault unmoved =
    (record { mode = Simulate s; line = line; model = model; script = script; replay = replay; texts = texts; m = fault.0; design = fault.1; commands = fault.2; accepts = fault.3; fault = fault.4 }, unmoved)
unfit_works c s line model script replay texts judge_stop.NoMemory fault unmoved = unmoved

-- of a generated model
pub unfit_generated : (c : Call) (g : Generated) → line_of c.words ≡ Some (Generate g) → (model : List ℕ) → model ≡ generated g.size → (st : JudgeStop) → HasTextFault model (codes "run") None st → Unmoved c → Works c (Err (unfit st))
unfit_generated c g line model is (judge_stop.Model f) fault unmoved = (record { mode = Generate g; line = line; model = model; is_model = is; fault = fault }, unmoved)
unfit_generated c g line model is (judge_stop.Script f) fault unmoved =
    (record { mode = Generate g; line = line; model = model; script = codes "run"; replay = None; texts = (is, refl, refl); m = fault.0; accepted = fault.2; design = fault.1; is_design = fault.3; fault = fault.4 }, unmoved)
unfit_generated c g line model is (judge_stop.Replay at) fault unmoved =
    (record { mode = Generate g; line = line; model = model; script = codes "run"; replay = None; texts = (is, refl, refl); m = fault.0; design = fault.1; commands = fault.2; accepts = fault.3; fault = fault.4 }, unmoved)
unfit_generated c g line model is judge_stop.NoMemory fault unmoved = unmoved

-- ---- ends

-- the count of the shelf rose where the words name a file for writing
shelf_rose : (c : Call) (mode : Mode) → line_of c.words ≡ Some mode → NamesOne (names_in mode) → Rose c.before.writes c.after.writes → OneRose c
shelf_rose c mode line named rose = inr (subst (λ o. NamesOne (names_if o)) (sym line) named, rose)

-- which count it was: without a file it is that of `out`
rose_named : (names : Names) (trace choices : Option ℕ) → Together names.trace trace (λ name id. ⊤) → Together names.choices choices (λ name id. ⊤) → (A B : Type 0) → A ⊎ B → (trace ≡ None → choices ≡ None → A) → A ⊎ (NamesOne names × B)
rose_named names trace choices first second A B rose alone = by names.trace refl names.choices refl
  where
    none : (name : Option (List ℕ)) (id : Option ℕ) → name ≡ None → Together name id (λ n i. ⊤) → id ≡ None
    none None None is each = refl
    none None (Some id) is each = absurd each
    none (Some name) id is each = cc

    by : (a : Option (List ℕ)) → names.trace ≡ a → (b : Option (List ℕ)) → names.choices ≡ b → A ⊎ (NamesOne names × B)
    by None is None at = inl (alone (none names.trace trace is first) (none names.choices choices at second))
    by (Some a) is b at = ⊎_elim (λ x. inl x) (λ y. inr (inl (subst IsNamed (sym is) tt), y)) rose
    by None is (Some b) at = ⊎_elim (λ x. inl x) (λ y. inr (inr (subst IsNamed (sym at) tt), y)) rose

-- a count that is 0 for ever does not rise
pub never_rose : Rose 0 0 → ⊥
never_rose rose = omega (arith, rose)

-- files that were not created
pub not_begun : (c : Call) (a : Accepted c) → NamesOne (names_in a.mode) → Spared c a.mode → (e : Trouble) → (e ≡ trouble.Failed → Rose c.before.writes c.after.writes) → EndedSo c [] 0 (cut_by e)
not_begun c a named spared e rose = by e rose
  where
    begun : (x : Stop) → (x ≡ stop.WriteFault → Rose c.before.writes c.after.writes) → IsCut c [] 0 x
    begun x r = inr (inr (inr (record { accepted = a; named = named; spared = spared; rose = r; no_run = record { no_choices = refl; no_steps = refl } })))

    by : (x : Trouble) → (x ≡ trouble.Failed → Rose c.before.writes c.after.writes) → EndedSo c [] 0 (cut_by x)
    by trouble.Failed r = (begun stop.WriteFault (λ is. r refl), shelf_rose c a.mode a.line named (r refl))
    by trouble.NoMemory r = begun stop.NoMemory (λ is. absurd (differ is))
      where
        differ : stop.NoMemory ≡ stop.WriteFault → ⊥
        differ is = cc

-- a simulation that was run
pub simulated : (c : Call) (s : Simulation) → line_of c.words ≡ Some (Simulate s) → (model script : List ℕ) (replay : Option (List ℕ)) → HasTexts c (Simulate s) model script replay → (m : tree.Source) (design : Design) (commands : List Command)
    → Accepts model script m design commands → (listed : Option (List ℕ)) → ReadsReplay replay listed → SoundDesign design → Orderly design commands → (plan : Plan) → PlansRun s listed plan
    → (choices : List ℕ) (steps : ℕ) (st : Stop) → Ran (start design commands) plan choices steps st (Holds c (names_in (Simulate s))) → HadNoEnd (start design commands) plan choices steps
    → (st ≡ stop.WriteFault → Rose c.before.out_faults c.after.out_faults ⊎ Rose c.before.writes c.after.writes) → (plan.vcd ≡ None → plan.choices ≡ None → st ≡ stop.WriteFault → Rose c.before.out_faults c.after.out_faults)
    → EndedSo c choices steps st
simulated c s line model script replay texts m design commands accepts listed reads sound orderly plan planned choices steps st ran none rose unfiled =
    by st ran (λ is. ⊎_elim (λ x. inl x) (λ y. shelf_rose c (Simulate s) line y.0 y.1)
    (rose_named (names_in (Simulate s)) plan.vcd plan.choices planned.vcd_is planned.choices_are (Rose c.before.out_faults c.after.out_faults) (Rose c.before.writes c.after.writes) (rose is) (λ untraced unlisted. unfiled untraced unlisted is)))
  where
    accepted : Accepted c
    accepted = record { mode = Simulate s; line = line; model = model; script = script; replay = replay; texts = texts; m = m; design = design; commands = commands; accepts = accepts; listed = listed; reads = reads; sound = sound }

    whole : (x : Stop) → Ran (start design commands) plan choices steps x (Holds c (names_in (Simulate s))) → Ended c choices steps x
    whole x r = record { accepted = accepted; orderly = orderly; plan = plan; planned = planned; ran = r; no_end_before = none }

    part : (x : Stop) → Ran (start design commands) plan choices steps x (Holds c (names_in (Simulate s))) → IsCut c choices steps x
    part x r = inl (record { accepted = accepted; orderly = orderly; plan = plan; planned = planned; ran = r; no_end_before = none })

    by : (x : Stop) → Ran (start design commands) plan choices steps x (Holds c (names_in (Simulate s))) → (x ≡ stop.WriteFault → OneRose c) → EndedSo c choices steps x
    by stop.Done r rose = inl (whole stop.Done r)
    by stop.Stopped r rose = whole stop.Stopped r
    by stop.Budget r rose = whole stop.Budget r
    by (stop.Replay place) r rose = whole (stop.Replay place) r
    by (stop.Fault f) r rose = whole (stop.Fault f) r
    by stop.WriteFault r rose = (part stop.WriteFault r, rose refl)
    by stop.NoMemory r rose = part stop.NoMemory r

-- a page that was told, whole or in part
pub page_so : (c : Call) (page : List ℕ) → HasPage c page → Grew c.before.out c.after.out page → EndedSo c [] 0 stop.Done
page_so c page has out = inr (record { page = page; has = has; out = out; no_run = record { no_choices = refl; no_steps = refl } })

pub page_cut : (c : Call) (page part : List ℕ) → HasPage c page → IsFront part page → length part < length page → Grew c.before.out c.after.out part → (e : Trouble) → (e ≡ trouble.Failed → Rose c.before.out_faults c.after.out_faults) → EndedSo c [] 0 (cut_by e)
page_cut c page part has front short out e rose = by e rose
  where
    cut : (x : Stop) → (x ≡ stop.WriteFault → Rose c.before.out_faults c.after.out_faults) → IsCut c [] 0 x
    cut x r = inr (inr (inl (record { page = page; has = has; part = part; front = front; short = short; out = out; rose = r; no_run = record { no_choices = refl; no_steps = refl } })))

    by : (x : Trouble) → (x ≡ trouble.Failed → Rose c.before.out_faults c.after.out_faults) → EndedSo c [] 0 (cut_by x)
    by trouble.Failed r = (cut stop.WriteFault (λ is. r refl), inl (r refl))
    by trouble.NoMemory r = cut stop.NoMemory (λ is. absurd (differ is))
      where
        differ : stop.NoMemory ≡ stop.WriteFault → ⊥
        differ is = cc

-- a generated model that was run, behind whose report its steps were told
pub generated_so : (c : Call) (g : Generated) → line_of c.words ≡ Some (Generate g) → (model : List ℕ) → model ≡ generated g.size → (m : tree.Source) (design : Design) (commands : List Command)
    → Accepts model (codes "run") m design commands → SoundDesign design → Orderly design commands → (plan : Plan) → IsPlan (Generate g) None plan
    → (run told : Outcome) (mid : Option (List ℕ)) → TellsSteps mid c.after.out run told → Ran (start design commands) plan run.choices run.steps run.stop (λ t. Grew c.before.out mid t.report)
    → HadNoEnd (start design commands) plan run.choices run.steps → AfterTold c.before.files c.after.files Same → (told.stop ≡ stop.WriteFault → Rose c.before.out_faults c.after.out_faults)
    → EndedSo c told.choices told.steps told.stop
generated_so c g line model is m design commands accepts sound orderly plan planned run told mid tells ran none same rose =
    subst (λ n. EndedSo c told.choices n told.stop) (sym tells.steps) (subst (λ cs. EndedSo c cs run.steps told.stop) (sym tells.choices) (by run.stop refl))
  where
    accepted : Accepted c
    accepted = record { mode = Generate g; line = line; model = model; script = codes "run"; replay = None; texts = (is, refl, refl); m = m; design = design; commands = commands; accepts = accepts; listed = None; reads = tt; sound = sound }

    session : (x : Stop) (T : Mode → Texts → Type 0) → Ran (start design commands) plan run.choices run.steps x (T (Generate g)) → Session c run.choices run.steps x T
    session x T r = record { accepted = accepted; orderly = orderly; plan = plan; planned = planned; ran = r; no_end_before = none }

    hold : (t : Texts) → AfterTold c.before.files c.after.files (FilesHold no_names t)
    hold t = held c.before.files c.after.files same
      where
        held : (a b : Option Files) → AfterTold a b Same → AfterTold a b (FilesHold no_names t)
        held a None x = tt
        held None (Some b) x = absurd x
        held (Some a) (Some b) x = record { trace = tt; choices = tt; others = λ name p q. x name }

    more : (line : List ℕ) → Grew mid c.after.out line → (t : Texts) → Grew c.before.out mid t.report → Holds c no_names (record t { report = t.report ++ line })
    more line grew t first = record { report = grew_on c.before.out mid c.after.out t.report line first grew; files = hold (record t { report = t.report ++ line }) }

    due : (x : Stop) → run.stop ≡ x → Ran (start design commands) plan run.choices run.steps x (λ t. Grew c.before.out mid t.report)
    due x is = subst (λ y. Ran (start design commands) plan run.choices run.steps y (λ t. Grew c.before.out mid t.report)) is ran

    whole : (x : Stop) → run.stop ≡ x → Grew mid c.after.out (steps_line run.steps) → Ended c run.choices run.steps x
    whole x is grew = session x (λ mode. TakesAll c mode run.steps) (ran_with (start design commands) plan run.choices run.steps x (λ t. Grew c.before.out mid t.report) (TakesAll c (Generate g) run.steps) (more (steps_line run.steps) grew) (due x is))

    short : (x y : Stop) → run.stop ≡ x → IsEnd x → (part : List ℕ) → IsFront part (steps_line run.steps) → length part < length (steps_line run.steps) → Grew mid c.after.out part
        → (y ≡ stop.WriteFault → Rose c.before.out_faults c.after.out_faults) → EndedShort c run.choices run.steps y
    short x y is end part front less grew r = (
      x,
      end,
      session x (λ mode. TakesShort c mode run.steps)
          (ran_with (start design commands) plan run.choices run.steps x (λ t. Grew c.before.out mid t.report) (TakesShort c (Generate g) run.steps) (λ t first. record { part = part; front = front; short = less; held = more part grew t first }) (due x is)),
      r,
    )

    alone : (x : Stop) → run.stop ≡ x → c.after.out ≡ mid → IsCut c run.choices run.steps x
    alone x is kept = inl (session x (λ mode. Holds c (names_in mode))
        (ran_with (start design commands) plan run.choices run.steps x (λ t. Grew c.before.out mid t.report) (Holds c no_names) (λ t first. record { report = subst (λ o. Grew c.before.out o t.report) (sym kept) first; files = hold t }) (due x is)))

    told_by : (x y : Stop) → run.stop ≡ x → IsEnd x → TellsBy mid c.after.out (steps_line run.steps) x y → (y ≡ stop.WriteFault → Rose c.before.out_faults c.after.out_faults) → EndedSo c run.choices run.steps y
    told_by x stop.WriteFault is end (part, front, less, grew) rose = (inr (inl (short x stop.WriteFault is end part front less grew rose)), inl (rose refl))
    told_by x stop.NoMemory is end (part, front, less, grew) rose = inr (inl (short x stop.NoMemory is end part front less grew rose))
    told_by x stop.Done is end (same, grew) rose = inl (whole stop.Done (is ∙ sym same) grew)
    told_by x stop.Stopped is end (same, grew) rose = whole stop.Stopped (is ∙ sym same) grew
    told_by x stop.Budget is end (same, grew) rose = whole stop.Budget (is ∙ sym same) grew
    told_by x (stop.Replay place) is end (same, grew) rose = whole (stop.Replay place) (is ∙ sym same) grew
    told_by x (stop.Fault f) is end (same, grew) rose = whole (stop.Fault f) (is ∙ sym same) grew

    ended_by : (x : Stop) → run.stop ≡ x → IsEnd x → EndedSo c run.choices run.steps told.stop
    ended_by x is end = told_by x told.stop is end (subst (λ y. TellsBy mid c.after.out (steps_line run.steps) y told.stop) is (tells.ended (subst IsEnd (sym is) end))) rose

    cut_at : (x : Stop) → run.stop ≡ x → (IsEnd x → ⊥) → (told.stop ≡ x) × (c.after.out ≡ mid)
    cut_at x is none = let (same, kept) = tells.cut (λ end. none (subst IsEnd is end)) in (same ∙ is, kept)

    by : (x : Stop) → run.stop ≡ x → EndedSo c run.choices run.steps told.stop
    by stop.Done is = ended_by stop.Done is tt
    by stop.Stopped is = ended_by stop.Stopped is tt
    by stop.Budget is = ended_by stop.Budget is tt
    by (stop.Replay place) is = ended_by (stop.Replay place) is tt
    by (stop.Fault f) is = ended_by (stop.Fault f) is tt
    by stop.WriteFault is = let (same, kept) = cut_at stop.WriteFault is (λ end. end) in subst (EndedSo c run.choices run.steps) (sym same) (alone stop.WriteFault is kept, inl (rose same))
    by stop.NoMemory is = let (same, kept) = cut_at stop.NoMemory is (λ end. end) in subst (EndedSo c run.choices run.steps) (sym same) (alone stop.NoMemory is kept)

-- ---- the line of the steps, and pages

front_taken : (count : ℕ) (text part : List ℕ) → part ≡ take count text → IsFront part text
front_taken count text part is = (drop count text, sym (take-append-drop count text) ∙ ap (λ p. p ++ drop count text) (sym is))

short_taken : (count : ℕ) (text part : List ℕ) → count < length text → part ≡ take count text → length part < length text
short_taken count text part less is = omega (arith, less, ap length is, length-take count text)

-- a page that was cut while it was written
pub page_short : (c : Call) (page : List ℕ) → HasPage c page → (e : Trouble) → TookOf c.before.out c.after.out page (Err e) → (e ≡ trouble.Failed → Rose c.before.out_faults c.after.out_faults) → EndedSo c [] 0 (cut_by e)
page_short c page has e (part, grew, (count, less, is)) rose = page_cut c page part has (front_taken count page part is) (short_taken count page part less is) grew e rose

pub told_cut : (old new : Option (List ℕ)) (run : Outcome) (e : Trouble) → IsEnd run.stop → TookOf old new (steps_line run.steps) (Err e) → TellsSteps old new run (record { stop = cut_by e; choices = run.choices; steps = run.steps })
told_cut old new run e end (part, grew, (count, less, is)) = record { choices = refl; steps = refl; cut = λ none. absurd (none end); ended = λ h. by e }
  where
    by : (x : Trouble) → TellsBy old new (steps_line run.steps) run.stop (cut_by x)
    by trouble.Failed = (part, front_taken count (steps_line run.steps) part is, short_taken count (steps_line run.steps) part less is, grew)
    by trouble.NoMemory = (part, front_taken count (steps_line run.steps) part is, short_taken count (steps_line run.steps) part less is, grew)

-- a line for which there was no memory
pub told_none : (sink : Option (List ℕ)) (run : Outcome) → IsEnd run.stop → TellsSteps sink sink run (record { stop = stop.NoMemory; choices = run.choices; steps = run.steps })
told_none sink run end = record { choices = refl; steps = refl; cut = λ none. absurd (none end); ended = λ h. ([], (steps_line run.steps, refl), omega arith, grew_none sink) }

pub told_whole : (old new : Option (List ℕ)) (run : Outcome) → IsEnd run.stop → Grew old new (steps_line run.steps) → TellsSteps old new run run
told_whole old new run end grew = record { choices = refl; steps = refl; cut = λ none. absurd (none end); ended = λ h. by run.stop end }
  where
    by : (x : Stop) → IsEnd x → TellsBy old new (steps_line run.steps) x x
    by stop.Done h = (refl, grew)
    by stop.Stopped h = (refl, grew)
    by stop.Budget h = (refl, grew)
    by (stop.Replay place) h = (refl, grew)
    by (stop.Fault f) h = (refl, grew)
    by stop.WriteFault h = absurd h
    by stop.NoMemory h = absurd h

-- ---- files of a generated run, and whose fault it was

no_ids : {S : Type 0} (stands : S → ℕ → List ℕ → Type 0) (shelf : S) → AreNames stands shelf None None no_names
no_ids stands shelf = record { trace_is = tt; choices_is = tt; apart = tt }

-- a session without files leaves each as before
pub files_stay : {S : Type 0} (stands : S → ℕ → List ℕ → Type 0) (shelf : S) (old new : Outer) (t : Texts) → Took (AreNames stands shelf None None) old new t → AfterTold old.files new.files Same
files_stay stands shelf old new t took = stay old.files new.files (took.files no_names (no_ids stands shelf))
  where
    stay : (a b : Option Files) → AfterTold a b (FilesGot no_names t) → AfterTold a b Same
    stay a None x = tt
    stay None (Some b) x = absurd x
    stay (Some a) (Some b) x = λ name. x.others name tt tt

end_or_cut : (s : Stop) → IsEnd s ⊎ (IsEnd s → ⊥)
end_or_cut stop.Done = inl tt
end_or_cut stop.Stopped = inl tt
end_or_cut stop.Budget = inl tt
end_or_cut (stop.Replay place) = inl tt
end_or_cut (stop.Fault f) = inl tt
end_or_cut stop.WriteFault = inr (λ end. end)
end_or_cut stop.NoMemory = inr (λ end. end)

pub steps_rose : (old new : Option (List ℕ)) (run told : Outcome) (f0 f1 f2 : ℕ) → TellsSteps old new run told → f0 ≤ f1 → f1 ≤ f2 → (run.stop ≡ stop.WriteFault → Rose f0 f1) → (CutNow run told → Rose f1 f2) → told.stop ≡ stop.WriteFault → Rose f0 f2
steps_rose old new run told f0 f1 f2 tells first second ran cut fault =
    ⊎_elim (λ end. rose_on f0 f1 f2 f2 first (cut (end, fault)) (omega arith))
    (λ none. rose_on f0 f0 f1 f2 (omega arith) (ran (sym (tells.cut none).0 ∙ fault)) second) (end_or_cut run.stop)

-- ---- names that are apart

pub apart_of : (a b : Option (List ℕ)) → are_apart a b ≡ true → AreApart a b
apart_of None None e = tt
apart_of None (Some b) e = tt
apart_of (Some a) None e = tt
apart_of (Some a) (Some b) e = λ same. false≢true (sym (ap not ((bytes_eq-Decides a b).1 (sym same))) ∙ e)

-- names of ids that are the same
pub named_by : {S : Type 0} (stands : S → ℕ → List ℕ → Type 0) (shelf : S) (a b a' b' : Option ℕ) (names : Names) (told : Option Files) → a' ≡ a → b' ≡ b → IfSome told (λ files. AreNames stands shelf a b names) → IfSome told (λ files. AreNames stands shelf a' b' names)
named_by stands shelf a b a' b' names told is at named =
    subst (λ x. IfSome told (λ files. AreNames stands shelf x b' names)) (sym is) (subst (λ y. IfSome told (λ files. AreNames stands shelf a y names)) (sym at) named)
