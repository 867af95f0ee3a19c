-- Which status comes of what a call is given, by what came of it.
use Rattle.std.proofs.Common.{◌≡◌, ◌<◌, ◌≤◌, ◌⊎◌, inl, inr, ⊎_elim, ℕ, List, length, codes, Option, Some, None, Err, subst, sym, refl}
use Rattle.session.specs.SimIo.Contents.{Files}
use Rattle.session.specs.SimIo.Cause.{Rose}
use Rattle.model_tree.specs.Tree as tree
use Rattle.traffic_file.specs.declared.stops.BusStop.{BusStop}
use Rattle.traffic_file.specs.BusText.{bus_of}
use Rattle.flat_design.specs.declared.design.Design.{Design}
use Rattle.command_line.specs.SimModel.declared.plain.Command.{Command}
use Rattle.command_line.specs.SimModel.declared.plain.Stop.{Stop}
use Rattle.command_line.specs.SimModel.declared.plain.Stop.TheVariants as stop
use Rattle.command_line.specs.Line.{Mode, Simulate, Page, Generate, line_of}
use Rattle.command_line.specs.declared.modes.Generated.{Generated}
use Rattle.command_line.specs.declared.modes.PageKind.{PageKind}
use Rattle.command_line.specs.declared.modes.PageKind.TheVariants as page_kind
use Rattle.model_gen.specs.Generated.{generated}
use Rattle.run_input.specs.ResultTexts.declared.refusals.ModelFault.{ModelFault}
use Rattle.run_input.specs.ResultTexts.declared.refusals.ScriptFault.{ScriptFault}
use Rattle.run_input.specs.ResultTexts.declared.refusals.Refusal.{Refusal}
use Rattle.run_input.specs.ResultTexts.declared.refusals.Refusal.TheVariants as refusal
use Rattle.run_input.specs.Limits.{model_limit}
use Rattle.run_input.specs.Acceptance.{IsBrokenModel, AcceptsModel, IsBrokenScript, Accepts, ReadsReplay, HasReplayFault, IsBrokenReplay}
use Rattle.run_input.proofs.Refusals.{model_broken_by, script_broken_by, replay_broken_by}
use Rattle.run_input.proofs.Apart.{OneTree, not_broken, not_both, not_listed}
use Rattle.tlmsim.specs.Call.{Call}
use Rattle.tlmsim.specs.Requests.{HasTexts, IsModel}
use Rattle.tlmsim.specs.Headline.{UnreadIn, LargeIn, ReadFailed, TooLarge, ModelRefused, ScriptRefused, ReplayRefused, BusRefused, RefusedFor, Accepted, HasPage, PageShort, IsCut, OneRose, Given, ModelGiven, PageGiven, Within, PastLimit, Gives, IsRunStatus, stop_status}
use Rattle.tlmsim.specs.Pages.{IsPageOf, IsFitFor, IsUnfitFor, ReadsModel}
use Rattle.tlmsim.specs.Telling.{refusal_status}
use Rattle.tlmsim.specs.Worked.{EndedSo}
use Rattle.tlmsim.proofs.Apart.{Found, no_line, one_mode, of_given, not_long, found_model, not_read, not_large, long_model, long_found, long_read, paged_found, paged_model, paged_text, paged_read, paged_large, long_paged}

-- each cause and its status
pub record Comes (c : Call) (status : ℕ) : Type 0 where
  pub usage : line_of c.words ≡ None → Gives c status 1
  pub large : (old new : Files) (model script : List ℕ) (replay : Option (List ℕ)) → Given c old new model script replay → PastLimit model script replay → Gives c status 10
  pub long : (old new : Files) (model : List ℕ) → ModelGiven c old new model → model_limit < length model → Gives c status 10
  pub model : (old new : Files) (model script : List ℕ) (replay : Option (List ℕ)) → Given c old new model script replay → Within model script replay → IsBrokenModel model → Gives c status 3
  pub script : (old new : Files) (model script : List ℕ) (replay : Option (List ℕ)) → Given c old new model script replay → Within model script replay
      → (m : tree.Source) → AcceptsModel model m → IsBrokenScript m script → Gives c status 4
  pub replay : (old new : Files) (model script : List ℕ) (replay : Option (List ℕ)) → Given c old new model script replay → Within model script replay
      → (m : tree.Source) (d : Design) (commands : List Command) → Accepts model script m d commands → IsBrokenReplay replay → Gives c status 4
  pub page_refused : (old new : Files) (text : List ℕ) (g : PageGiven c old new text) → length text ≤ model_limit → IsUnfitFor g.kind text → Gives c status 3
  pub complete : (old new : Files) (model script : List ℕ) (replay : Option (List ℕ)) → Given c old new model script replay → Within model script replay
      → (m : tree.Source) (d : Design) (commands : List Command) (listed : Option (List ℕ)) → Accepts model script m d commands → ReadsReplay replay listed
      → (OneRose c → ⊥) → IsRunStatus status ⊎ (status ≡ 8)
  pub generates : (g : Generated) → line_of c.words ≡ Some (Generate g) → (m : tree.Source) (d : Design) (commands : List Command)
      → Accepts (generated g.size) (codes "run") m d commands → (OneRose c → ⊥) → IsRunStatus status ⊎ (status ≡ 8)
  pub tells : (old new : Files) (text : List ℕ) (g : PageGiven c old new text) → length text ≤ model_limit → IsFitFor g.kind text
      → (Rose c.before.out_faults c.after.out_faults → ⊥) → (status ≡ 0) ⊎ (status ≡ 8)

-- ---- a run

found_run : (c : Call) (a : Accepted c) → Found c a.model a.script a.replay
found_run c a = record { mode = a.mode; line = a.line; texts = a.texts }

-- the texts that were given are accepted where those that were read are
run_accepts : (c : Call) (old new : Files) (model script : List ℕ) (replay : Option (List ℕ)) → Given c old new model script replay → (a : Accepted c) → Accepts model script a.m a.design a.commands
run_accepts c old new model script replay g a =
    of_given c old new model script replay a.model a.script a.replay (λ m s r. Accepts m s a.m a.design a.commands) g (found_run c a) a.accepts

run_reads : (c : Call) (old new : Files) (model script : List ℕ) (replay : Option (List ℕ)) → Given c old new model script replay → (a : Accepted c) → ReadsReplay replay a.listed
run_reads c old new model script replay g a =
    of_given c old new model script replay a.model a.script a.replay (λ m s r. ReadsReplay r a.listed) g (found_run c a) a.reads

-- where the texts of a run are accepted
pub of_run : OneTree → (c : Call) (status : ℕ) → Accepted c → ((OneRose c → ⊥) → IsRunStatus status ⊎ (status ≡ 8)) → Comes c status
of_run one c status a due = record {
  usage = λ none. absurd (no_line c.words a.mode a.line none);
  large = λ old new model script replay g past. absurd (not_long c old new model script replay a.model a.script a.replay g past (found_run c a));
  long = λ old new model g past. absurd (long_found c old new model a.model a.script a.replay g past (found_run c a));
  model = λ old new model script replay g within broken. absurd (not_broken one model a.m (run_accepts c old new model script replay g a).accepted broken);
  script = λ old new model script replay g within m accepted broken. absurd (not_both one model script a.m m a.design a.commands (run_accepts c old new model script replay g a) accepted broken);
  replay = λ old new model script replay g within m d commands accepts broken. absurd (not_listed replay a.listed (run_reads c old new model script replay g a) broken);
  page_refused = λ old new model g within unfit. absurd (paged_found c old new model a.model a.script a.replay g (found_run c a));
  complete = λ old new model script replay g within m d commands listed accepts reads no_fault. due no_fault;
  generates = λ g line m d commands accepts no_fault. due no_fault;
  tells = λ old new model g within fit no_fault. absurd (paged_found c old new model a.model a.script a.replay g (found_run c a));
}

-- ---- the run of a generated model

-- what the words ask for
other_mode : (words : List (List ℕ)) (g : Generated) (kind : PageKind) (name : List ℕ) → line_of words ≡ Some (Generate g) → line_of words ≡ Some (Page kind name) → ⊥
other_mode words g kind name p q = cc

mode_is : (words : List (List ℕ)) (mode : Mode) (g : Generated) → line_of words ≡ Some mode → line_of words ≡ Some (Generate g) → mode ≡ Generate g
mode_is words mode g p q = cc

-- no file is read
unread_in : (c : Call) (file : List ℕ) → ReadFailed c file → (g : Generated) → line_of c.words ≡ Some (Generate g) → ⊥
unread_in c file r g line = subst (λ mode. UnreadIn c mode file) (mode_is c.words r.mode g r.line line) r.cause

large_in : (c : Call) (file : List ℕ) → TooLarge c file → (g : Generated) → line_of c.words ≡ Some (Generate g) → ⊥
large_in c file l g line = subst (λ mode. LargeIn c mode file) (mode_is c.words l.mode g l.line line) l.cause

-- its text is the generated one
generated_broken : (c : Call) (f : ModelFault) → ModelRefused c f → (g : Generated) → line_of c.words ≡ Some (Generate g) → IsBrokenModel (generated g.size)
generated_broken c f r g line = subst IsBrokenModel (subst (λ mode. IsModel c mode r.model) (mode_is c.words r.mode g r.line line) r.is_model) (model_broken_by r.model f r.fault)

-- and its script is run
generated_texts : (c : Call) (mode : Mode) (model script : List ℕ) (replay : Option (List ℕ)) → line_of c.words ≡ Some mode → HasTexts c mode model script replay
    → (g : Generated) → line_of c.words ≡ Some (Generate g) → (model ≡ generated g.size) × (script ≡ codes "run") × (replay ≡ None)
generated_texts c mode model script replay at texts g line = subst (λ one. HasTexts c one model script replay) (mode_is c.words mode g at line) texts

generated_accepts : (c : Call) (f : ScriptFault) (r : ScriptRefused c f) (g : Generated) → line_of c.words ≡ Some (Generate g) → AcceptsModel (generated g.size) r.m
generated_accepts c f r g line = subst (λ model. AcceptsModel model r.m) (generated_texts c r.mode r.model r.script r.replay r.line r.texts g line).0 r.accepted

generated_breaks : (c : Call) (f : ScriptFault) (r : ScriptRefused c f) (g : Generated) → line_of c.words ≡ Some (Generate g) → IsBrokenScript r.m (codes "run")
generated_breaks c f r g line =
    subst (λ script. IsBrokenScript r.m script) (generated_texts c r.mode r.model r.script r.replay r.line r.texts g line).1
    (record { design = r.design; is_design = r.is_design; breaks = script_broken_by r.design r.script f r.fault })

no_replay : (c : Call) (at : ℕ) (r : ReplayRefused c at) (g : Generated) → line_of c.words ≡ Some (Generate g) → ⊥
no_replay c at r g line = subst (λ replay. HasReplayFault replay at) (generated_texts c r.mode r.model r.script r.replay r.line r.texts g line).2 r.fault

-- ---- a page

-- the texts of a run are not given where a page is told
not_given : (c : Call) (old new : Files) (model script : List ℕ) (replay : Option (List ℕ)) (page : List ℕ) → Given c old new model script replay → HasPage c page → ⊥
not_given c old new model script replay page g l = one_mode c.words g.s l.kind l.name g.line l.line

-- a text that has a page is fit for it
fit_of : (kind : PageKind) (text page : List ℕ) → IsPageOf kind text page → IsFitFor kind text
fit_of page_kind.Layout text page is = (is.m, is.accepted)
fit_of page_kind.Verdict text page is = (is.m, is.accepted)
fit_of page_kind.Traffic text page is = (is.bus, is.read)

-- no text is fit for a page and refused
not_fit : OneTree → (kind : PageKind) (text : List ℕ) → IsFitFor kind text → IsUnfitFor kind text → ⊥
not_fit one page_kind.Layout text fit unfit = not_broken one text fit.0 fit.1 unfit
not_fit one page_kind.Verdict text fit unfit = not_broken one text fit.0 fit.1 unfit
not_fit one page_kind.Traffic text (bus, fit) (stop, unfit) = cc

-- the text that was given is the one that has the page
page_unfit : OneTree → (c : Call) (old new : Files) (text page : List ℕ) (l : HasPage c page) → (g : PageGiven c old new text) → IsUnfitFor g.kind text → ⊥
page_unfit one c old new text page l g unfit =
    let same = paged_text c old new text l.kind l.name l.text g l.line l.is_text in
    not_fit one l.kind l.text (fit_of l.kind l.text page l.is_page) (subst (λ k. IsUnfitFor k l.text) (sym same.0) (subst (IsUnfitFor g.kind) (sym same.1) unfit))

-- where a page of a file is asked for, and there is one
pub of_page : OneTree → (c : Call) (status : ℕ) (page : List ℕ) → HasPage c page → ((Rose c.before.out_faults c.after.out_faults → ⊥) → (status ≡ 0) ⊎ (status ≡ 8)) → Comes c status
of_page one c status page l due = record {
  usage = λ none. absurd (no_line c.words (Page l.kind l.name) l.line none);
  large = λ old new model script replay g past. absurd (not_given c old new model script replay page g l);
  long = λ old new model g past. absurd (long_paged c old new model l.kind l.name l.text g past l.line l.is_text);
  model = λ old new model script replay g within broken. absurd (not_given c old new model script replay page g l);
  script = λ old new model script replay g within m accepted broken. absurd (not_given c old new model script replay page g l);
  replay = λ old new model script replay g within m d commands accepts broken. absurd (not_given c old new model script replay page g l);
  page_refused = λ old new model g within unfit. absurd (page_unfit one c old new model page l g unfit);
  complete = λ old new model script replay g within m d commands listed accepts reads no_fault. absurd (not_given c old new model script replay page g l);
  generates = λ g line m d commands accepts no_fault. absurd (other_mode c.words g l.kind l.name line l.line);
  tells = λ old new model g within fit no_fault. due no_fault;
}

-- ---- by how it ended

of_cut : OneTree → (c : Call) (choices : List ℕ) (steps : ℕ) (s : Stop) (status : ℕ) → IsCut c choices steps s → ((OneRose c → ⊥) → IsRunStatus status ⊎ (status ≡ 8))
    → (PageShort c choices steps s → (Rose c.before.out_faults c.after.out_faults → ⊥) → (status ≡ 0) ⊎ (status ≡ 8)) → Comes c status
of_cut one c choices steps s status cut run page =
    ⊎_elim
    (λ x. of_run one c status x.accepted run)
    (λ other. ⊎_elim
    (λ short. of_run one c status short.2.accepted run)
    (λ none. ⊎_elim (λ p. of_page one c status p.page p.has (page p)) (λ n. of_run one c status n.accepted run) none)
    other)
    cut

pub of_end : OneTree → (c : Call) (choices : List ℕ) (steps : ℕ) (s : Stop) → EndedSo c choices steps s → Comes c (stop_status s)
of_end one c choices steps stop.Done h =
    ⊎_elim (λ x. of_run one c 0 x.accepted (λ no_fault. inl (inl refl))) (λ l. of_page one c 0 l.page l.has (λ no_fault. inl refl)) h
of_end one c choices steps stop.Stopped h = of_run one c 0 h.accepted (λ no_fault. inl (inl refl))
of_end one c choices steps (stop.Fault f) h = of_run one c 5 h.accepted (λ no_fault. inl (inr (inl refl)))
of_end one c choices steps stop.Budget h = of_run one c 6 h.accepted (λ no_fault. inl (inr (inr (inl refl))))
of_end one c choices steps (stop.Replay place) h = of_run one c 9 h.accepted (λ no_fault. inl (inr (inr (inr refl))))
of_end one c choices steps stop.WriteFault h =
    of_cut one c choices steps stop.WriteFault 7 h.0 (λ no_fault. absurd (no_fault h.1)) (λ p no_fault. absurd (no_fault (p.rose refl)))
of_end one c choices steps stop.NoMemory h = of_cut one c choices steps stop.NoMemory 8 h (λ no_fault. inr refl) (λ p no_fault. inr refl)

-- ---- refusals

of_usage : (c : Call) (status : ℕ) → line_of c.words ≡ None → Gives c status 1 → Comes c status
of_usage c status none due = record {
  usage = λ h. due;
  large = λ old new model script replay g past. absurd (no_line c.words (Simulate g.s) g.line none);
  long = λ old new model g past. absurd (no_line c.words g.mode g.line none);
  model = λ old new model script replay g within broken. absurd (no_line c.words (Simulate g.s) g.line none);
  script = λ old new model script replay g within m accepted broken. absurd (no_line c.words (Simulate g.s) g.line none);
  replay = λ old new model script replay g within m d commands accepts broken. absurd (no_line c.words (Simulate g.s) g.line none);
  page_refused = λ old new model g within unfit. absurd (no_line c.words (Page g.kind g.name) g.line none);
  complete = λ old new model script replay g within m d commands listed accepts reads no_fault. absurd (no_line c.words (Simulate g.s) g.line none);
  generates = λ g line m d commands accepts no_fault. absurd (no_line c.words (Generate g) line none);
  tells = λ old new model g within fit no_fault. absurd (no_line c.words (Page g.kind g.name) g.line none);
}

of_read : (c : Call) (status : ℕ) (file : List ℕ) → ReadFailed c file → Comes c status
of_read c status file r = record {
  usage = λ none. absurd (no_line c.words r.mode r.line none);
  large = λ old new model script replay g past. absurd (not_read c old new model script replay file g r);
  long = λ old new model g past. absurd (long_read c old new model file g past r);
  model = λ old new model script replay g within broken. absurd (not_read c old new model script replay file g r);
  script = λ old new model script replay g within m accepted broken. absurd (not_read c old new model script replay file g r);
  replay = λ old new model script replay g within m d commands accepts broken. absurd (not_read c old new model script replay file g r);
  page_refused = λ old new model g within unfit. absurd (paged_read c old new model file g r);
  complete = λ old new model script replay g within m d commands listed accepts reads no_fault. absurd (not_read c old new model script replay file g r);
  generates = λ g line m d commands accepts no_fault. absurd (unread_in c file r g line);
  tells = λ old new model g within fit no_fault. absurd (paged_read c old new model file g r);
}

of_large : (c : Call) (status : ℕ) (file : List ℕ) → TooLarge c file → Gives c status 10 → Comes c status
of_large c status file l due = record {
  usage = λ none. absurd (no_line c.words l.mode l.line none);
  large = λ old new model script replay g past. due;
  long = λ old new model g past. due;
  model = λ old new model script replay g within broken. absurd (not_large c old new model script replay file g within l);
  script = λ old new model script replay g within m accepted broken. absurd (not_large c old new model script replay file g within l);
  replay = λ old new model script replay g within m d commands accepts broken. absurd (not_large c old new model script replay file g within l);
  page_refused = λ old new model g within unfit. absurd (paged_large c old new model file g within l);
  complete = λ old new model script replay g within m d commands listed accepts reads no_fault. absurd (not_large c old new model script replay file g within l);
  generates = λ g line m d commands accepts no_fault. absurd (large_in c file l g line);
  tells = λ old new model g within fit no_fault. absurd (paged_large c old new model file g within l);
}

-- the model that was refused is the one that was given, and is broken
model_long : (c : Call) (old new : Files) (model script : List ℕ) (replay : Option (List ℕ)) (f : ModelFault) → Given c old new model script replay → PastLimit model script replay → ModelRefused c f → ⊥
model_long c old new model script replay f g past r =
    let found = found_model c old new model script replay r.mode r.model g r.line r.is_model in
    not_long c old new model script replay r.model found.0 found.1 g past found.2

model_broken : (c : Call) (old new : Files) (model script : List ℕ) (replay : Option (List ℕ)) (f : ModelFault) → Given c old new model script replay → ModelRefused c f → IsBrokenModel model
model_broken c old new model script replay f g r =
    let found = found_model c old new model script replay r.mode r.model g r.line r.is_model in
    of_given c old new model script replay r.model found.0 found.1 (λ m s t. IsBrokenModel m) g found.2 (model_broken_by r.model f r.fault)

-- a page of a model that is broken is refused
unfit_model : (kind : PageKind) (text : List ℕ) → ReadsModel kind → IsBrokenModel text → IsUnfitFor kind text
unfit_model page_kind.Layout text reads broken = broken
unfit_model page_kind.Verdict text reads broken = broken
unfit_model page_kind.Traffic text reads broken = absurd reads

paged_broken : (c : Call) (old new : Files) (model : List ℕ) (f : ModelFault) → (g : PageGiven c old new model) → ModelRefused c f → IsUnfitFor g.kind model
paged_broken c old new model f g r =
    let found = paged_model c old new model r.mode r.model g r.line r.is_model in
    unfit_model g.kind model found.0 (subst IsBrokenModel found.1 (model_broken_by r.model f r.fault))

of_model : OneTree → (c : Call) (status : ℕ) (f : ModelFault) → ModelRefused c f → Gives c status 3 → Comes c status
of_model one c status f r due = record {
  usage = λ none. absurd (no_line c.words r.mode r.line none);
  large = λ old new model script replay g past. absurd (model_long c old new model script replay f g past r);
  long = λ old new model g past. absurd (long_model c old new model r.mode r.model g past r.line r.is_model);
  model = λ old new model script replay g within broken. due;
  script = λ old new model script replay g within m accepted broken. absurd (not_broken one model m accepted (model_broken c old new model script replay f g r));
  replay = λ old new model script replay g within m d commands accepts broken. absurd (not_broken one model m accepts.accepted (model_broken c old new model script replay f g r));
  page_refused = λ old new model g within unfit. due;
  complete = λ old new model script replay g within m d commands listed accepts reads no_fault. absurd (not_broken one model m accepts.accepted (model_broken c old new model script replay f g r));
  generates = λ g line m d commands accepts no_fault. absurd (not_broken one (generated g.size) m accepts.accepted (generated_broken c f r g line));
  tells = λ old new model g within fit no_fault. absurd (not_fit one g.kind model fit (paged_broken c old new model f g r));
}

-- the traffic file that was refused is the one that was given
paged_bus : (c : Call) (old new : Files) (text : List ℕ) (f : BusStop) → (g : PageGiven c old new text) → BusRefused c f → IsUnfitFor g.kind text
paged_bus c old new text f g r =
    let same = paged_text c old new text page_kind.Traffic r.name r.text g r.line r.is_text in
    subst (λ k. IsUnfitFor k text) same.0 (f, subst (λ t. bus_of t ≡ Err f) same.1 r.fault)

no_bus : (c : Call) (old new : Files) (model script : List ℕ) (replay : Option (List ℕ)) (f : BusStop) → Given c old new model script replay → BusRefused c f → ⊥
no_bus c old new model script replay f g r = one_mode c.words g.s page_kind.Traffic r.name g.line r.line

of_bus : OneTree → (c : Call) (status : ℕ) (f : BusStop) → BusRefused c f → Gives c status 3 → Comes c status
of_bus one c status f r due = record {
  usage = λ none. absurd (no_line c.words (Page page_kind.Traffic r.name) r.line none);
  large = λ old new model script replay g past. absurd (no_bus c old new model script replay f g r);
  long = λ old new model g past. absurd (long_paged c old new model page_kind.Traffic r.name r.text g past r.line r.is_text);
  model = λ old new model script replay g within broken. absurd (no_bus c old new model script replay f g r);
  script = λ old new model script replay g within m accepted broken. absurd (no_bus c old new model script replay f g r);
  replay = λ old new model script replay g within m d commands accepts broken. absurd (no_bus c old new model script replay f g r);
  page_refused = λ old new model g within unfit. due;
  complete = λ old new model script replay g within m d commands listed accepts reads no_fault. absurd (no_bus c old new model script replay f g r);
  generates = λ g line m d commands accepts no_fault. absurd (other_mode c.words g page_kind.Traffic r.name line r.line);
  tells = λ old new model g within fit no_fault. absurd (not_fit one g.kind model fit (paged_bus c old new model f g r));
}

-- the script that was refused is the one that was given, beside a model that is accepted
found_script : (c : Call) (f : ScriptFault) (r : ScriptRefused c f) → Found c r.model r.script r.replay
found_script c f r = record { mode = r.mode; line = r.line; texts = r.texts }

script_accepts : (c : Call) (old new : Files) (model script : List ℕ) (replay : Option (List ℕ)) (f : ScriptFault) → Given c old new model script replay → (r : ScriptRefused c f) → AcceptsModel model r.m
script_accepts c old new model script replay f g r =
    of_given c old new model script replay r.model r.script r.replay (λ m s t. AcceptsModel m r.m) g (found_script c f r) r.accepted

script_broken : (c : Call) (old new : Files) (model script : List ℕ) (replay : Option (List ℕ)) (f : ScriptFault) → Given c old new model script replay → (r : ScriptRefused c f) → IsBrokenScript r.m script
script_broken c old new model script replay f g r =
    of_given c old new model script replay r.model r.script r.replay (λ m s t. IsBrokenScript r.m s) g (found_script c f r)
    (record { design = r.design; is_design = r.is_design; breaks = script_broken_by r.design r.script f r.fault })

of_script : OneTree → (c : Call) (status : ℕ) (f : ScriptFault) → ScriptRefused c f → Gives c status 4 → Comes c status
of_script one c status f r due = record {
  usage = λ none. absurd (no_line c.words r.mode r.line none);
  large = λ old new model script replay g past. absurd (not_long c old new model script replay r.model r.script r.replay g past (found_script c f r));
  long = λ old new model g past. absurd (long_found c old new model r.model r.script r.replay g past (found_script c f r));
  model = λ old new model script replay g within broken. absurd (not_broken one model r.m (script_accepts c old new model script replay f g r) broken);
  script = λ old new model script replay g within m accepted broken. due;
  replay = λ old new model script replay g within m d commands accepts broken. due;
  page_refused = λ old new model g within unfit. absurd (paged_found c old new model r.model r.script r.replay g (found_script c f r));
  complete = λ old new model script replay g within m d commands listed accepts reads no_fault.
      absurd (not_both one model script m r.m d commands accepts (script_accepts c old new model script replay f g r) (script_broken c old new model script replay f g r));
  generates = λ g line m d commands accepts no_fault.
      absurd (not_both one (generated g.size) (codes "run") m r.m d commands accepts (generated_accepts c f r g line) (generated_breaks c f r g line));
  tells = λ old new model g within fit no_fault. absurd (paged_found c old new model r.model r.script r.replay g (found_script c f r));
}

-- the replay text that was refused is the one that was given, beside a model and a script that are accepted
found_replay : (c : Call) (at : ℕ) (r : ReplayRefused c at) → Found c r.model r.script r.replay
found_replay c at r = record { mode = r.mode; line = r.line; texts = r.texts }

replay_accepts : (c : Call) (old new : Files) (model script : List ℕ) (replay : Option (List ℕ)) (at : ℕ) → Given c old new model script replay → (r : ReplayRefused c at) → Accepts model script r.m r.design r.commands
replay_accepts c old new model script replay at g r =
    of_given c old new model script replay r.model r.script r.replay (λ m s t. Accepts m s r.m r.design r.commands) g (found_replay c at r) r.accepts

replay_broken : (c : Call) (old new : Files) (model script : List ℕ) (replay : Option (List ℕ)) (at : ℕ) → Given c old new model script replay → ReplayRefused c at → IsBrokenReplay replay
replay_broken c old new model script replay at g r =
    of_given c old new model script replay r.model r.script r.replay (λ m s t. IsBrokenReplay t) g (found_replay c at r) (replay_broken_by r.replay at r.fault)

of_replay : OneTree → (c : Call) (status : ℕ) (at : ℕ) → ReplayRefused c at → Gives c status 4 → Comes c status
of_replay one c status at r due = record {
  usage = λ none. absurd (no_line c.words r.mode r.line none);
  large = λ old new model script replay g past. absurd (not_long c old new model script replay r.model r.script r.replay g past (found_replay c at r));
  long = λ old new model g past. absurd (long_found c old new model r.model r.script r.replay g past (found_replay c at r));
  model = λ old new model script replay g within broken. absurd (not_broken one model r.m (replay_accepts c old new model script replay at g r).accepted broken);
  script = λ old new model script replay g within m accepted broken. due;
  replay = λ old new model script replay g within m d commands accepts broken. due;
  page_refused = λ old new model g within unfit. absurd (paged_found c old new model r.model r.script r.replay g (found_replay c at r));
  complete = λ old new model script replay g within m d commands listed accepts reads no_fault. absurd (not_listed replay listed reads (replay_broken c old new model script replay at g r));
  generates = λ g line m d commands accepts no_fault. absurd (no_replay c at r g line);
  tells = λ old new model g within fit no_fault. absurd (paged_found c old new model r.model r.script r.replay g (found_replay c at r));
}

-- want of memory comes in place of any refusal
pub of_want : (c : Call) → Comes c 8
of_want c = record {
  usage = λ none. inr (inl refl);
  large = λ old new model script replay g past. inr (inl refl);
  long = λ old new model g past. inr (inl refl);
  model = λ old new model script replay g within broken. inr (inl refl);
  script = λ old new model script replay g within m accepted broken. inr (inl refl);
  replay = λ old new model script replay g within m d commands accepts broken. inr (inl refl);
  page_refused = λ old new model g within unfit. inr (inl refl);
  complete = λ old new model script replay g within m d commands listed accepts reads no_fault. inr refl;
  generates = λ g line m d commands accepts no_fault. inr refl;
  tells = λ old new model g within fit no_fault. inr refl;
}

pub of_refused : OneTree → (c : Call) (status : ℕ) (r : Refusal) → RefusedFor c r → Gives c status (refusal_status r) → Comes c status
of_refused one c status refusal.Usage h due = of_usage c status h due
of_refused one c status (refusal.Read file) h due = of_read c status file h
of_refused one c status (refusal.Model f) h due = of_model one c status f h due
of_refused one c status (refusal.Script f) h due = of_script one c status f h due
of_refused one c status (refusal.Replay at) h due = of_replay one c status at h due
of_refused one c status (refusal.Bus f) h due = of_bus one c status f h due
of_refused one c status (refusal.TooLarge file) h due = of_large c status file h due
