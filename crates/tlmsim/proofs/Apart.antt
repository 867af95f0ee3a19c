-- What a call was given, against what was read in it and what came of that.
use Rattle.std.proofs.Common.{◌≡◌, ◌<◌, ◌≤◌, ◌⊎◌, ⊎_elim, ℕ, List, length, Option, Some, None, subst, ap, refl, arith}
use Rattle.std.specs.Prelude.{IfSome}
use Rattle.session.specs.SimIo.Contents.{Files, Lacks, IsText, IsLarge}
use Rattle.session.specs.SimIo.Cause.{Rose}
use Rattle.command_line.specs.declared.modes.PageKind.{PageKind}
use Rattle.command_line.specs.Line.{Mode, Simulation, Simulate, Page, Generate, line_of}
use Rattle.run_input.specs.Limits.{model_limit, script_limit, replay_limit}
use Rattle.run_input.specs.Loaded.{AreTexts}
use Rattle.run_input.specs.Together.{Together}
use Rattle.run_input.proofs.Present.{text_at, large_at, lacks_none}
use Rattle.tlmsim.specs.Requests.{HasTexts, HasText, IsModel, replay_of}
use Rattle.tlmsim.specs.Call.{Call}
use Rattle.tlmsim.specs.Pages.{ReadsModel}
use Rattle.tlmsim.specs.Headline.{UnreadIn, ReadFailed, LargeIn, TooLarge, Reads, Given, ModelGiven, PageGiven, Within, PastLimit, names_model}

-- ---- one command line

same_mode : (words : List (List ℕ)) (a b : Mode) → line_of words ≡ Some a → line_of words ≡ Some b → a ≡ b
same_mode words a b p q = cc

pub no_line : (words : List (List ℕ)) (a : Mode) → line_of words ≡ Some a → line_of words ≡ None → ⊥
no_line words a p q = cc

-- words ask for one page, of one file
pub same_page : (words : List (List ℕ)) (k k' : PageKind) (n n' : List ℕ) → line_of words ≡ Some (Page k n) → line_of words ≡ Some (Page k' n') → (k ≡ k') × (n ≡ n')
same_page words k k' n n' p q = (cc, cc)

-- no words ask for a run and for a page
pub one_mode : (words : List (List ℕ)) (s : Simulation) (kind : PageKind) (name : List ℕ) → line_of words ≡ Some (Simulate s) → line_of words ≡ Some (Page kind name) → ⊥
one_mode words s kind name p q = cc

-- ---- one file

-- a file that is there was read
unread_there : (c : Call) (old new : Files) (name name' text : List ℕ) → Reads c old new → name' ≡ name → old name ≡ Some text → Rose c.before.reads c.after.reads ⊎ Lacks c.before.files name' → ⊥
unread_there c old new name name' text r n there h = ⊎_elim r.no_fault (lacks_none c.before.files old name' name text r.told n there) h

text_there : (c : Call) (old new : Files) (name name' text read : List ℕ) → Reads c old new → name' ≡ name → old name ≡ Some text → IsText c.before.files c.after.files name' read → read ≡ text
text_there c old new name name' text read r n there is = text_at c.before.files c.after.files old new name' name read text r.told r.told_after n there is

-- a model that is past its limit was not read within it
too_long : (c : Call) (old new : Files) (name name' text read : List ℕ) → Reads c old new → name' ≡ name → old name ≡ Some text → model_limit < length text → IsText c.before.files c.after.files name' read → length read ≤ model_limit → ⊥
too_long c old new name name' text read r n there past is fits =
    let same = ap length (text_there c old new name name' text read r n there is) in
    let long : model_limit < length text = past in
    let within : length read ≤ model_limit = fits in
    omega arith

-- a file that is within its limit is not too large
not_past_it : (c : Call) (old new : Files) (name name' text : List ℕ) (limit : ℕ) → Reads c old new → name' ≡ name → old name ≡ Some text → length text ≤ limit → IsLarge c.before.files c.after.files name' limit → ⊥
not_past_it c old new name name' text limit r n there fits is =
    let large : limit < length text = large_at c.before.files c.after.files old new name' name text limit r.told r.told_after n there is in
    omega arith

-- the replay file that is named is there, where its text is given
replay_there : (old : Files) (named replay : Option (List ℕ)) (file : List ℕ) → Together named replay (λ name text. old name ≡ Some text) → named ≡ Some file → (text : List ℕ) × (replay ≡ Some text) × (old file ≡ Some text)
replay_there old None replay file h e = absurd cc
replay_there old (Some name) None file h e = absurd h
replay_there old (Some name) (Some text) file h e =
    let same : name ≡ file = cc in
    let P : List ℕ → Type 0 = λ n. old n ≡ Some text in
    (text, refl, subst P same h)

same_replay_text : (before after : Option Files) (old new : Files) (named replay replay' : Option (List ℕ)) → before ≡ Some old → after ≡ Some new → Together named replay (λ name text. old name ≡ Some text) → Together named replay' (IsText before after) → replay' ≡ replay
same_replay_text before after old new None None None b a there is = refl
same_replay_text before after old new None None (Some read) b a there is = absurd is
same_replay_text before after old new None (Some text) replay' b a there is = absurd there
same_replay_text before after old new (Some name) None replay' b a there is = absurd there
same_replay_text before after old new (Some name) (Some text) None b a there is = absurd is
same_replay_text before after old new (Some name) (Some text) (Some read) b a there is =
    ap (λ (t : List ℕ). Some t) (text_at before after old new name name read text b a refl there is)

-- ---- the limits

if_some : (o : Option (List ℕ)) (P : List ℕ → Type 0) (x : List ℕ) → IfSome o P → o ≡ Some x → P x
if_some None P x h e = absurd cc
if_some (Some y) P x h e = let same : y ≡ x = cc in subst P same h

pub not_past : (model script : List ℕ) (replay : Option (List ℕ)) → Within model script replay → PastLimit model script replay → ⊥
not_past model script replay w past =
    let m : length model ≤ model_limit = w.model_within in
    let s : length script ≤ script_limit = w.script_within in
    ⊎_elim
    (λ long. let h : model_limit < length model = long in omega arith)
    (λ later. ⊎_elim
    (λ long. let h : script_limit < length script = long in omega arith)
    (λ long. let h : replay_limit < length long.0 = long.2 in let r : length long.0 ≤ replay_limit = w.replay_within long.0 long.1 in omega arith)
    later)
    past

-- ---- the texts of a run

-- texts that were read for a run
pub record Found (c : Call) (model script : List ℕ) (replay : Option (List ℕ)) : Type 0 where
  pub mode : Mode
  pub line : line_of c.words ≡ Some mode
  pub texts : HasTexts c mode model script replay

texts_in : (c : Call) (old new : Files) (model script : List ℕ) (replay : Option (List ℕ)) (model' script' : List ℕ) (replay' : Option (List ℕ)) → (g : Given c old new model script replay) → Found c model' script' replay'
    → AreTexts c.before.files c.after.files g.s.model g.s.script (replay_of g.s.rule) model' script' replay'
texts_in c old new model script replay model' script' replay' g f =
    let P : Mode → Type 0 = λ mode. HasTexts c mode model' script' replay' in
    subst P (same_mode c.words f.mode (Simulate g.s) f.line g.line) f.texts

within_of : (c : Call) (s : Simulation) (model script : List ℕ) (replay : Option (List ℕ)) → AreTexts c.before.files c.after.files s.model s.script (replay_of s.rule) model script replay → Within model script replay
within_of c s model script replay t = record {
  model_within = t.model_within;
  script_within = t.script_within;
  replay_within = λ text e. if_some replay (λ x. length x ≤ replay_limit) text t.replay_within e;
}

-- what is so of the texts that were read is so of those that were given
pub of_given : (c : Call) (old new : Files) (model script : List ℕ) (replay : Option (List ℕ)) (model' script' : List ℕ) (replay' : Option (List ℕ)) (P : List ℕ → List ℕ → Option (List ℕ) → Type 0)
    → Given c old new model script replay → Found c model' script' replay' → P model' script' replay' → P model script replay
of_given c old new model script replay model' script' replay' P g f h =
    let t = texts_in c old new model script replay model' script' replay' g f in
    let A : List ℕ → Type 0 = λ x. P x script' replay' in
    let B : List ℕ → Type 0 = λ x. P model x replay' in
    let C : Option (List ℕ) → Type 0 = λ x. P model script x in
    let one : P model script' replay' = subst A (text_there c old new g.s.model g.s.model model model' g.reads refl g.model_is t.model_is) h in
    let two : P model script replay' = subst B (text_there c old new g.s.script g.s.script script script' g.reads refl g.script_is t.script_is) one in
    subst C (same_replay_text c.before.files c.after.files old new (replay_of g.s.rule) replay replay' g.reads.told g.reads.told_after g.replay_is t.replay_is) two

-- texts that are given and of which one is past its limit were not read
pub not_long : (c : Call) (old new : Files) (model script : List ℕ) (replay : Option (List ℕ)) (model' script' : List ℕ) (replay' : Option (List ℕ)) → Given c old new model script replay → PastLimit model script replay → Found c model' script' replay' → ⊥
not_long c old new model script replay model' script' replay' g past f =
    let within = within_of c g.s model' script' replay' (texts_in c old new model script replay model' script' replay' g f) in
    not_past model script replay (of_given c old new model script replay model' script' replay' Within g f within) past

-- the model that was read for a run that is given stands beside a script and a replay text
pub found_model : (c : Call) (old new : Files) (model script : List ℕ) (replay : Option (List ℕ)) (mode : Mode) (model' : List ℕ) → Given c old new model script replay → line_of c.words ≡ Some mode → IsModel c mode model'
    → (script' : List ℕ) × (replay' : Option (List ℕ)) × Found c model' script' replay'
found_model c old new model script replay mode model' g line is =
    let P : Mode → Type 0 = λ m. IsModel c m model' in
    let here : IsModel c (Simulate g.s) model' = subst P (same_mode c.words mode (Simulate g.s) line g.line) is in
    (here.0, here.1, record { mode = Simulate g.s; line = g.line; texts = here.2 })

-- no file that is given could not be read
pub not_read : (c : Call) (old new : Files) (model script : List ℕ) (replay : Option (List ℕ)) (file : List ℕ) → Given c old new model script replay → ReadFailed c file → ⊥
not_read c old new model script replay file g r =
    let P : Mode → Type 0 = λ m. UnreadIn c m file in
    let here : UnreadIn c (Simulate g.s) file = subst P (same_mode c.words r.mode (Simulate g.s) r.line g.line) r.cause in
    ⊎_elim
    (λ first. unread_there c old new g.s.model g.s.model model g.reads refl g.model_is first.1)
    (λ later. ⊎_elim
    (λ second. unread_there c old new g.s.script g.s.script script g.reads refl g.script_is second.1.3)
    (λ third. let there = replay_there old (replay_of g.s.rule) replay file g.replay_is third.0 in unread_there c old new file file there.0 g.reads refl there.2 third.1.3.3)
    later)
    here

-- nor is one that is within its limit too large
pub not_large : (c : Call) (old new : Files) (model script : List ℕ) (replay : Option (List ℕ)) (file : List ℕ) → Given c old new model script replay → Within model script replay → TooLarge c file → ⊥
not_large c old new model script replay file g w l =
    let P : Mode → Type 0 = λ m. LargeIn c m file in
    let here : LargeIn c (Simulate g.s) file = subst P (same_mode c.words l.mode (Simulate g.s) l.line g.line) l.cause in
    ⊎_elim
    (λ first. not_past_it c old new g.s.model g.s.model model model_limit g.reads refl g.model_is w.model_within first.1)
    (λ later. ⊎_elim
    (λ second. not_past_it c old new g.s.script g.s.script script script_limit g.reads refl g.script_is w.script_within second.1.3)
    (λ third. let there = replay_there old (replay_of g.s.rule) replay file g.replay_is third.0 in
    not_past_it c old new file file there.0 replay_limit g.reads refl there.2 (w.replay_within there.0 there.1) third.1.3.3)
    later)
    here

-- ---- a model that is past its limit

long_in : (c : Call) (old new : Files) (name model : List ℕ) (mode : Mode) (model' : List ℕ) → Reads c old new → old name ≡ Some model → model_limit < length model → names_model mode ≡ Some name → IsModel c mode model' → ⊥
long_in c old new name model (Simulate s) model' r there past named is =
    let n : s.model ≡ name = cc in too_long c old new name s.model model model' r n there past is.2.model_is is.2.model_within
long_in c old new name model (Page kind file) model' r there past named is =
    let n : file ≡ name = cc in too_long c old new name file model model' r n there past is.1.text is.1.within
long_in c old new name model (Generate g) model' r there past named is = cc

-- it was not read within it
pub long_model : (c : Call) (old new : Files) (model : List ℕ) (mode : Mode) (model' : List ℕ) → ModelGiven c old new model → model_limit < length model → line_of c.words ≡ Some mode → IsModel c mode model' → ⊥
long_model c old new model mode model' g past line is =
    let P : Mode → Type 0 = λ m. IsModel c m model' in
    long_in c old new g.name model g.mode model' g.reads g.model_is past g.named (subst P (same_mode c.words mode g.mode line g.line) is)

model_in : (c : Call) (mode : Mode) (model script : List ℕ) (replay : Option (List ℕ)) → HasTexts c mode model script replay → IsModel c mode model
model_in c (Simulate s) model script replay t = (script, replay, t)
model_in c (Page kind name) model script replay t = absurd t
model_in c (Generate g) model script replay t = t.0

-- nor for a run
pub long_found : (c : Call) (old new : Files) (model : List ℕ) (model' script' : List ℕ) (replay' : Option (List ℕ)) → ModelGiven c old new model → model_limit < length model → Found c model' script' replay' → ⊥
long_found c old new model model' script' replay' g past f =
    long_model c old new model f.mode model' g past f.line (model_in c f.mode model' script' replay' f.texts)

long_unread : (c : Call) (old new : Files) (name model : List ℕ) (mode : Mode) (file : List ℕ) → Reads c old new → old name ≡ Some model → model_limit < length model → names_model mode ≡ Some name → UnreadIn c mode file → ⊥
long_unread c old new name model (Simulate s) file r there past named h =
    let n : s.model ≡ name = cc in
    ⊎_elim
    (λ first. unread_there c old new name s.model model r n there first.1)
    (λ later. ⊎_elim
    (λ second. too_long c old new name s.model model second.1.0 r n there past second.1.1 second.1.2)
    (λ third. too_long c old new name s.model model third.1.0 r n there past third.1.1 third.1.2)
    later)
    h
long_unread c old new name model (Page kind other) file r there past named h =
    let n : other ≡ name = cc in unread_there c old new name other model r n there h.1
long_unread c old new name model (Generate g) file r there past named h = absurd h

-- and no file beside it could not be read: it is read first
pub long_read : (c : Call) (old new : Files) (model file : List ℕ) → ModelGiven c old new model → model_limit < length model → ReadFailed c file → ⊥
long_read c old new model file g past r =
    let P : Mode → Type 0 = λ m. UnreadIn c m file in
    long_unread c old new g.name model g.mode file g.reads g.model_is past g.named (subst P (same_mode c.words r.mode g.mode r.line g.line) r.cause)

-- ---- a model of which a page is told

-- it is not run
pub paged_found : (c : Call) (old new : Files) (model : List ℕ) (model' script' : List ℕ) (replay' : Option (List ℕ)) → PageGiven c old new model → Found c model' script' replay' → ⊥
paged_found c old new model model' script' replay' g f =
    let P : Mode → Type 0 = λ mode. HasTexts c mode model' script' replay' in
    let none : HasTexts c (Page g.kind g.name) model' script' replay' = subst P (same_mode c.words f.mode (Page g.kind g.name) f.line g.line) f.texts in
    none

-- a model that was read is the text that is given, and the page is one of a model
pub paged_model : (c : Call) (old new : Files) (model : List ℕ) (mode : Mode) (model' : List ℕ) → (g : PageGiven c old new model) → line_of c.words ≡ Some mode → IsModel c mode model' → ReadsModel g.kind × (model' ≡ model)
paged_model c old new model mode model' g line is =
    let P : Mode → Type 0 = λ m. IsModel c m model' in
    let here : ReadsModel g.kind × HasText c g.name model' = subst P (same_mode c.words mode (Page g.kind g.name) line g.line) is in
    (here.0, text_there c old new g.name g.name model model' g.reads refl g.model_is here.1.text)

pub paged_read : (c : Call) (old new : Files) (model file : List ℕ) → PageGiven c old new model → ReadFailed c file → ⊥
paged_read c old new model file g r =
    let P : Mode → Type 0 = λ m. UnreadIn c m file in
    let here : UnreadIn c (Page g.kind g.name) file = subst P (same_mode c.words r.mode (Page g.kind g.name) r.line g.line) r.cause in
    unread_there c old new g.name g.name model g.reads refl g.model_is here.1

pub paged_large : (c : Call) (old new : Files) (model file : List ℕ) → PageGiven c old new model → length model ≤ model_limit → TooLarge c file → ⊥
paged_large c old new model file g fits l =
    let P : Mode → Type 0 = λ m. LargeIn c m file in
    let here : LargeIn c (Page g.kind g.name) file = subst P (same_mode c.words l.mode (Page g.kind g.name) l.line g.line) l.cause in
    not_past_it c old new g.name g.name model model_limit g.reads refl g.model_is fits here.1

-- the file of a page that was read is the one that is given
pub paged_text : (c : Call) (old new : Files) (text : List ℕ) (kind : PageKind) (name text' : List ℕ) → (g : PageGiven c old new text) → line_of c.words ≡ Some (Page kind name) → HasText c name text' → (kind ≡ g.kind) × (text' ≡ text)
paged_text c old new text kind name text' g line has =
    let same = same_page c.words kind g.kind name g.name line g.line in
    (same.0, text_there c old new g.name name text text' g.reads same.1 g.model_is has.text)

-- nor is it past its limit
pub long_paged : (c : Call) (old new : Files) (text : List ℕ) (kind : PageKind) (name text' : List ℕ) → ModelGiven c old new text → model_limit < length text → line_of c.words ≡ Some (Page kind name) → HasText c name text' → ⊥
long_paged c old new text kind name text' g past line has =
    let P : Mode → Type 0 = λ m. names_model m ≡ Some g.name in
    let named : Some name ≡ Some g.name = subst P (same_mode c.words g.mode (Page kind name) g.line line) g.named in
    let same : name ≡ g.name = cc in
    too_long c old new g.name name text text' g.reads same g.model_is past has.text has.within
