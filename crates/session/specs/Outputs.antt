-- What a session writes, and how much of it the outside took.
use Rattle.std.specs.Prelude.{◌≡◌, ◌≢◌, ◌<◌, ◌≤◌, ◌⊎◌, ◌+◌, ℕ, List, [], ◌++◌, length, Option, Some, None, ⊤}
use Rattle.std.specs.Io.KnownBytes.{append_known}
use Rattle.sim_io.specs.Cause.{Rose}
use Rattle.sim_io.specs.Contents.{Files, AfterTold, Same, Grows, Grew}
use Rattle.session.specs.declared.buffers.Buffers.{Buffers}

-- the texts of a session: its report; its trace, and the list of its choices, where a file is to get them
pub record Texts : Type 0 where
  pub report : List ℕ
  pub trace : List ℕ
  pub choices : List ℕ

-- texts with others behind them
abbrev pub behind : Texts → Texts → Texts
behind a b = record { report = a.report ++ b.report; trace = a.trace ++ b.trace; choices = a.choices ++ b.choices }

-- a text that is written where there is a file for it
abbrev pub text_for : Option ℕ → List ℕ → List ℕ
text_for None text = []
text_for (Some id) text = text

abbrev pub no_texts : Texts
no_texts = record { report = []; trace = []; choices = [] }

-- what a session holds of its texts
abbrev pub due_of : Buffers → Texts
due_of b = record { report = b.report; trace = b.trace; choices = b.choices }

-- the outside of a session at a moment: what the sink of the report holds, and the files, where they are told
pub record Outer : Type 0 where
  pub sink : Option (List ℕ)
  pub files : Option Files

abbrev pub outer_of : {S O : Type 0} → (S → Option Files) → (O → Option (List ℕ)) → S → O → Outer
outer_of files holds shelf out = record { sink = holds out; files = files shelf }

-- ---- the files

-- the names of the files for the trace and for the choices, where there are such files
pub record Names : Type 0 where
  pub trace : Option (List ℕ)
  pub choices : Option (List ℕ)

-- the file of this id has this name
abbrev pub HasName : {S : Type 0} → (S → ℕ → List ℕ → Type 0) → S → Option ℕ → Option (List ℕ) → Type 0
HasName stands shelf None None = ⊤
HasName stands shelf None (Some name) = ⊥
HasName stands shelf (Some id) None = ⊥
HasName stands shelf (Some id) (Some name) = stands shelf id name

abbrev pub AreApart : Option (List ℕ) → Option (List ℕ) → Type 0
AreApart None b = ⊤
AreApart (Some a) None = ⊤
AreApart (Some a) (Some b) = b ≢ a

-- these are the names of a plan's files, two different ones
pub record AreNames {S : Type 0} (stands : S → ℕ → List ℕ → Type 0) (shelf : S) (trace choices : Option ℕ) (names : Names) : Type 0 where
  pub trace_is : HasName stands shelf trace names.trace
  pub choices_is : HasName stands shelf choices names.choices
  pub apart : AreApart names.trace names.choices

-- the file of this id, under each name that it has, has these bytes behind what it had, and each other file is as before; without an
-- id each file is
abbrev pub FileGrew : {S : Type 0} → (S → Option Files) → (S → ℕ → List ℕ → Type 0) → S → S → Option ℕ → List ℕ → Type 0
FileGrew files stands old new None bytes = AfterTold (files old) (files new) Same
FileGrew files stands old new (Some id) bytes = (name : List ℕ) → stands old id name → AfterTold (files old) (files new) (Grows name bytes)

-- the file of this name, where there is one, has these bytes behind what it had
abbrev pub FileGot : Option (List ℕ) → List ℕ → Files → Files → Type 0
FileGot None bytes old new = ⊤
FileGot (Some name) bytes old new = new name ≡ append_known (old name) bytes

abbrev pub IsOther : Option (List ℕ) → List ℕ → Type 0
IsOther None name = ⊤
IsOther (Some one) name = name ≢ one

-- the files got these texts, and each other file is as before
pub record FilesGot (names : Names) (t : Texts) (old new : Files) : Type 0 where
  pub trace : FileGot names.trace t.trace old new
  pub choices : FileGot names.choices t.choices old new
  pub others : (name : List ℕ) → IsOther names.trace name → IsOther names.choices name → new name ≡ old name

-- the outside took these texts: the sink the report, and the files, whichever names they have, theirs
pub record Took (AreNamed : Names → Type 0) (old new : Outer) (t : Texts) : Type 0 where
  pub report : Grew old.sink new.sink t.report
  pub files : (names : Names) → AreNamed names → AfterTold old.files new.files (FilesGot names t)

-- neither count of faults fell, that of the sink and that of writes to files, and one of them rose if this came
pub record OneRose (faults faults' writes writes' : ℕ) (Came : Type 0) : Type 0 where
  pub faults_later : faults ≤ faults'
  pub writes_later : writes ≤ writes'
  pub rose : Came → Rose faults faults' ⊎ Rose writes writes'

-- ---- cuts

-- the text begins so
abbrev pub IsFront : List ℕ → List ℕ → Type 0
IsFront front text = (rest : List ℕ) × (text ≡ front ++ rest)

pub record AreFronts (front whole : Texts) : Type 0 where
  pub report : IsFront front.report whole.report
  pub trace : IsFront front.trace whole.trace
  pub choices : IsFront front.choices whole.choices

-- each of the texts is at most so many bytes longer than what there is of it
pub record IsNear (most : ℕ) (part whole : Texts) : Type 0 where
  pub report : length whole.report ≤ length part.report + most
  pub trace : length whole.trace ≤ length part.trace + most
  pub choices : length whole.choices ≤ length part.choices + most

-- one of the texts lacks a byte
abbrev pub LacksByte : Texts → Texts → Type 0
LacksByte front whole = (length front.report < length whole.report) ⊎ ((length front.trace < length whole.trace) ⊎ (length front.choices < length whole.choices))

-- what was taken are fronts of these texts
pub record TookFronts (TookIt : Texts → Type 0) (whole : Texts) : Type 0 where
  pub front : Texts
  pub fronts : AreFronts front whole
  pub took : TookIt front

-- what was taken are fronts of these texts, and one of them lacks a byte
pub record TookShort (TookIt : Texts → Type 0) (whole : Texts) : Type 0 where
  pub front : Texts
  pub fronts : AreFronts front whole
  pub lacks : LacksByte front whole
  pub took : TookIt front

-- ---- what is held

-- of these texts a front was taken, and the rest is due
pub record Given (AreNamed : Names → Type 0) (old now : Outer) (due whole : Texts) : Type 0 where
  pub front : Texts
  pub took : Took AreNamed old now front
  pub report : front.report ++ due.report ≡ whole.report
  pub trace : front.trace ++ due.trace ≡ whole.trace
  pub choices : front.choices ++ due.choices ≡ whole.choices

-- no more of each text is due than a buffer holds
pub record FitsRoom (due : Texts) : Type 0 where
  pub report : length due.report ≤ 65536
  pub trace : length due.trace ≤ 65536
  pub choices : length due.choices ≤ 65536

-- what was due was written as far as it could be
abbrev pub LetGo : (Names → Type 0) → Outer → Outer → Texts → Type 0
LetGo AreNamed old new due = (taken : Texts) × AreFronts taken due × Took AreNamed old new taken
