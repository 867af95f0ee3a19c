-- What a call leaves of the texts that it writes.
use Rattle.std.specs.Prelude.{◌≡◌, ◌<◌, ℕ, List, [], ◌∷◌, ◌++◌, length, codes}
use Rattle.std.specs.Fmt.{decimal}
use Rattle.session.specs.SimIo.Contents.{AfterTold, Grew}
use Rattle.command_line.specs.Line.{Mode, Simulate, Page, Generate}
use Rattle.session.specs.Outputs.{Texts, Names, IsFront}
use Rattle.tlmsim.specs.Held.{FilesHold, FilesSpared}
use Rattle.tlmsim.specs.Call.{Call, names_in, no_names}

-- `out` took this text, and each file that these names name holds its own
pub record Holds (c : Call) (names : Names) (t : Texts) : Type 0 where
  pub report : Grew c.before.out c.after.out t.report
  pub files : AfterTold c.before.files c.after.files (FilesHold names t)

-- the line that tells how many steps a generated model took
abbrev pub steps_line : ℕ → List ℕ
steps_line steps = codes "steps " ++ decimal steps ++ 10 ∷ []

-- the texts of a run whose steps are told behind its report, where it is that of a generated model
abbrev pub with_steps : Mode → ℕ → Texts → Texts
with_steps (Simulate s) steps t = t
with_steps (Page kind name) steps t = t
with_steps (Generate g) steps t = record t { report = t.report ++ steps_line steps }

-- all of a run's texts were taken
abbrev pub TakesAll : Call → Mode → ℕ → Texts → Type 0
TakesAll c mode steps t = Holds c (names_in mode) (with_steps mode steps t)

-- of the run of a generated model all texts were taken but for a part of the line of its steps
pub record TakesPart (c : Call) (steps : ℕ) (t : Texts) : Type 0 where
  pub part : List ℕ
  pub front : IsFront part (steps_line steps)
  pub short : length part < length (steps_line steps)
  pub held : Holds c no_names (record t { report = t.report ++ part })

abbrev pub TakesShort : Call → Mode → ℕ → Texts → Type 0
TakesShort c (Simulate s) steps t = ⊥
TakesShort c (Page kind name) steps t = ⊥
TakesShort c (Generate g) steps t = TakesPart c steps t

-- `out` is as it was, and each file that the words name for writing is as before or empty
pub record Spared (c : Call) (mode : Mode) : Type 0 where
  pub out : c.after.out ≡ c.before.out
  pub files : AfterTold c.before.files c.after.files (FilesSpared (names_in mode))
