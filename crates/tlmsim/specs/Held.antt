-- What the files of a session hold, before it and behind it.
use Rattle.std.specs.Prelude.{◌≡◌, ◌⊎◌, ℕ, List, [], Option, Some, None, ⊤}
use Rattle.session.specs.SimIo.Contents.{Files, Same, Others}
use Rattle.session.specs.Outputs.{IsOther, Names, Texts}

abbrev pub names_of : Option (List ℕ) → Option (List ℕ) → Names
names_of trace choices = record { trace = trace; choices = choices }

-- there is a file exactly where one is named
abbrev pub ForEach : Option (List ℕ) → Option ℕ → Type 0
ForEach None None = ⊤
ForEach None (Some id) = ⊥
ForEach (Some name) None = ⊥
ForEach (Some name) (Some id) = ⊤

-- ---- one file

-- it is empty, and each other file is as before
abbrev pub FileMade : Option (List ℕ) → Files → Files → Type 0
FileMade None old new = Same old new
FileMade (Some name) old new = (new name ≡ Some []) × Others name old new

-- it is as before or empty, and each other file is as before
abbrev pub FileSpared : Option (List ℕ) → Files → Files → Type 0
FileSpared None old new = Same old new
FileSpared (Some name) old new = ((new name ≡ old name) ⊎ (new name ≡ Some [])) × Others name old new

-- ---- the files of a session

abbrev pub IsEmptied : Option (List ℕ) → Files → Type 0
IsEmptied None new = ⊤
IsEmptied (Some name) new = new name ≡ Some []

-- each of these is empty, and each other file is as before
pub record FilesMade (names : Names) (old new : Files) : Type 0 where
  pub trace : IsEmptied names.trace new
  pub choices : IsEmptied names.choices new
  pub others : (name : List ℕ) → IsOther names.trace name → IsOther names.choices name → new name ≡ old name

abbrev pub IsSpared : Option (List ℕ) → Files → Files → Type 0
IsSpared None old new = ⊤
IsSpared (Some name) old new = (new name ≡ old name) ⊎ (new name ≡ Some [])

abbrev pub IsAsBefore : Option (List ℕ) → Files → Files → Type 0
IsAsBefore None old new = ⊤
IsAsBefore (Some name) old new = new name ≡ old name

-- each of these is as before or empty, the choices' as before where the trace's was not made, and each other file is as before
pub record FilesSpared (names : Names) (old new : Files) : Type 0 where
  pub trace : IsSpared names.trace old new
  pub choices : IsSpared names.choices old new
  pub in_order : IsAsBefore names.choices old new ⊎ IsEmptied names.trace new
  pub others : (name : List ℕ) → IsOther names.trace name → IsOther names.choices name → new name ≡ old name

abbrev pub FileHolds : Option (List ℕ) → List ℕ → Files → Type 0
FileHolds None bytes new = ⊤
FileHolds (Some name) bytes new = new name ≡ Some bytes

-- each of these holds its text, and each other file is as before
pub record FilesHold (names : Names) (t : Texts) (old new : Files) : Type 0 where
  pub trace : FileHolds names.trace t.trace new
  pub choices : FileHolds names.choices t.choices new
  pub others : (name : List ℕ) → IsOther names.trace name → IsOther names.choices name → new name ≡ old name
