-- What a write took of a piece.
use Rattle.std.specs.Prelude.{◌≡◌, ◌<◌, ◌⊎◌, ℕ, List, [], length, take, Option, Some, Result, Ok, Err}
use Rattle.sim_io.specs.Contents.{Files, AfterTold, Grows, Grew, Others, Same}
use Rattle.sim_io.specs.declared.outside.Trouble.{Trouble}
use Rattle.sim_io.specs.declared.outside.Trouble.TheVariants.{Failed, NoMemory}

-- what one write took: nothing where it is not Ok
abbrev pub taken : Result ℕ Trouble → List ℕ → List ℕ
taken (Ok count) piece = take count piece
taken (Err e) piece = []

-- what a whole piece left behind: all of it, or after a refusal a proper prefix
abbrev pub PieceTaken : List ℕ → List ℕ → Result Unit Trouble → Type 0
PieceTaken piece bytes (Ok done) = bytes ≡ piece
PieceTaken piece bytes (Err e) = (count : ℕ) × (count < length piece) × (bytes ≡ take count piece)

-- a sink grew by what it took of the piece
abbrev pub TookOf : Option (List ℕ) → Option (List ℕ) → List ℕ → Result Unit Trouble → Type 0
TookOf old new piece result = (bytes : List ℕ) × Grew old new bytes × PieceTaken piece bytes result

-- a file, under each name that it has, grew by what was taken of the piece, and the other files are as before
abbrev pub FileTook : (List ℕ → Type 0) → Option Files → Option Files → List ℕ → Result Unit Trouble → Type 0
FileTook IsName old new piece result = (bytes : List ℕ) × ((name : List ℕ) → IsName name → AfterTold old new (Grows name bytes)) × PieceTaken piece bytes result

-- `create`: the file is empty at Ok; after Failed it is as before or empty; out of memory leaves it
abbrev pub Creates : List ℕ → Result ℕ Trouble → Files → Files → Type 0
Creates name (Ok id) old new = (new name ≡ Some []) × Others name old new
Creates name (Err Failed) old new = ((new name ≡ old name) ⊎ (new name ≡ Some [])) × Others name old new
Creates name (Err NoMemory) old new = Same old new
