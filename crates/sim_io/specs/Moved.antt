-- What a buffer makes of a piece: what of it is taken, and what is held.
use Rattle.std.specs.Prelude.{◌≡◌, ◌≤◌, ◌+◌, ℕ, List, [], ◌++◌, length, Option, Result, Ok, Err}
use Rattle.sim_io.specs.Contents.{Files, AfterTold, Grows, Grew}
use Rattle.sim_io.specs.Writes.{PieceTaken}
use Rattle.sim_io.specs.declared.outside.Trouble.{Trouble}

-- A piece came behind what was held. What was taken and what is held, one behind the other, are what was held and the piece; after a
-- refusal what was taken is a proper front of these, and nothing is held.
abbrev pub Moved : List ℕ → List ℕ → List ℕ → List ℕ → Result Unit Trouble → Type 0
Moved held piece taken held' (Ok done) = taken ++ held' ≡ held ++ piece
Moved held piece taken held' (Err e) = PieceTaken (held ++ piece) taken (Err e) × (held' ≡ [])

-- a sink took it
abbrev pub SinkTook : Option (List ℕ) → Option (List ℕ) → List ℕ → List ℕ → List ℕ → Result Unit Trouble → Type 0
SinkTook old new held piece held' result = (taken : List ℕ) × Grew old new taken × Moved held piece taken held' result

-- a file, under each name that it has, took it, and the other files are as before
abbrev pub FileTook : (List ℕ → Type 0) → Option Files → Option Files → List ℕ → List ℕ → List ℕ → Result Unit Trouble → Type 0
FileTook IsName old new held piece held' result = (taken : List ℕ) × ((name : List ℕ) → IsName name → AfterTold old new (Grows name taken)) × Moved held piece taken held' result

-- the piece fits behind what is held
abbrev pub Fits : List ℕ → List ℕ → Type 0
Fits held piece = length held + length piece ≤ 65536
