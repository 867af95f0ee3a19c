-- What is written in a room from its end to its front.
use Rattle.std.specs.Prelude.{◌≡◌, ◌≤◌, ℕ, List, ◌++◌, length, drop}

-- a piece came before what stood from `end` on, and stands from `start` on
abbrev pub Before : List ℕ → ℕ → List ℕ → List ℕ → ℕ → Type 0
Before room end piece room' start = (start ≤ length room') × (drop start room' ≡ piece ++ drop end room)
