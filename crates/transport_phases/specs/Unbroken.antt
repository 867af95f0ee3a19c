-- Histories in which nothing was broken.
use Rattle.std.specs.Prelude.{◌≡◌, ℕ, Bool, true, List, [], ◌∷◌, ◌++◌, None}
use Rattle.transport_phases.specs.declared.transaction.Kept.{Kept}
use Rattle.transport_phases.specs.History.{Entry, broken, kept_of}

-- each of the later entries broke no rule after those before it
abbrev pub UnbrokenFrom : List Entry → List Entry → Type 0
UnbrokenFrom before [] = Unit {0}
UnbrokenFrom before (e ∷ later) = (broken before e ≡ None) × UnbrokenFrom (before ++ e ∷ []) later

abbrev pub Unbroken : List Entry → Type 0
Unbroken h = UnbrokenFrom [] h

-- no two transactions pass the test after the history
abbrev pub AtMostOne : (Kept → Bool) → List Entry → Type 0
AtMostOne test h = (t u : ℕ) → test (kept_of h t) ≡ true → test (kept_of h u) ≡ true → t ≡ u
