-- What the rows of the hops come to, by the numbers of the hops.
use Rattle.std.specs.Prelude.{◌≡◌, ⊤, ℕ, List, [], ◌∷◌, ◌++◌, Option, Some, None, Result, slice_get, unwrap_or}
use Rattle.std.specs.FinMap as map
use Rattle.sim_model.specs.TransportPhases.declared.phases.Rule.{Rule}
use Rattle.sim_model.specs.TransportPhases.Phases.{verdict}
use Rattle.sim_model.specs.TransportPhases.Rows.{Rows, IsRegistered}
use Rattle.sim_model.specs.TransportPhases.History.{Entry, StandsFor, broken}
use Rattle.sim_model.specs.Configuration.{change}

abbrev pub nothing_called : Rows
nothing_called = record { kept = map.empty; spare = 0 }

-- the rows of a hop are what its history comes to
abbrev pub StandsForHop : Option Rows → Option (List Entry) → Type 0
StandsForHop None None = ⊤
StandsForHop None (Some h) = ⊥
StandsForHop (Some rows) None = ⊥
StandsForHop (Some rows) (Some h) = StandsFor rows h

abbrev pub StandsForHops : List Rows → List (List Entry) → Type 0
StandsForHops rows hs = (n : ℕ) → StandsForHop (slice_get rows n) (slice_get hs n)

-- the transaction can be called on the hop; where there is no hop nothing is kept of it
abbrev pub IsRegisteredOn : Option Rows → ℕ → Type 0
IsRegisteredOn None t = ⊤
IsRegisteredOn (Some rows) t = IsRegistered rows t

abbrev pub history_at : List (List Entry) → ℕ → List Entry
history_at hs hop = unwrap_or (slice_get hs hop) []

-- of the hops alone: which rule the entry breaks
abbrev pub Rules : List Rows → Result Unit Rule → ℕ → Entry → Type 0
Rules old answer hop e = (hs : List (List Entry)) → StandsForHops old hs → answer ≡ verdict (broken (history_at hs hop) e)

-- of the hops alone: for all histories that the rows stood for, they now stand for those with the entry
abbrev pub Enters : List Rows → List Rows → ℕ → Entry → Type 0
Enters old new hop e = (hs : List (List Entry)) → StandsForHops old hs → StandsForHops new (change hs hop (λ h. h ++ e ∷ []))
