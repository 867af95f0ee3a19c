-- Who uses what, as it is noted use by use.
use Rattle.std.specs.Prelude.{◌≡◌, ◌⊎◌, ℕ, List, [], ◌∷◌, map, slice_get, Option, Some, None}
use Rattle.std.specs.List.{flat_map}
use Rattle.flat_design.specs.EventCore.declared.event.Ev.{Ev}
use Rattle.flat_design.specs.declared.design.Design.{Design}
use Rattle.order_free.specs.Uses.{uses_of_deed, uses_of_event}
use Rattle.order_free.specs.declared.uses.Deed.{Deed}
use Rattle.order_free.specs.declared.uses.Use.{Use}
use Rattle.order_free.specs.declared.uses.Use.TheVariants as used
use Rattle.order_free.specs.declared.blocks.BlockPart.{BlockPart}
use Rattle.order_free.specs.Users.{joined, users_in}
use Rattle.order_free.specs.Spreading.{label_at}
use Rattle.order_free.specs.declared.users.Users.{Users}
use Rattle.order_free.specs.declared.tables.Tables.{Tables}

abbrev pub users_at : Tables → Use → Users
users_at t used.Unfit = t.unfit
users_at t used.Watches = t.watches
users_at t used.Quantum = t.quantum
users_at t (used.Variable v) = users_in t.variables.items v
users_at t (used.Memory m) = users_in t.memories.items m
users_at t (used.WritesSignal n) = users_in t.written_signals.items n
users_at t (used.ReadsFifo n) = users_in t.read_fifos.items n
users_at t (used.WritesFifo n) = users_in t.written_fifos.items n
users_at t (used.Notifies e) = users_in t.notified.items e
users_at t (used.Cancels e) = users_in t.cancelled.items e

-- one use of these users more
pub record Noted (x : Users) (u : Use) (old new : Tables) : Type 0 where
  pub here : users_at new u ≡ joined (users_at old u) x
  pub others : (w : Use) → (users_at new w ≡ users_at old w) ⊎ ((w ≡ u) × (users_at new w ≡ joined (users_at old w) x))

-- a use, and its users
pub record Claim : Type 0 where
  pub users : Users
  pub what : Use

abbrev pub claim : Users → Use → Claim
claim x u = record { users = x; what = u }

-- these uses of the same users
abbrev pub claims : Users → List Use → List Claim
claims x us = map (claim x) us

-- these uses are noted, one after another
pub data Took : List Claim → Tables → Tables → Type 0 where
  nothing : (t : Tables) → Took [] t t
  more : (x : Users) (u : Use) (cs : List Claim) (t s r : Tables) → Noted x u t s → Took cs s r → Took (claim x u ∷ cs) t r

abbrev pub deeds_in : Option BlockPart → List Deed
deeds_in None = []
deeds_in (Some p) = p.deeds

-- what a block uses in an instance of its module
abbrev pub uses_in : Design → ℕ → List BlockPart → ℕ → List Use
uses_in d home parts b = flat_map (uses_of_deed d home) (deeds_in (slice_get parts b))

-- what blocks use, by those that their labels tell
abbrev pub claims_in : Design → ℕ → List BlockPart → List Users → List ℕ → List Claim
claims_in d home parts labels blocks = flat_map (λ b. claims (label_at labels b) (uses_in d home parts b)) blocks

-- what a static sensitivity uses
abbrev pub uses_of_events : List Ev → List Use
uses_of_events es = flat_map uses_of_event es
