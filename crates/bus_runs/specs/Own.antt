-- Which entries of hops are those of one access.
use Rattle.std.specs.Prelude.{◌≡◌, ◌≢◌, ℕ, ◌+◌, ◌<◌, true, false, ◌==◌, List, [], ◌∷◌, Some, length, map, filter, slice_index_or}
use Rattle.transport_phases.specs.History.{Entry, transaction}
use Rattle.bus_runs.specs.Hops.{entries_of}
use Rattle.bus_router.specs.TrafficFile.declared.Bus.{Bus}
use Rattle.bus_router.specs.TrafficFile.Traffic.{initiator_of, home_of}
use Rattle.bus_router.specs.Times.{Table}
use Rattle.bus_runs.specs.declared.entries.BusEntry.{BusEntry}
use Rattle.bus_runs.specs.Entries.{entry_of}

-- hop h, counted from 0; past the end an empty one
abbrev pub hop_at : List (List BusEntry) → ℕ → List BusEntry
hop_at hops h = slice_index_or hops h []

-- the entries of access k on a hop
abbrev pub entries_on : List BusEntry → ℕ → List Entry
entries_on hop k = filter (λ e. transaction e == k) (map entry_of hop)

-- an access that goes through the router has its four entries on the hop of its initiator and, where it has a home, on that of its
-- home; on each other hop it has none, and a direct one has none on any
pub record HasItsEntries (bus : Bus) (table : Table) (hops : List (List BusEntry)) (k : ℕ) : Type 0 where
  pub initiator : (table k).direct ≡ false → entries_on (hop_at hops (initiator_of bus k)) k ≡ entries_of (k ∷ [])
  pub home : (t : ℕ) → home_of bus k ≡ Some t → (table k).direct ≡ false → entries_on (hop_at hops (length bus.initiators + t)) k ≡ entries_of (k ∷ [])
  pub other_initiator : (i : ℕ) → i < length bus.initiators → i ≢ initiator_of bus k → entries_on (hop_at hops i) k ≡ []
  pub other_target : (t : ℕ) → home_of bus k ≢ Some t → entries_on (hop_at hops (length bus.initiators + t)) k ≡ []
  pub direct : (table k).direct ≡ true → (h : ℕ) → entries_on (hop_at hops h) k ≡ []
