-- The hops while they are made. No public clause cites this module.
use Rattle.std.specs.Prelude.{◌≡◌, ℕ, ◌+◌, ◌<◌, List, [], length, slice_index_or}
use Rattle.bus_router.specs.TrafficFile.declared.Bus.{Bus}
use Rattle.bus_router.specs.Times.{Table}
use Rattle.bus_runs.specs.declared.entries.BusEntry.{BusEntry}
use Rattle.bus_runs.specs.Entries.{sent_by, IsHopOf, IsTargetHop}

-- the hops of so many initiators, and behind them those of so many targets
pub record HopsSofar (bus : Bus) (table : Table) (hops : List (List BusEntry)) (of homes : ℕ) : Type 0 where
  pub many : length hops ≡ of + homes
  pub initiators : (i : ℕ) → i < of → IsHopOf (sent_by bus table i) (slice_index_or hops i [])
  pub targets : (home : ℕ) → home < homes → IsTargetHop bus table home (slice_index_or hops (of + home) [])
