-- What is called and returned on each hop: between each initiator and the router, and between the router and each target.
use Rattle.std.specs.Prelude.{◌≡◌, ℕ, ◌+◌, ◌<◌, Bool, not, ◌&&◌, ◌==◌, List, [], length, map, filter, slice_index_or}
use Rattle.std.specs.List.{range_with_len}
use Rattle.transport_phases.specs.History.{Entry, Call, Return}
use Rattle.bus_runs.specs.Hops.{entries_of}
use Rattle.bus_router.specs.TrafficFile.declared.Bus.{Bus}
use Rattle.bus_router.specs.TrafficFile.Traffic.{initiator_of}
use Rattle.bus_router.specs.Times.{Table}
use Rattle.bus_router.specs.Answers.{IsServiceOrder}
use Rattle.bus_runs.specs.declared.entries.BusEntry.{BusEntry}
use Rattle.bus_runs.specs.declared.entries.BusEntry.TheVariants as entry

-- an entry as the rules of the base protocol know it
abbrev pub entry_of : BusEntry → Entry
entry_of (entry.Call payload path phase complete handled) = Call payload path phase complete handled
entry_of (entry.Return payload status phase complete) = Return payload status phase complete

-- the hop has the entries of these accesses, one behind another
abbrev pub IsHopOf : List ℕ → List BusEntry → Type 0
IsHopOf ks hop = map entry_of hop ≡ entries_of ks

-- access k goes through the router
abbrev pub is_routed : Table → ℕ → Bool
is_routed table k = not (table k).direct

-- access k of this initiator goes through the router
abbrev pub is_sent : Bus → Table → ℕ → ℕ → Bool
is_sent bus table i k = (initiator_of bus k == i) && is_routed table k

-- what an initiator sends through the router, in the order of the file
abbrev pub sent_by : Bus → Table → ℕ → List ℕ
sent_by bus table i = filter (is_sent bus table i) (range_with_len 0 (length bus.lines))

-- the hop of a target has what comes to it through the router, in the order in which it is served
pub record IsTargetHop (bus : Bus) (table : Table) (home : ℕ) (hop : List BusEntry) : Type 0 where
  pub ks : List ℕ
  pub order : IsServiceOrder bus table home ks
  pub entries : IsHopOf (filter (is_routed table) ks) hop

-- first the hop of each initiator, and then that of each target, in the order of the file
pub record AreHops (bus : Bus) (table : Table) (hops : List (List BusEntry)) : Type 0 where
  pub many : length hops ≡ length bus.initiators + length bus.targets
  pub initiators : (i : ℕ) → i < length bus.initiators → IsHopOf (sent_by bus table i) (slice_index_or hops i [])
  pub targets : (home : ℕ) → home < length bus.targets → IsTargetHop bus table home (slice_index_or hops (length bus.initiators + home) [])
