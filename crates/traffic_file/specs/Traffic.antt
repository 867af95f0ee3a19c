-- Accesses, and where each of them goes.
use Rattle.std.specs.Prelude.{◌≡◌, ℕ, ◌^◌, ◌<◌, ◌≤◌, false, [], Option, option_map, length, slice_index_or}
use Rattle.dmi_map.specs.declared.ranges.TargetRange.{TargetRange}
use Rattle.dmi_map.specs.Ranges.{range_of, range_with}
use Rattle.text_lines.specs.Words.{length_of}
use Rattle.text_lines.specs.declared.actions.BusAction.TheVariants.{Get}
use Rattle.traffic_file.specs.declared.Bus.{Bus}
use Rattle.traffic_file.specs.declared.BusTarget.{BusTarget}
use Rattle.traffic_file.specs.declared.BusInitiator.{BusInitiator}
use Rattle.traffic_file.specs.declared.BusLine.{BusLine}
use Rattle.traffic_file.specs.declared.Invalidate.{Invalidate}

-- ---- what stands at a place, counted from 0; past the end something that no definition looks at

abbrev pub line_at : Bus → ℕ → BusLine
line_at bus k = slice_index_or bus.lines k (record { line = 0; time = 0; initiator = 0; address = 0; action = Get 1 })

abbrev pub target_at : Bus → ℕ → BusTarget
target_at bus t = slice_index_or bus.targets t (record { name = []; size = 0; latency = 0 })

abbrev pub initiator_at : Bus → ℕ → BusInitiator
initiator_at bus i = slice_index_or bus.initiators i (record { name = []; dmi = false })

abbrev pub invalidate_at : Bus → ℕ → Invalidate
invalidate_at bus i = slice_index_or bus.invalidates i (record { time = 0; low = 0; high = 0 })

abbrev pub range_at : Bus → ℕ → TargetRange
range_at bus t = slice_index_or bus.map t (range_of 0 0 0)

-- ---- one access

-- the initiator of access k
abbrev pub initiator_of : Bus → ℕ → ℕ
initiator_of bus k = (line_at bus k).initiator

-- the range that has the address of access k, or none
abbrev pub range_of_line : Bus → ℕ → Option TargetRange
range_of_line bus k = range_with (line_at bus k).address bus.map

-- its home: the target whose range has its address, or none
abbrev pub home_of : Bus → ℕ → Option ℕ
home_of bus k = option_map (λ range. range.target) (range_of_line bus k)

-- ---- what a run asks of a bus

-- numbers are in their ranges, each access has its initiator, and the map has exactly the targets, with their sizes
pub record CanRun (bus : Bus) : Type 0 where
  pub takes_time : 1 ≤ bus.delay
  pub delay : bus.delay < 2 ^ 40
  pub few_lines : length bus.lines ≤ 4096
  pub few_targets : length bus.targets ≤ 256
  pub few_initiators : length bus.initiators ≤ 256
  pub times : (k : ℕ) → k < length bus.lines → (line_at bus k).time < 2 ^ 40
  pub initiators : (k : ℕ) → k < length bus.lines → initiator_of bus k < length bus.initiators
  pub some : (k : ℕ) → k < length bus.lines → 1 ≤ length_of (line_at bus k).action
  pub short : (k : ℕ) → k < length bus.lines → length_of (line_at bus k).action ≤ 4096
  pub latencies : (t : ℕ) → t < length bus.targets → (target_at bus t).latency < 2 ^ 40
  pub mapped : length bus.map ≡ length bus.targets
  pub numbered : (t : ℕ) → t < length bus.targets → (range_at bus t).target ≡ t
  pub sized : (t : ℕ) → t < length bus.targets → (range_at bus t).size ≡ (target_at bus t).size
