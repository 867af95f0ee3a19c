-- How the queue is kept: the node of each name, and the wheel of the nodes. No public clause cites this module.
use Rattle.std.specs.Prelude.{◌≡◌, ℕ, ◌≤◌, ◌+◌, ◌^◌, ◌<◌, List, Some, map}
use Rattle.std.specs.Ordering.{nat_cmp}
use Rattle.std.specs.FinMap as maps
use Rattle.std.specs.FinMap.{find}
use Rattle.room_map.specs.Entries.{IsRising}
use Rattle.sim_time.specs.declared.moments.Time.{Time}
use Rattle.timed_queue.specs.declared.chains.Node.{Node}
use Rattle.timed_queue.specs.declared.wheel.Wheel.{Wheel}
use Rattle.timed_queue.specs.Nodes.{IsEntry, name_of, time_of}
use Rattle.timed_queue.specs.Sound.{IsWheel, IsSettled}

abbrev pub time_at : List Node → ℕ → Time
time_at ns i = record { 0 = time_of ns i }

-- each name with the time of its node
abbrev pub timed : List (ℕ × ℕ) → List Node → List (ℕ × Time)
timed es ns = map (λ e. (e.0, time_at ns e.1)) es

abbrev pub times_of : List (ℕ × ℕ) → List Node → maps.FinMap nat_cmp Time
times_of es ns = maps.from_entries (timed es ns)

-- the names rise, each has a node that holds it, and each node that holds an entry is that of its name
pub record IsQueue (es : List (ℕ × ℕ)) (w : Wheel) : Type 0 where
  pub rises : IsRising nat_cmp es
  pub sound : IsWheel w
  pub settled : IsSettled w
  pub found : (q i : ℕ) → find nat_cmp q es ≡ Some i → IsEntry w.nodes.items i × (name_of w.nodes.items i ≡ q)
  pub named : (i : ℕ) → IsEntry w.nodes.items i → find nat_cmp (name_of w.nodes.items i) es ≡ Some i

-- for each entry there is room for its name
pub record HasRoom (room spare entries : ℕ) : Type 0 where
  pub enough : room ≤ spare
  pub few : entries + spare < 2 ^ 32
