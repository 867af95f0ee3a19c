-- What a step adds to the snapshots of a run.
use Rattle.std.specs.Prelude.{ℕ, ◌==◌, List, [], ◌∷◌, if◌then◌else◌}
use Rattle.sim_model.specs.Configuration.{Config, Snapshot}
use Rattle.sim_model.specs.Phases.{visible_values}

-- the snapshot of a time with the values that are seen in this configuration
abbrev pub seen_at : ℕ → Config → Snapshot
seen_at t c = record { time = t; values = visible_values c }

-- what a step from c to d adds: nothing where now is as before, and where it moved one snapshot, of the time before; a step that
-- moves now changes no value that is seen
abbrev pub added : Config → Config → List Snapshot
added c d = if d.cycle.now == c.cycle.now then [] else seen_at c.cycle.now d ∷ []
