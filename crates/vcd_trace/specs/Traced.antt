-- A trace as far as it is written.
use Rattle.std.specs.Prelude.{◌≡◌, ℕ, List, [], ◌∷◌, ◌++◌, Option, Some, None}
use Rattle.laws_runs.specs.LogicValues.declared.kinds.Value.{Value}
use Rattle.laws_runs.specs.SimModel.Configuration.{Config, Snapshot}
use Rattle.laws_runs.specs.SimModel.Trace.{header, all_values}
use Rattle.vcd_trace.specs.declared.tracing.Tracing.{Tracing}

-- the text of the trace of a run that stands in this configuration: no snapshot of an end is taken yet
abbrev pub trace_so_far : Config → List ℕ
trace_so_far c = header c.design ++ all_values c.trace.snapshots

-- the values of the last snapshot, where there is one
abbrev pub last_seen : List Snapshot → Option (List Value)
last_seen [] = None
last_seen (s ∷ []) = Some s.values
last_seen (s ∷ t ∷ more) = last_seen (t ∷ more)

-- What is kept of a trace is the values of the last of these snapshots.
abbrev pub Keeps : Tracing → List Snapshot → Type 0
Keeps t snapshots = t.last ≡ last_seen snapshots
