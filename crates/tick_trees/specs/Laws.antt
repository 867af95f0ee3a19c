-- What the laws of the tree of ticks speak of.
use Rattle.std.specs.Prelude.{◌*◌, map, Option, Some, None, Result, Ok, Err}
use Rattle.model_tree.specs.SimTime.Times.{time_of, picoseconds_in}
use Rattle.model_tree.specs.SimTime.declared.moments.Time.{Time}
use Rattle.model_tree.specs.SimTime.declared.moments.UnitStop.{UnitStop}
use Rattle.tick_trees.specs.Times.{Timed}
use Rattle.model_tree.specs.declared.types.Span.{Span}

-- the same construct with its times written otherwise
abbrev pub retimed_timed : (Span → Span) → Timed → Timed
retimed_timed f t = record t { spans = map f t.spans }

-- the time that the rules, the code and the design see in a count and its unit
abbrev pub seen : Span → Option Time
seen s = time_of (s.count * picoseconds_in s.unit)

-- the number of resolutions, where there is one
abbrev pub whole : Result Time UnitStop → Option Time
whole (Ok t) = Some t
whole (Err stop) = None
