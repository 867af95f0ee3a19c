-- The tree of ticks, of which the rules, the code and the design of a model speak: each time is written as its number of resolutions,
-- with the unit ps. A time that is no whole number of resolutions, or 2^64 of them or more, is written as one that is past the range.
use Rattle.std.specs.Prelude.{Result, Ok, Err}
use Rattle.model_tree.specs.SimTime.Times.{ticks_of}
use Rattle.model_tree.specs.SimTime.declared.moments.Resolution.{Resolution}
use Rattle.model_tree.specs.SimTime.declared.moments.Time.{Time}
use Rattle.model_tree.specs.SimTime.declared.moments.Unit.TheVariants as unit
use Rattle.model_tree.specs.SimTime.declared.moments.UnitStop.{UnitStop}
use Rattle.model_tree.specs.SimTime.declared.moments.UnitStop.TheVariants as stop
use Rattle.model_tree.specs.Tree as tree
use Rattle.tick_trees.specs.Retimed as retimed
use Rattle.tick_trees.specs.Retimed.{span}
use Rattle.model_tree.specs.declared.types.Span.{Span}

-- (2^64 - 1) s: 2^64 picoseconds or more
abbrev pub past_range : Span
past_range = span 18446744073709551615 unit.S

abbrev pub span_of : Result Time UnitStop → Span
span_of (Ok t) = span t.0 unit.Ps
span_of (Err stop.Inexact) = past_range
span_of (Err stop.Range) = past_range

-- a time, as its number of resolutions
abbrev pub ticks_span : Resolution → Span → Span
ticks_span r s = span_of (ticks_of s.count s.unit r)

abbrev pub ticks : Resolution → tree.Model → tree.Model
ticks r m = retimed.model (ticks_span r) m
