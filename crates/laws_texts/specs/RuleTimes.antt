-- The times of a construct as the rules see them.
use Rattle.std.specs.Prelude.{ℕ, List, map, Option}
use Rattle.model_tree.specs.SimTime.declared.moments.Time.{Time}
use Rattle.tick_trees.specs.Laws.{seen}
use Rattle.tick_trees.specs.Times.{Timed}

abbrev pub seen_at : Timed → ℕ × List (Option Time)
seen_at t = (t.line, map seen t.spans)
