-- The first time of a tree that is none of a resolution.
use Rattle.std.specs.Prelude.{ℕ, Bool, List, [], ◌∷◌, ◌++◌, Option, Some, None, is_none, Result, Ok, Err}
use Rattle.std.specs.Fmt.{decimal}
use Rattle.std.specs.List.{list_any}
use Rattle.std.specs.Option.{option_or}
use Rattle.model_tree.specs.SimTime.Times.{ticks_of}
use Rattle.model_tree.specs.SimTime.declared.moments.Resolution.{Resolution}
use Rattle.model_tree.specs.SimTime.declared.moments.Time.{Time}
use Rattle.model_tree.specs.SimTime.declared.moments.UnitStop.{UnitStop}
use Rattle.model_tree.specs.SimTime.declared.moments.UnitStop.TheVariants as stop
use Rattle.model_tree.specs.Spelling.{unit_name}
use Rattle.model_tree.specs.Tree as tree
use Rattle.model_tree.specs.declared.types.Span.{Span}
use Rattle.tick_trees.specs.Laws.{seen}
use Rattle.tick_trees.specs.Times.{Timed, times_of}
use Rattle.tick_trees.specs.declared.found.Unfit.{Unfit}

-- the first that is found in a list
abbrev pub first : {A B : Type 0} → (A → Option B) → List A → Option B
first f [] = None
first f (x ∷ xs) = option_or (f x) (first f xs)

abbrev pub unfit : ℕ → Span → UnitStop → Unfit
unfit line s why = record { line = line; span = s; stop = why }

abbrev pub late_by : ℕ → Span → Result Time UnitStop → Option Unfit
late_by line s (Ok t) = None
late_by line s (Err stop.Inexact) = None
late_by line s (Err stop.Range) = Some (unfit line s stop.Range)

abbrev pub inexact_by : ℕ → Span → Result Time UnitStop → Option Unfit
inexact_by line s (Ok t) = None
inexact_by line s (Err stop.Inexact) = Some (unfit line s stop.Inexact)
inexact_by line s (Err stop.Range) = None

-- a time that is 2^64 resolutions or more
abbrev pub late : Resolution → ℕ → Span → Option Unfit
late r line s = late_by line s (ticks_of s.count s.unit r)

-- a time that is no whole number of resolutions
abbrev pub inexact : Resolution → ℕ → Span → Option Unfit
inexact r line s = inexact_by line s (ticks_of s.count s.unit r)

-- at a construct the first that is past the range, and else the first that is inexact
abbrev pub unfit_in : Resolution → Timed → Option Unfit
unfit_in r t = option_or (first (late r t.line) t.spans) (first (inexact r t.line) t.spans)

abbrev pub first_unfit : Resolution → tree.Model → Option Unfit
first_unfit r m = first (unfit_in r) (times_of m)

-- the name that is told of an inexact time: its number in decimal, a space and the unit
abbrev pub told : Span → List ℕ
told s = decimal s.count ++ 32 ∷ unit_name s.unit

-- a construct with a time that the rules do not take for one
abbrev pub is_past : Timed → Bool
is_past t = list_any (λ s. is_none (seen s)) t.spans
