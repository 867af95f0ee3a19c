-- What judges a whole text, of either language: its resolution, the tree of ticks, which stands for its modules before every rule, and
-- its first fault.
use Rattle.std.proofs.Common.{lit≤}
use Rattle.std.specs.Prelude.{ℕ, ◌==◌, Bool, true, false, if◌then◌else◌, List, [], ◌∷◌, codes, option_map, unwrap_or, Option, Some, None}
use Rattle.std.specs.Option.{option_or}
use Rattle.model_tree.specs.SimTime.declared.moments.Resolution.{Resolution}
use Rattle.model_tree.specs.SimTime.declared.moments.Unit.{Unit as TimeUnit}
use Rattle.model_tree.specs.SimTime.declared.moments.Unit.TheVariants as unit
use Rattle.model_tree.specs.SimTime.declared.moments.UnitStop.{UnitStop}
use Rattle.model_tree.specs.SimTime.declared.moments.UnitStop.TheVariants as stop
use Rattle.model_tree.specs.Tree as tree
use Rattle.model_tree.specs.declared.types.Span.{Span}
use Rattle.model_tree.specs.declared.items.Head.{Head}
use Rattle.model_tree.specs.declared.items.Head.TheVariants as head
use Rattle.model_tree.specs.declared.faults.Fault.{Fault}
use Rattle.model_tree.specs.declared.faults.Kind.{Kind}
use Rattle.model_tree.specs.declared.faults.Kind.TheVariants as kind
use Rattle.model_rules.specs.Passes.{first_fault}
use Rattle.tick_trees.specs.Ticks.{ticks}
use Rattle.tick_trees.specs.Unfit.{first_unfit, told}
use Rattle.tick_trees.specs.declared.found.Unfit.{Unfit}

-- the resolutions: one of a unit, ten of it, and a hundred, of which none is longer than a second

abbrev pub picosecond : Resolution
picosecond = record { power = 3; small = lit≤ tt }

abbrev pub one_of : TimeUnit → Option Resolution
one_of unit.Fs = Some (record { power = 0; small = lit≤ tt })
one_of unit.Ps = Some (record { power = 3; small = lit≤ tt })
one_of unit.Ns = Some (record { power = 6; small = lit≤ tt })
one_of unit.Us = Some (record { power = 9; small = lit≤ tt })
one_of unit.Ms = Some (record { power = 12; small = lit≤ tt })
one_of unit.S = Some (record { power = 15; small = lit≤ tt })

abbrev pub ten_of : TimeUnit → Option Resolution
ten_of unit.Fs = Some (record { power = 1; small = lit≤ tt })
ten_of unit.Ps = Some (record { power = 4; small = lit≤ tt })
ten_of unit.Ns = Some (record { power = 7; small = lit≤ tt })
ten_of unit.Us = Some (record { power = 10; small = lit≤ tt })
ten_of unit.Ms = Some (record { power = 13; small = lit≤ tt })
ten_of unit.S = None

abbrev pub hundred_of : TimeUnit → Option Resolution
hundred_of unit.Fs = Some (record { power = 2; small = lit≤ tt })
hundred_of unit.Ps = Some (record { power = 5; small = lit≤ tt })
hundred_of unit.Ns = Some (record { power = 8; small = lit≤ tt })
hundred_of unit.Us = Some (record { power = 11; small = lit≤ tt })
hundred_of unit.Ms = Some (record { power = 14; small = lit≤ tt })
hundred_of unit.S = None

abbrev pub resolution_in : ℕ → TimeUnit → Option Resolution
resolution_in n u = if n == 1 then one_of u else (if n == 10 then ten_of u else (if n == 100 then hundred_of u else None))

-- what a text asks for, which is a picosecond where it asks for nothing; none where it asks for what is no resolution
abbrev pub asked_in : Head → Option Resolution
asked_in head.First = Some picosecond
asked_in (head.Second None) = Some picosecond
asked_in (head.Second (Some r)) = resolution_in r.span.count r.span.unit

-- the resolution of a text; it is a picosecond, too, where that rule is broken
abbrev pub resolution_of : Head → Resolution
resolution_of h = unwrap_or (asked_in h) picosecond

-- kind 29: the resolution is one of these; else the fault has the line and the name of the word
abbrev pub bad_resolution : ℕ → Fault
bad_resolution line = record { kind = kind.BadResolution; line = line; name = codes "resolution" }

abbrev pub fault_unless : Option Resolution → ℕ → Option Fault
fault_unless (Some r) line = None
fault_unless None line = Some (bad_resolution line)

abbrev pub resolution_fault : Head → Option Fault
resolution_fault head.First = None
resolution_fault (head.Second None) = None
resolution_fault (head.Second (Some r)) = fault_unless (resolution_in r.span.count r.span.unit) r.line

-- the tree of ticks of a whole text: rules, code and design are those of this tree
abbrev pub ticked : tree.Source → tree.Model
ticked s = ticks (resolution_of s.head) s.model

-- kind 30, beside kind 6. A time that is no whole number of resolutions, or 2^64 of them or more, is no time in the tree of ticks, so
-- that the rules tell it as past the range, on its line. It is told as inexact where that is what is wrong with it.

abbrev pub is_literal : Kind → Bool
is_literal kind.LiteralRange = true
is_literal other = false

abbrev pub told_stop : Fault → Span → UnitStop → Fault
told_stop f s stop.Inexact = record { kind = kind.InexactTime; line = f.line; name = told s }
told_stop f s stop.Range = f

abbrev pub told_literal : Fault → Option Unfit → Fault
told_literal f None = f
told_literal f (Some u) = told_stop f u.span u.stop

abbrev pub told_fault : Option Unfit → Fault → Fault
told_fault u f = if is_literal f.kind then told_literal f u else f

-- the first fault of the modules of a text: that of the passes over the tree of ticks, which go in the order of the rules and, in each
-- pass, in text order; the first literal that is none is the first unfit time
abbrev pub modules_fault : Resolution → tree.Model → Option Fault
modules_fault r m = option_map (told_fault (first_unfit r m)) (first_fault (ticks r m))

-- the first fault of a whole text, of the kinds 1 to 22, 29 and 30: that of its resolution comes before all others
abbrev pub source_fault : tree.Source → Option Fault
source_fault s = option_or (resolution_fault s.head) (modules_fault (resolution_of s.head) s.model)
