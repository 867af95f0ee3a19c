-- The first unfit time of a tree, and the first time of its tree of ticks that is past the range: they stand at the same construct.
use Rattle.std.proofs.Common.{◌≡◌, ℕ, Bool, true, false, ◌||◌, cond, List, [], ◌∷◌, map, Option, Some, None, option_map, is_some, is_none, Result, Ok, Err, refl, sym, ap, ap₂, ◌∙◌}
use Rattle.std.specs.List.{find, list_any}
use Rattle.std.specs.Option.{option_or}
use Rattle.model_tree.specs.SimTime.Times.{ticks_of}
use Rattle.model_tree.specs.SimTime.declared.moments.Resolution.{Resolution}
use Rattle.model_tree.specs.SimTime.declared.moments.Time.{Time}
use Rattle.model_tree.specs.SimTime.declared.moments.UnitStop.{UnitStop}
use Rattle.model_tree.specs.SimTime.declared.moments.UnitStop.TheVariants as stop
use Rattle.model_tree.specs.Tree as tree
use Rattle.model_tree.specs.declared.types.Span.{Span}
use Rattle.tick_trees.specs.Laws.{retimed_timed, seen, whole}
use Rattle.tick_trees.specs.Ticks.{ticks, ticks_span}
use Rattle.tick_trees.specs.Times.{Timed, times_of}
use Rattle.tick_trees.proofs.Spans.{ticks_seen}
use Rattle.tick_trees.proofs.Times.{of_model}
use Rattle.tick_trees.specs.Unfit.{first, late_by, inexact_by, late, inexact, unfit_in, first_unfit, is_past}
use Rattle.tick_trees.specs.declared.found.Unfit.{Unfit}

abbrev line_of : Option Unfit → Option ℕ
line_of u = option_map (λ (x : Unfit). x.line) u

abbrev lined : ℕ → Bool → Option ℕ
lined line true = Some line
lined line false = None

-- what is found of a list stands on its line

late_line : (line : ℕ) (s : Span) (x : Result Time UnitStop) (rest : Option Unfit) → line_of rest ≡ lined line (is_some rest) → line_of (option_or (late_by line s x) rest) ≡ lined line (is_some (option_or (late_by line s x) rest))
late_line line s (Ok t) rest h = h
late_line line s (Err stop.Inexact) rest h = h
late_line line s (Err stop.Range) rest h = refl

inexact_line : (line : ℕ) (s : Span) (x : Result Time UnitStop) (rest : Option Unfit) → line_of rest ≡ lined line (is_some rest) → line_of (option_or (inexact_by line s x) rest) ≡ lined line (is_some (option_or (inexact_by line s x) rest))
inexact_line line s (Ok t) rest h = h
inexact_line line s (Err stop.Inexact) rest h = refl
inexact_line line s (Err stop.Range) rest h = h

all_inexact : (r : Resolution) (line : ℕ) (ss : List Span) → line_of (first (inexact r line) ss) ≡ lined line (is_some (first (inexact r line) ss))
all_inexact r line [] = refl
all_inexact r line (s ∷ ss) = inexact_line line s (ticks_of s.count s.unit r) (first (inexact r line) ss) (all_inexact r line ss)

or_line : (line : ℕ) (a b : Option Unfit) → line_of a ≡ lined line (is_some a) → line_of b ≡ lined line (is_some b) → line_of (option_or a b) ≡ lined line (is_some (option_or a b))
or_line line None b h g = g
or_line line (Some x) b h g = h

all_late : (r : Resolution) (line : ℕ) (ss : List Span) → line_of (first (late r line) ss) ≡ lined line (is_some (first (late r line) ss))
all_late r line [] = refl
all_late r line (s ∷ ss) = late_line line s (ticks_of s.count s.unit r) (first (late r line) ss) (all_late r line ss)

stands : (r : Resolution) (t : Timed) → line_of (unfit_in r t) ≡ lined t.line (is_some (unfit_in r t))
stands r t = or_line t.line (first (late r t.line) t.spans) (first (inexact r t.line) t.spans) (all_late r t.line t.spans) (all_inexact r t.line t.spans)

-- something is found exactly where a number of resolutions is past the range

by_result : (line : ℕ) (s : Span) (x : Result Time UnitStop) → is_some (option_or (late_by line s x) (inexact_by line s x)) ≡ is_none (whole x)
by_result line s (Ok t) = refl
by_result line s (Err stop.Inexact) = refl
by_result line s (Err stop.Range) = refl

at_span : (r : Resolution) (line : ℕ) (s : Span) → is_some (option_or (late r line s) (inexact r line s)) ≡ is_none (seen (ticks_span r s))
at_span r line s = by_result line s (ticks_of s.count s.unit r) ∙ ap is_none (sym (ticks_seen r s))

sorted : (a b c d : Option Unfit) → is_some (option_or (option_or a b) (option_or c d)) ≡ (is_some (option_or a c) || is_some (option_or b d))
sorted (Some x) b c d = refl
sorted None (Some y) (Some z) d = refl
sorted None (Some y) None d = refl
sorted None None (Some z) d = refl
sorted None None None d = refl

at_spans : (r : Resolution) (line : ℕ) (ss : List Span) → is_some (option_or (first (late r line) ss) (first (inexact r line) ss)) ≡ list_any (λ s. is_none (seen s)) (map (ticks_span r) ss)
at_spans r line [] = refl
at_spans r line (s ∷ ss) =
    sorted (late r line s) (first (late r line) ss) (inexact r line s) (first (inexact r line) ss) ∙ ap₂ (λ a b. a || b) (at_span r line s) (at_spans r line ss)

found : (o : Option Unfit) (b : Bool) (t : Timed) (rest : Option Unfit) (others : Option Timed) → line_of o ≡ lined t.line (is_some o) → is_some o ≡ b → option_map (λ (x : Timed). x.line) others ≡ line_of rest
    → option_map (λ (x : Timed). x.line) (cond b (Some t) others) ≡ line_of (option_or o rest)
found None b t rest others h e is = ap (λ c. option_map (λ (x : Timed). x.line) (cond c (Some t) others)) (sym e) ∙ is
found (Some u) b t rest others h e is = ap (λ c. option_map (λ (x : Timed). x.line) (cond c (Some t) others)) (sym e) ∙ sym h

among : (r : Resolution) (ts : List Timed) → option_map (λ (x : Timed). x.line) (find is_past (map (retimed_timed (ticks_span r)) ts)) ≡ line_of (first (unfit_in r) ts)
among r [] = refl
among r (t ∷ ts) =
    found (unfit_in r t) (is_past (retimed_timed (ticks_span r) t)) (retimed_timed (ticks_span r) t) (first (unfit_in r) ts) (find is_past (map (retimed_timed (ticks_span r)) ts)) (stands r t) (at_spans r t.line t.spans) (among r ts)

pub same_line : (r : Resolution) (m : tree.Model) → option_map (λ (x : Timed). x.line) (find is_past (times_of (ticks r m))) ≡ line_of (first_unfit r m)
same_line r m = ap (λ ts. option_map (λ (x : Timed). x.line) (find is_past ts)) (of_model (ticks_span r) m) ∙ among r (times_of m)
