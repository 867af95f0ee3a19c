-- A resolution counts by its power alone.
use Rattle.std.proofs.Common.{◌≡◌, ℕ, ◌*◌, ◌^◌, List, Option, Some, None, option_map, unwrap_or, Result, refl, ap, ap₂}
use Rattle.std.specs.Prelude.{◌%◌}
use Rattle.std.specs.Option.{option_or}
use Rattle.model_tree.specs.SimTime.Times.{whole_ticks, femtoseconds_in}
use Rattle.model_tree.specs.SimTime.declared.moments.Resolution.{Resolution}
use Rattle.model_tree.specs.SimTime.declared.moments.Time.{Time}
use Rattle.model_tree.specs.SimTime.declared.moments.UnitStop.{UnitStop}
use Rattle.model_tree.specs.Tree as tree
use Rattle.model_tree.specs.declared.types.Span.{Span}
use Rattle.model_tree.specs.declared.faults.Fault.{Fault}
use Rattle.tick_trees.specs.Retimed as retimed
use Rattle.tick_trees.specs.Ticks.{span_of, ticks}
use Rattle.tick_trees.specs.Times.{Timed, times_of}
use Rattle.model_rules.specs.Passes.{first_fault}
use Rattle.tick_trees.specs.Unfit.{first, late_by, inexact_by, first_unfit}
use Rattle.tick_trees.specs.declared.found.Unfit.{Unfit}
use Rattle.tick_rules.specs.Sources.{picosecond, bad_resolution, fault_unless, modules_fault, told_fault}

abbrev power_of : Resolution → ℕ
power_of r = r.power

abbrev ticks_at : ℕ → Span → Result Time UnitStop
ticks_at p s = whole_ticks ((s.count * femtoseconds_in s.unit) % (10 ^ p)) (s.count * femtoseconds_in s.unit) (10 ^ p)

abbrev unfit_at : ℕ → Timed → Option Unfit
unfit_at p t = option_or (first (λ s. late_by t.line s (ticks_at p s)) t.spans) (first (λ s. inexact_by t.line s (ticks_at p s)) t.spans)

pub same_ticks : (q r : Resolution) (m : tree.Model) → q.power ≡ r.power → ticks q m ≡ ticks r m
same_ticks q r m e = ap (λ (p : ℕ). retimed.model (λ s. span_of (ticks_at p s)) m) e

pub same_unfit : (q r : Resolution) (m : tree.Model) → q.power ≡ r.power → first_unfit q m ≡ first_unfit r m
same_unfit q r m e = ap (λ (p : ℕ). first (unfit_at p) (times_of m)) e

pub same_fault : (q r : Resolution) (m : tree.Model) → q.power ≡ r.power → modules_fault q m ≡ modules_fault r m
same_fault q r m e = ap₂ (λ (u : Option Unfit) (n : tree.Model). option_map (told_fault u) (first_fault n)) (same_unfit q r m e) (same_ticks q r m e)

-- what is asked for, or a picosecond
pub found_power : (r : Resolution) (o : Option Resolution) → option_map power_of (Some r) ≡ option_map power_of o → r.power ≡ (unwrap_or o picosecond).power
found_power r None e = cc
found_power r (Some q) e = cc

pub none_power : (p : Resolution) (o : Option Resolution) → p.power ≡ 3 → option_map power_of None ≡ option_map power_of o → p.power ≡ (unwrap_or o picosecond).power
none_power p None is e = is
none_power p (Some q) is e = cc

-- what is a resolution breaks no rule, and what is none does
pub is_one : (r : Resolution) (o : Option Resolution) (line : ℕ) → option_map power_of (Some r) ≡ option_map power_of o → fault_unless o line ≡ None
is_one r None line e = cc
is_one r (Some q) line e = refl

pub is_no_one : (o : Option Resolution) (line : ℕ) → option_map power_of None ≡ option_map power_of o → fault_unless o line ≡ Some (bad_resolution line)
is_no_one None line e = refl
is_no_one (Some q) line e = cc
