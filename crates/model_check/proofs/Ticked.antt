-- A fault of the tree of ticks, as the text is told of it.
use Rattle.std.proofs.Common.{◌≡◌, Option, Some, None, option_map, ap, sym, ◌∙◌}
use Rattle.std.specs.Option.{option_or}
use Rattle.model_tree.specs.Tree as tree
use Rattle.model_tree.specs.Stops.{IfRefused}
use Rattle.model_tree.specs.SimTime.declared.moments.Resolution.{Resolution}
use Rattle.model_tree.specs.declared.faults.CheckStop.{CheckStop}
use Rattle.model_tree.specs.declared.faults.CheckStop.TheVariants as stop
use Rattle.model_tree.specs.declared.faults.Fault.{Fault}
use Rattle.code_rules.specs.ModelRules.Passes.{first_fault}
use Rattle.tick_rules.specs.Sources.{modules_fault, resolution_fault, resolution_of, source_fault, ticked, told_fault}
use Rattle.tick_rules.proofs.Same.{same_ticks, same_fault}

-- one refusal says what another says of it
pub refused_as : (s : CheckStop) (P Q : Fault → Type 0) → ((f : Fault) → P f → Q f) → IfRefused s P → IfRefused s Q
refused_as (stop.Refused f) P Q g h = g f h
refused_as stop.NoMemory P Q g h = tt

passed : {T : Type 0} (o p : Option T) → o ≡ None → option_or o p ≡ p
passed o p e = ap (λ q. option_or q p) e

pub first_counts : {T : Type 0} (o p : Option T) (x : T) → o ≡ Some x → option_or o p ≡ Some x
first_counts o p x e = ap (λ q. option_or q p) e

-- where its resolution is one, the fault of a text is that of its modules
pub of_modules : (s : tree.Source) (r : Resolution) → resolution_fault s.head ≡ None → r.power ≡ (resolution_of s.head).power → source_fault s ≡ modules_fault r s.model
of_modules s r none same = passed (resolution_fault s.head) (modules_fault (resolution_of s.head) s.model) none ∙ sym (same_fault r (resolution_of s.head) s.model same)
