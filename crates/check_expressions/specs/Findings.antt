-- Faults as they are found: with a name that stands in the tree.
use Rattle.std.specs.Prelude.{ℕ, Bool, List, Option, option_map}
use Rattle.model_tree.specs.declared.faults.Fault.{Fault}
use Rattle.model_tree.specs.declared.faults.Kind.{Kind}
use Rattle.check_names.specs.ModelRules.Names.{name_if}
use Rattle.check_expressions.specs.declared.findings.Finding.{Finding}

abbrev pub fault_seen : Finding → Fault
fault_seen f = record { kind = f.kind; line = f.line; name = f.name.now }

abbrev pub faults_of : Option Finding → Option Fault
faults_of found = option_map fault_seen found

-- a fault of this kind, line and name, where a rule is broken
abbrev pub told : Kind → ℕ → Option (List ℕ) → Option Fault
told kind line name = option_map (λ n. record { kind = kind; line = line; name = n }) name

abbrev pub told_if : Kind → ℕ → List ℕ → Bool → Option Fault
told_if kind line name is_broken = told kind line (name_if is_broken name)
