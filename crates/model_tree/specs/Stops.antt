-- What a refusal says, where it is one: out of memory says nothing.
use Rattle.std.specs.Prelude.{ℕ, ⊤}
use Rattle.model_tree.specs.declared.faults.Fault.{Fault}
use Rattle.model_tree.specs.declared.faults.CheckStop.{CheckStop}
use Rattle.model_tree.specs.declared.faults.CheckStop.TheVariants as check
use Rattle.model_tree.specs.declared.faults.ParseStop.{ParseStop}
use Rattle.model_tree.specs.declared.faults.ParseStop.TheVariants as parse

-- P of the line, where a text does not read
abbrev pub IfSyntax : ParseStop → (ℕ → Type 0) → Type 0
IfSyntax (parse.Syntax line) P = P line
IfSyntax parse.NoMemory P = ⊤

-- P of the fault, where a rule is broken
abbrev pub IfRefused : CheckStop → (Fault → Type 0) → Type 0
IfRefused (check.Refused fault) P = P fault
IfRefused check.NoMemory P = ⊤
