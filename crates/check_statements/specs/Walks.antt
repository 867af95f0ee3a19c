-- How a walk along a piece of a body ends: with what is found in it, or with nothing and at the place behind it.
use Rattle.std.specs.Prelude.{◌≡◌, Option, Some, None}
use Rattle.model_tree.specs.declared.faults.Fault.{Fault}
use Rattle.check_actions.specs.ModelRules.Scopes.{Scope}
use Rattle.check_actions.specs.CheckExpressions.Findings.{fault_seen}
use Rattle.check_actions.specs.CheckExpressions.declared.findings.Finding.{Finding}

-- what is to be found, the place behind, the place that it ended at, and the answer
abbrev pub Walks : Option Fault → Scope → Scope → Option Finding → Type 0
Walks fault end now None = (fault ≡ None) × (now ≡ end)
Walks fault end now (Some f) = fault ≡ Some (fault_seen f)
