use Rattle.std.proofs.Common.{◌≡◌, drop}
use Rattle.check_statements.specs.ModelRules.Scopes.{with_parameters}
use Rattle.check_statements.specs.CheckNames.Places.{scope_of}
use Rattle.check_items.specs.Whole.{in_parameters}
use Rattle.check_items.proofs.items.in_parameters.Given as goal

abbrev pub invariant-loop-parameter : goal.invariant-loop-parameter
invariant-loop-parameter l = record {
  found : in_parameters l.parameters (scope_of l.fn.place) ≡ in_parameters (drop l.parameter-index l.parameters) (scope_of l.place);
  behind : with_parameters (scope_of l.fn.place) l.parameters ≡ with_parameters (scope_of l.place) (drop l.parameter-index l.parameters);
}
