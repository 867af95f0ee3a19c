use Rattle.std.proofs.Common.{◌≡◌, drop}
use Rattle.check_actions.specs.ModelRules.Scopes.{with_parameters}
use Rattle.check_statements.specs.Doubled.{in_parameters, place_at}
use Rattle.check_statements.proofs.locals.in_parameters.Given as goal

abbrev pub invariant-loop-parameter : goal.invariant-loop-parameter
invariant-loop-parameter l = record {
  found : in_parameters l.parameters (place_at l.names l.fn.locals) ≡ in_parameters (drop l.parameter-index l.parameters) (place_at l.names l.locals);
  behind : with_parameters (place_at l.names l.fn.locals) l.parameters ≡ with_parameters (place_at l.names l.locals) (drop l.parameter-index l.parameters);
}
