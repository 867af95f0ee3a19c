use Rattle.std.proofs.Common.{◌≡◌, drop}
use Rattle.code_rules.specs.ModelRules.Scopes.{with_parameters}
use Rattle.check_reach.specs.CheckNames.Places.{scope_of}
use Rattle.model_check.proofs.bodies.declare_parameters.Given as goal

abbrev pub invariant-loop-parameter : goal.invariant-loop-parameter
invariant-loop-parameter l = with_parameters (scope_of l.place) (drop l.parameter-index l.parameters) ≡ with_parameters (scope_of l.fn.place) l.parameters
