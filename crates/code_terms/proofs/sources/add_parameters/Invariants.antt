use Rattle.std.proofs.Common.{◌≡◌, ◌++◌, drop}
use Rattle.code_rules.specs.Bodies.{parameter_sources}
use Rattle.code_terms.specs.Sources.{sources_of}
use Rattle.code_terms.proofs.sources.add_parameters.Given as goal

abbrev pub invariant-loop-parameter : goal.invariant-loop-parameter
invariant-loop-parameter l =
    sources_of l.sources.items ++ parameter_sources (drop l.parameter-index l.parameters) ≡ sources_of l.fn.sources.items ++ parameter_sources l.parameters
