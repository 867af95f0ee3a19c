use Rattle.std.proofs.Common.{◌≡◌, [], replicate}
use Rattle.elaborate_design.proofs.tables.no_names.Given as goal

abbrev pub invariant-loop : goal.invariant-loop
invariant-loop l = l.tables.items ≡ replicate l.counter []
