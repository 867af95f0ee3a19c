use Rattle.std.proofs.Common.{◌≡◌, take}
use Rattle.code_rules.specs.Tables.{in_functions}
use Rattle.code_rules.proofs.tables.in_functions.Given as goal

abbrev pub invariant-loop-body : goal.invariant-loop-body
invariant-loop-body l = l.most ≡ in_functions l.table (take l.body-index l.bodies)
