use Rattle.std.proofs.Common.{◌≡◌, take}
use Rattle.std.specs.List.{fold}
use Rattle.logic_values.specs.declared.kinds.Digit.TheVariants.{Z}
use Rattle.logic_values.specs.LogicTables.{resolved_pair}
use Rattle.logic_values.proofs.tables.resolve.Given as goal

abbrev pub invariant-loop-driver : goal.invariant-loop-driver
invariant-loop-driver l = l.wire ≡ fold resolved_pair Z (take l.driver-index l.drivers)
