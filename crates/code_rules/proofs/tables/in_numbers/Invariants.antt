use Rattle.std.proofs.Common.{◌≡◌, take}
use Rattle.model_rules.specs.FlatDesign.Code.{arena_of}
use Rattle.code_rules.specs.Tables.{in_numbers}
use Rattle.code_rules.proofs.tables.in_numbers.Given as goal

abbrev pub invariant-loop-number : goal.invariant-loop-number
invariant-loop-number l = l.most ≡ in_numbers (arena_of l.code) l.table (take l.number-index l.numbers)
