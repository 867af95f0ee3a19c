use Rattle.std.proofs.Common.{◌≡◌, [], take, fold}
use Rattle.model_rules.specs.FlatDesign.Code.{arena_of}
use Rattle.code_rules.specs.Tables.{with_block}
use Rattle.code_rules.proofs.tables.table_of.Given as goal

abbrev pub invariant-loop-numbers : goal.invariant-loop-numbers
invariant-loop-numbers l = l.table.items ≡ fold (with_block (arena_of l.code)) [] (take l.numbers-index l.code.blocks)
