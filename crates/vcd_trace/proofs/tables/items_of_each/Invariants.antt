use Rattle.std.proofs.Common.{◌≡◌, ◌<◌, ◌++◌, ℕ, drop, length}
use Rattle.laws_runs.specs.SimModel.Trace.{items_from}
use Rattle.vcd_trace.specs.Tables.{row_of}
use Rattle.vcd_trace.proofs.tables.items_of_each.Given as goal

abbrev pub invariant-loop-number : goal.invariant-loop-number
invariant-loop-number l = record {
  many : length l.rows.items ≡ length l.objects;
  rows : (at : ℕ) → at < length l.objects → row_of l.rows.items at ++ items_from at l.number (drop l.number l.objects) ≡ items_from at 0 l.objects;
}
