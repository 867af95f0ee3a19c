use Rattle.std.proofs.Common.{◌≡◌, ◌<◌, ℕ, drop, length}
use Rattle.vcd_trace.specs.Tables.{variable_at, variable_of}
use Rattle.vcd_trace.proofs.tables.variables_of_each.Given as goal

abbrev pub invariant-loop-variable : goal.invariant-loop-variable
invariant-loop-variable l = record {
  many : length l.variables.items ≡ l.count;
  found : (i : ℕ) → i < l.count → variable_at l.variables.items i ≡ variable_of i l.variable (drop l.variable l.visible);
}
