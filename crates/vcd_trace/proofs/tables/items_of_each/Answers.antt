use Rattle.std.proofs.Common.{◌++◌, ◌+◌, ℕ, List, length, drop, ap, ◌∙◌, arith}
use Rattle.laws_runs.specs.SimModel.Trace.{items_from}
use Rattle.vcd_trace.specs.Tables.{row_of}
use Rattle.vcd_trace.proofs.Rows.{as_many, item_added}
use Rattle.vcd_trace.proofs.tables.items_of_each.Goals as goal

pub loop-number-preserved : goal.loop-number-preserved
loop-number-preserved c =
    let rows = c.loop-number.rows.items in
    let objects = c.args.objects.now in
    let i = c.loop-number.number in
    let e = c.in_ok-add_item.ensures in
    let many = c.loop-number.invariant.many in
    record {
      many = ap (λ (x : List (List ℕ)). length x) e ∙ as_many rows _ i ∙ many;
      rows = λ at below.
          ap (λ (x : List (List ℕ)). row_of x at ++ items_from at (i + 1) (drop (i + 1) objects)) e
          ∙ item_added rows objects i c.index-objects-number.result at c.loop-number-test.true (omega (arith, below, many))
          ∙ c.loop-number.invariant.rows at below;
    }
