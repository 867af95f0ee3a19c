use Rattle.std.proofs.Common.{◌≡◌, ◌==◌, length, take}
use Rattle.std.specs.Prelude.{filter}
use Rattle.design_rules.specs.FlatDesign.declared.objects.Binding.{Binding}
use Rattle.binding.specs.Rows.{AreRows}
use Rattle.binding.proofs.links.by_right.Given as goal

abbrev pub invariant-loop-b : goal.invariant-loop-b
invariant-loop-b l = record {
  long : length l.rows ≡ length l.objects.list;
  rows : AreRows (λ i. filter (λ (b : Binding). b.right == i) (take l.b-index l.objects.binds)) l.rows;
}
