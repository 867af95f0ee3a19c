use Rattle.std.proofs.Common.{◌≡◌, take}
use Rattle.std.specs.List.{flat_map}
use Rattle.design_rules.specs.FlatDesign.declared.objects.Binding.{Binding}
use Rattle.binding.specs.Rows.{row_at}
use Rattle.binding.specs.Ends.{leads}
use Rattle.binding.proofs.ends.through.Given as goal

abbrev pub invariant-loop-b : goal.invariant-loop-b
invariant-loop-b l = l.found ≡ take 65 (flat_map (λ (b : Binding). leads l.objects (row_at l.known) b.right) (take l.b-index l.links))
