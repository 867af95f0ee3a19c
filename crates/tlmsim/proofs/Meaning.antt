-- What a verdict means, by the law on the order of processes.
use Rattle.std.proofs.Common.{Result, Ok, Err}
use Rattle.std.specs.Prelude.{IfOk}
use Rattle.flat_design.specs.declared.design.Design.{Design}
use Rattle.laws_order.specs.OrderFree.Free.{Free, Says}
use Rattle.laws_order.specs.OrderFree.declared.verdicts.Verdict.{Verdict}
use Rattle.laws_order.specs.OrderFree.declared.verdicts.Verdict.TheVariants as verdict
use Rattle.laws_order.specs.AnyOrder.{OrderDoesNotMatter}
use Rattle.tlmsim.specs.Pages.{Means}

means_by : ((d : Design) → Free d → OrderDoesNotMatter d) → (d : Design) (v : Verdict) → Says d v → Means d v
means_by law d verdict.Yes says = law d says
means_by law d (verdict.No rule) says = tt

pub means_if : {E : Type 0} → ((d : Design) → Free d → OrderDoesNotMatter d) → (d : Design) (r : Result Verdict E) → IfOk r (Says d) → IfOk r (Means d)
means_if law d (Ok v) says = means_by law d v says
means_if law d (Err e) says = tt
