use Rattle.design_rules.specs.FlatDesign.declared.objects.Binding.{Binding}
use Rattle.binding.proofs.Linked.{left_within, link_added}
use Rattle.binding.proofs.links.by_left.Goals as goal

pub loop-b-preserved : goal.loop-b-preserved
loop-b-preserved c =
    let os = c.args.objects.now in
    let added = link_added os c.requires (λ (b : Binding). b.left) (left_within os) c.loop-b.rows c.add.new.self c.as_slice-b-items.result.now c.loop-b.b-index c.as_slice-b-items.ensures c.loop-b-test.true c.loop-b.invariant.long c.loop-b.invariant.rows c.in_ok-add.ensures in
    record { long = added.0; rows = added.1 }
