use Rattle.std.proofs.Common.{ap, ◌∙◌, arith}
use Rattle.elaborate_design.specs.Children.{with_child}
use Rattle.elaborate_design.proofs.Entries.{child_added}
use Rattle.elaborate_design.proofs.tables.tables_of.Goals as goal

pub loop-i-preserved : goal.loop-i-preserved
loop-i-preserved c =
    let held = c.loop-i.invariant in
    let from = held.from in
    let more = child_added c.args.objects.now c.loop-i.i c.index-objects-i.result c.loop-i-test.true c.index-objects-i.is c.loop-i.tables.items held.long held.found _
    (c.in_ok-add_child.ensures ∙ ap (λ name. with_child c.loop-i.tables.items c.index-objects-i.result.parent name c.loop-i.i) c.as_slice.ensures) in
    record { from = omega (arith, from); long = more.0; found = more.1 }
