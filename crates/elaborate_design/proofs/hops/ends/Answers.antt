use Rattle.elaborate_objects.specs.DesignRules.declared.bindings.Joined.{Joined}
use Rattle.elaborate_objects.specs.DesignRules.Denoting.{ends_at}
use Rattle.elaborate_design.proofs.Firsts.{firsts_none, firsts_more}
use Rattle.elaborate_design.proofs.hops.ends.Goals as goal

pub loop-number-init : goal.loop-number-init
loop-number-init c =
    let start = firsts_none ends_at c.in_ok-table.table.items c.args.hops.now c.args.count c.in_ok-table.ensures in
    record { long = start.0; first = start.1 }

pub loop-number-preserved : goal.loop-number-preserved
loop-number-preserved c =
    let held = c.loop-number.invariant in
    let more = firsts_more (λ (h : Joined). h.target) c.loop-number.table.items _ c.args.hops.now c.loop-number.number _ c.args.count c.loop-number-test.true held.long held.first c.set_first.ensures in
    record { long = more.0; first = more.1 }
