use Rattle.std.proofs.Common.{sym, ap, ◌∙◌, arith}
use Rattle.bus_router.specs.Times.{row_at}
use Rattle.bus_runs.specs.Entries.{is_routed}
use Rattle.bus_runs.proofs.Joined.{kept_more, kept_same}
use Rattle.bus_runs.proofs.hops.routed_of.Goals as goal
use Rattle.bus_runs.proofs.hops.routed_of.Goals.{then-is_routed+in_ok-push, else-is_routed}

pub loop-k-preserved : goal.loop-k-preserved
loop-k-preserved c =
    let test = is_routed (row_at c.args.rows.now) in
    elim c.if-is_routed.branch [
      | then-is_routed+in_ok-push w ↦
          kept_more test c.args.order.now c.loop-k.k-index c.loop-k.ks.items c.if-is_routed.ks.items (omega arith) c.loop-k.invariant
          (sym c.is_routed.ensures ∙ w.if-is_routed.true) (ap (λ (v : _). v.items) w.ks-is ∙ w.in_ok-push.ensures.items)
      | else-is_routed w ↦
          ap (λ (v : _). v.items) w.ks-is
          ∙ kept_same test c.args.order.now c.loop-k.k-index c.loop-k.ks.items (omega arith) c.loop-k.invariant (sym c.is_routed.ensures ∙ w.if-is_routed.false)
    ]
