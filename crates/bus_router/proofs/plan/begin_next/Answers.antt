use Rattle.std.proofs.Common.{◌≡◌, ◌+◌, sym, ap, ◌∙◌, subst, arith}
use Rattle.traffic_file.specs.declared.BusLine.{BusLine}
use Rattle.traffic_file.specs.Traffic.{initiator_of}
use Rattle.bus_router.specs.declared.plan.Plan.{Plan}
use Rattle.bus_router.specs.Making.{done_count, IsReturning}
use Rattle.bus_router.proofs.Begins.{returning_skips}
use Rattle.bus_router.proofs.plan.begin_next.Goals as goal
use Rattle.bus_router.proofs.plan.begin_next.Goals.{then-line_at-i+in-Some, else-line_at-i}

pub loop-k-preserved : goal.loop-k-preserved
loop-k-preserved g c = elim c.if-line_at-i.branch [
  | then-line_at-i+in-Some w ↦
      let bus = c.args.bus.now in
      let is : initiator_of bus c.loop-k.k ≡ c.args.i = sym (ap (λ (l : BusLine). l.initiator) c.line_at.ensures) ∙ w.if-line_at-i.true in
      let count : done_count c.if-line_at-i.plan.rows.items ≡ done_count w.begin.new.plan.rows.items = ap (λ (p : Plan). done_count p.rows.items) w.plan-is in
      let before = c.loop-k.invariant.more in
      let more = w.in-Some.ensures.more in
      record {
        returning = subst (λ (p : Plan). IsReturning bus p g.started c.args.i (c.loop-k.k + 1) c.if-line_at-i.back) (sym w.plan-is)
            (subst (λ n. IsReturning bus w.begin.new.plan g.started c.args.i (c.loop-k.k + 1) n) (sym w.back-is)
            (subst (λ n. IsReturning bus w.begin.new.plan g.started n (c.loop-k.k + 1) w.in-Some.b) is w.in-Some.ensures.begins));
        more = omega arith;
        now = ap (λ (p : Plan). p.now) w.plan-is ∙ w.in-Some.ensures.now ∙ c.loop-k.invariant.now;
      }
  | else-line_at-i w ↦
      let bus = c.args.bus.now in
      let plan = c.loop-k.plan in
      let is = ap (λ (l : BusLine). l.initiator) c.line_at.ensures in
      let count : done_count c.if-line_at-i.plan.rows.items ≡ done_count c.loop-k.plan.rows.items = ap (λ (p : Plan). done_count p.rows.items) w.plan-is in
      let before = c.loop-k.invariant.more in
      record {
        returning = subst (λ (p : Plan). IsReturning bus p g.started c.args.i (c.loop-k.k + 1) c.if-line_at-i.back) (sym w.plan-is)
            (subst (λ n. IsReturning bus c.loop-k.plan g.started c.args.i (c.loop-k.k + 1) n) (sym w.back-is)
            (returning_skips bus c.requires.0 plan.rows.items plan.busy.items plan.queue plan.due.items plan.place plan.now g.started c.args.i c.loop-k.k c.loop-k.back c.loop-k.invariant.returning (λ same. w.if-line_at-i.false (is ∙ same))));
        more = omega arith;
        now = ap (λ (p : Plan). p.now) w.plan-is ∙ c.loop-k.invariant.now;
      }
]
