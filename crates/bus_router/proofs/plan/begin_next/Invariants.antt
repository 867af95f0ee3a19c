use Rattle.std.proofs.Common.{◌≡◌, ◌≤◌}
use Rattle.bus_router.specs.Making.{done_count, IsReturning}
use Rattle.bus_router.proofs.plan.begin_next.Given as goal

abbrev pub invariant-loop-k : goal.invariant-loop-k
invariant-loop-k g l = record {
  returning : IsReturning l.bus l.plan g.started l.i l.k l.back;
  more : done_count l.fn.plan.rows.items ≤ done_count l.plan.rows.items;
  now : l.plan.now ≡ l.fn.plan.now;
}

abbrev pub ghost-begin : goal.ghost-begin
ghost-begin g a = g.started
