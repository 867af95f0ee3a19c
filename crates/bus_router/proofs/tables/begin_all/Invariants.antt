use Rattle.std.proofs.Common.{◌≡◌, ◌+◌}
use Rattle.bus_router.specs.Making.{IsMaking}
use Rattle.bus_router.proofs.tables.begin_all.Given as goal

abbrev pub invariant-loop-i : goal.invariant-loop-i
invariant-loop-i l = record {
  making : IsMaking l.bus l.plan l.i;
  now : l.plan.now ≡ 0;
}

abbrev pub ghost-begin_next : goal.ghost-begin_next
ghost-begin_next a = a.i + 1
