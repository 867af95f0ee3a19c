use Rattle.std.proofs.Common.{arith}
use Rattle.bus_router.proofs.Plans.{begins_first}
use Rattle.bus_router.proofs.tables.begin_all.Goals as goal

pub begin_next-requires : goal.begin_next-requires
begin_next-requires c =
    let plan = c.loop-i.plan in (
      c.requires.can,
      (
        omega arith,
        begins_first c.args.bus.now plan.rows.items plan.busy.items plan.queue plan.due.items plan.place plan.now c.loop-i.i c.loop-i.invariant.now c.loop-i.invariant.making,
      ),
    )
