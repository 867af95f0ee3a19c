use Rattle.std.proofs.Common.{◌-◌, length}
use Rattle.bus_router.specs.Making.{done_count, IsMaking}
use Rattle.bus_router.proofs.tables.times_of.Given as goal

abbrev pub invariant-loop-plan : goal.invariant-loop-plan
invariant-loop-plan l = IsMaking l.bus l.plan (length l.bus.initiators)

abbrev pub decreases-loop-plan : goal.decreases-loop-plan
decreases-loop-plan l = length l.bus.lines - done_count l.plan.rows.items
