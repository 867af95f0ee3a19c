use Rattle.std.proofs.Common.{◌<◌, length, arith}
use Rattle.bus_router.specs.Times.{row_at}
use Rattle.bus_router.proofs.Regions.{left_next}
use Rattle.bus_router.proofs.granting.grants_of.Goals as goal

pub loop-j-preserved : goal.loop-j-preserved
loop-j-preserved c =
    let bus = c.args.bus.now in
    let many = c.requires.many in
    let there : c.loop-j.j < length bus.lines = omega arith in
    left_next bus (row_at c.args.rows.now) c.loop-j.grants c.loop-j.j c.loop-j.invariant there c.grant_left.new.grants c.in_ok-grant_left.ensures
