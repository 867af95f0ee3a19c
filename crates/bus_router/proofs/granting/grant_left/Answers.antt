use Rattle.bus_router.proofs.Found.{found_fits}
use Rattle.bus_router.proofs.granting.grant_left.Goals as goal

pub grant-requires-clause-within : goal.grant-requires-clause-within
grant-requires-clause-within c =
    found_fits c.line_at-line.result.now.address c.args.bus.now.map c.in-Some.range.now c.ranges_are_apart.ensures.each c.in-Some.ensures
