use Rattle.std.proofs.Common.{◌≤◌, length, refl, arith}
use Rattle.bus_router.proofs.Plans.{all_are_back}
use Rattle.bus_router.proofs.plan.fill.Goals as goal

pub returns-in-None-clause-fills : goal.returns-in-None-clause-fills
returns-in-None-clause-fills c = λ bus started making.
    let plan = c.args.plan.now in
    let len = c.len.ensures in
    let past : length plan.due.items ≤ plan.place = omega (arith, plan.due.ok.0) in
    (making, λ k there before. all_are_back bus plan.rows.items plan.busy.items plan.queue plan.due.items plan.place plan.now started making past (c.in-None.ensures.empty.0 refl) k there before)

pub returns-in_ok-take-in-Some-clause-fills : goal.returns-in_ok-take-in-Some-clause-fills
returns-in_ok-take-in-Some-clause-fills c = λ bus started making. c.in_ok-take-in-Some.ensures.making bus started c.in-Some.ensures.least making
