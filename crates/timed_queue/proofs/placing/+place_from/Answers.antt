use Rattle.std.proofs.Common.{◌≡◌, ◌/◌, ◌-◌, arith}
use Rattle.timed_queue.proofs.PlaceLaws.{place_none, place_here, place_more, place-lt}
use Rattle.timed_queue.proofs.placing.+place_from.Goals as goal

pub returns-then-levels-eq0 : goal.returns-then-levels-eq0
returns-then-levels-eq0 m c = let e = place_none c.args.levels c.args.t c.args.origin (omega arith) in omega (arith, e)

pub returns-then-t-origin : goal.returns-then-t-origin
returns-then-t-origin m c = let e = place_here c.args.levels c.args.t c.args.origin (omega arith) in omega (arith, e)

pub overflow_add-result : goal.overflow_add-result
overflow_add-result m c = let e = place-lt (c.args.levels - 1) (c.args.t / 64) (c.args.origin / 64) in omega (arith, e, c.place_from.ensures)

pub returns : goal.returns
returns m c =
    let e = place_more c.args.levels c.args.t c.args.origin (omega arith) (λ (same : c.args.t / 64 ≡ c.args.origin / 64). omega (arith, same)) in
    omega (arith, e, c.place_from.ensures)
