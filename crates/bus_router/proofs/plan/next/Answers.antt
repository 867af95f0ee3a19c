use Rattle.std.proofs.Common.{◌<◌, length, sym}
use Rattle.std.proofs.lemmas.Bool.{MatchBool-at_true, MatchBool-at_false}
use Rattle.std.proofs.lemmas.List.{get_or_read}
use Rattle.bus_router.specs.Making.{IsMaking, IsOver}
use Rattle.bus_router.proofs.Plans.{making_serves}
use Rattle.bus_router.proofs.plan.next.Goals as goal

pub returns-then-not-branch-clause-next : goal.returns-then-not-branch-clause-next
returns-then-not-branch-clause-next c = λ bus started making.
    MatchBool-at_false (IsMaking bus c.fill.new.plan started) (IsOver bus c.fill.new.plan started) c.if-not-branch.true (c.in_ok-fill.ensures.fills bus started making)

pub returns-clause-next : goal.returns-clause-next
returns-clause-next c = λ bus started making.
    let plan = c.fill.new.plan in
    let filled = MatchBool-at_true (IsMaking bus c.fill.new.plan started) (IsOver bus c.fill.new.plan started) c.if-not-branch.false (c.in_ok-fill.ensures.fills bus started making) in
    let there : plan.place < length plan.due.items = c.in_ok-fill.ensures.some c.if-not-branch.false in
    let here = get_or_read plan.due.items plan.place c.index-k.result.now there c.index-k.ensures 0 in
    making_serves bus plan.rows.items plan.busy.items plan.queue plan.due.items plan.place plan.now started filled c.index-k.result.now there (sym here)
