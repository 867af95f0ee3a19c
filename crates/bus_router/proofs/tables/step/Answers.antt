use Rattle.std.proofs.Common.{subst, refl, length}
use Rattle.std.specs.Prelude.{MatchOption}
use Rattle.bus_router.specs.Making.{IsOver, IsServing}
use Rattle.bus_router.proofs.Plans.{table_at_last}
use Rattle.bus_router.proofs.tables.step.Goals as goal

pub serve-requires : goal.serve-requires
serve-requires c =
    let bus = c.args.bus.now in
    let n = length bus.initiators in
    let all = c.in_ok-next.ensures.next bus n c.requires.making in
    (c.requires.can, subst (λ o. MatchOption o (IsOver bus c.next.new.plan n) (IsServing bus c.next.new.plan n)) c.in-Some.is all)

pub returns-in-None-clause-goes : goal.returns-in-None-clause-goes
returns-in-None-clause-goes c =
    let bus = c.args.bus.now in
    let n = length bus.initiators in
    let plan = c.next.new.plan in
    let all = c.in_ok-next.ensures.next bus n c.requires.making in
    let over = subst (λ o. MatchOption o (IsOver bus c.next.new.plan n) (IsServing bus c.next.new.plan n)) c.in-None.is all in
    table_at_last bus plan.rows.items plan.busy.items plan.queue plan.due.items plan.place plan.now n over.0 c.requires.can over.1 refl
