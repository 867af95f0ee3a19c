use Rattle.std.proofs.Common.{◌≡◌, ◌+◌, sym, ap, subst, arith}
use Rattle.std.specs.Prelude.{slice_set}
use Rattle.std.proofs.lemmas.List.{get_or_read}
use Rattle.traffic_file.specs.declared.BusLine.{BusLine}
use Rattle.bus_router.specs.declared.rows.BusRow.{BusRow}
use Rattle.bus_router.specs.Times.{row_at}
use Rattle.bus_router.specs.Making.{IsServedNow, Returning}
use Rattle.bus_router.proofs.Bounds.{no_row}
use Rattle.bus_router.proofs.Serves.{served_there, serving_ends, end_below, limit_low}
use Rattle.bus_router.proofs.plan.serve.Goals as goal

pub served_row-row-requires-clause-early : goal.served_row-row-requires-clause-early
served_row-row-requires-clause-early g c = λ home.
    let plan = c.args.plan.now in
    let low = limit_low c.args.bus.now c.requires.0 plan.rows.items plan.busy.items plan.queue plan.due.items plan.place plan.now g.started c.args.k c.requires.1 in
    let below = end_below c.args.bus.now c.requires.0 plan.rows.items plan.busy.items plan.queue plan.due.items plan.place plan.now g.started c.args.k c.requires.1 home in
    omega arith

pub begin_next-requires : goal.begin_next-requires
begin_next-requires g c =
    let bus = c.args.bus.now in
    let plan = c.args.plan.now in
    let there = served_there bus c.requires.0 plan.rows.items plan.busy.items plan.queue plan.due.items plan.place plan.now g.started c.args.k c.requires.1 in
    let many = c.requires.1.parts.many in
    let row : c.index.result.now ≡ row_at plan.rows.items c.args.k = get_or_read plan.rows.items c.args.k c.index.result.now (omega arith) c.index.ensures no_row in
    let served = subst (λ (r : BusRow). IsServedNow bus c.args.k r c.served_row-row.result plan.busy.items c.served_row-row.new.busy.items) row c.served_row-row.ensures in (
      c.requires.0,
      (
        omega arith,
        subst (λ n. Returning bus (slice_set plan.rows.items c.args.k c.served_row-row.result) c.served_row-row.new.busy.items plan.queue plan.due.items plan.place plan.now g.started n (c.args.k + 1) c.served_row-row.result.r)
            (sym (ap (λ (l : BusLine). l.initiator) c.line_at.ensures))
            (serving_ends bus c.requires.0 plan.rows.items plan.busy.items plan.queue plan.due.items plan.place plan.now g.started c.args.k c.requires.1 c.served_row-row.result c.served_row-row.new.busy.items served),
      ),
    )
