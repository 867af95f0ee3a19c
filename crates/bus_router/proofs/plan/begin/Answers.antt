use Rattle.std.proofs.Common.{◌≡◌, ◌↔◌, IsTrue, List, refl, sym, ap, ◌∙◌, subst, true≢false}
use Rattle.std.specs.Prelude.{max, slice_set}
use Rattle.traffic_file.specs.declared.BusLine.{BusLine}
use Rattle.traffic_file.specs.Traffic.{line_at, initiator_of}
use Rattle.bus_router.specs.declared.rows.BusRow.{BusRow}
use Rattle.bus_router.specs.Times.{row_at, IsHeld}
use Rattle.bus_router.specs.Holding.{Premises}
use Rattle.bus_router.proofs.Begins.{premises, returning_waits, returning_direct, room_to_wait, waiting_count, sum_fits}
use Rattle.bus_router.proofs.Plans.{same_making}
use Rattle.bus_router.proofs.plan.begin.Goals as goal

pub returns-then-holds_grant-clause-begins : goal.returns-then-holds_grant-clause-begins
returns-then-holds_grant-clause-begins g c =
    let bus = c.args.bus.now in
    let plan = c.args.plan.now in
    let begins : c.later_of-b.result ≡ max (line_at bus c.args.k).time c.args.back = c.later_of-b.ensures ∙ ap (λ (l : BusLine). max l.time c.args.back) c.line_at.ensures in
    let told : Premises bus (row_at plan.rows.items) c.args.k c.later_of-b.result → (IsTrue c.holds_grant.result ↔ IsHeld bus (row_at plan.rows.items) c.args.k c.later_of-b.result) =
    subst (λ (l : List BusRow). Premises bus (row_at l) c.args.k c.later_of-b.result → (IsTrue c.holds_grant.result ↔ IsHeld bus (row_at l) c.args.k c.later_of-b.result)) c.as_slice.ensures.value c.holds_grant.ensures in
    let is = premises bus c.requires.0 plan.rows.items plan.busy.items plan.queue plan.due.items plan.place plan.now g.started (initiator_of bus c.args.k) c.args.k c.args.back c.requires.1.1 c.requires.1.0 refl c.later_of-b.result begins in
    returning_direct bus c.requires.0 plan.rows.items plan.busy.items plan.queue plan.due.items plan.place plan.now g.started (initiator_of bus c.args.k) c.args.k c.args.back c.requires.1.1 c.requires.1.0 refl c.later_of-b.result begins
    ((told is).0 c.if-holds_grant.true) (slice_set plan.rows.items c.args.k c.at_once.result) (ap (slice_set plan.rows.items c.args.k) c.at_once.ensures)

pub wait-requires-clause-room : goal.wait-requires-clause-room
wait-requires-clause-room g c =
    let plan = c.args.plan.now in
    room_to_wait c.args.bus.now c.requires.0 plan.rows.items plan.busy.items plan.queue plan.due.items plan.place plan.now g.started (initiator_of c.args.bus.now c.args.k) c.args.k c.args.back c.requires.1.1 c.requires.1.0 refl

pub wait-requires-clause-fits : goal.wait-requires-clause-fits
wait-requires-clause-fits g c =
    let bus = c.args.bus.now in
    let plan = c.args.plan.now in
    let begins : c.later_of-b.result ≡ max (line_at bus c.args.k).time c.args.back = c.later_of-b.ensures ∙ ap (λ (l : BusLine). max l.time c.args.back) c.line_at.ensures in
    sum_fits bus c.requires.0 plan.rows.items plan.busy.items plan.queue plan.due.items plan.place plan.now g.started (initiator_of bus c.args.k) c.args.k c.args.back c.requires.1.1 c.requires.1.0 refl c.later_of-b.result begins

pub returns-clause-begins : goal.returns-clause-begins
returns-clause-begins g c =
    let bus = c.args.bus.now in
    let plan = c.args.plan.now in
    let begins : c.later_of-b.result ≡ max (line_at bus c.args.k).time c.args.back = c.later_of-b.ensures ∙ ap (λ (l : BusLine). max l.time c.args.back) c.line_at.ensures in
    let told : Premises bus (row_at plan.rows.items) c.args.k c.later_of-b.result → (IsTrue c.holds_grant.result ↔ IsHeld bus (row_at plan.rows.items) c.args.k c.later_of-b.result) =
    subst (λ (l : List BusRow). Premises bus (row_at l) c.args.k c.later_of-b.result → (IsTrue c.holds_grant.result ↔ IsHeld bus (row_at l) c.args.k c.later_of-b.result)) c.as_slice.ensures.value c.holds_grant.ensures in
    let is = premises bus c.requires.0 plan.rows.items plan.busy.items plan.queue plan.due.items plan.place plan.now g.started (initiator_of bus c.args.k) c.args.k c.args.back c.requires.1.1 c.requires.1.0 refl c.later_of-b.result begins in
    same_making bus c.wait.new.plan.rows.items _ _ _ _ _ _ _ _ _ _ g.started
    (ap (λ v. v.items) c.wait.ensures.busy) c.wait.ensures.queue (ap (λ v. v.items) c.wait.ensures.due) c.wait.ensures.place c.wait.ensures.now
    (returning_waits bus c.requires.0 plan.rows.items plan.busy.items plan.queue plan.due.items plan.place plan.now g.started (initiator_of bus c.args.k) c.args.k c.args.back c.requires.1.1 c.requires.1.0 refl c.later_of-b.result begins
    (λ held. true≢false (sym ((told is).1 held) ∙ c.if-holds_grant.false)) c.wait.new.plan.rows.items c.wait.ensures.rows)

pub returns-clause-more : goal.returns-clause-more
returns-clause-more g c =
    let bus = c.args.bus.now in
    let plan = c.args.plan.now in
    let begins : c.later_of-b.result ≡ max (line_at bus c.args.k).time c.args.back = c.later_of-b.ensures ∙ ap (λ (l : BusLine). max l.time c.args.back) c.line_at.ensures in
    waiting_count bus c.requires.0 plan.rows.items plan.busy.items plan.queue plan.due.items plan.place plan.now g.started (initiator_of bus c.args.k) c.args.k c.args.back c.requires.1.1 c.requires.1.0 refl c.later_of-b.result begins
    c.wait.new.plan.rows.items c.wait.ensures.rows
