use Rattle.std.proofs.Common.{◌≡◌, true, Some, refl, sym, ap, ◌∙◌, subst}
use Rattle.traffic_file.specs.DmiMap.Ranges.{range_with}
use Rattle.traffic_file.specs.declared.BusLine.{BusLine}
use Rattle.traffic_file.specs.declared.BusInitiator.{BusInitiator}
use Rattle.traffic_file.specs.Traffic.{line_at, initiator_at, initiator_of, range_of_line}
use Rattle.bus_router.specs.Times.{row_at, HoldsAll}
use Rattle.bus_router.specs.Holding.{LastBrings}
use Rattle.bus_router.proofs.Held.{held_from, left_of_last}
use Rattle.bus_router.proofs.holding.holds_grant.Goals as goal

pub returns-in-Some-last_bringing : goal.returns-in-Some-last_bringing
returns-in-Some-last_bringing c = λ p.
    let bus = c.args.bus.now in
    let table = row_at c.args.rows.now in
    let line = c.line_at-line.ensures in
    let range = c.in-Some.range.now in
    let j = c.in-Some-last_bringing.j in
    let home_is : range_of_line bus c.args.k ≡ Some range = ap (λ (l : BusLine). range_with l.address bus.map) (sym line) ∙ sym c.in-Some.ensures in
    let last : LastBrings bus table range (initiator_of bus c.args.k) c.args.k j =
    subst (λ (l : BusLine). LastBrings bus table range l.initiator c.args.k j) line c.in-Some-last_bringing.ensures.last in
    let keeps : (initiator_at bus (initiator_of bus c.args.k)).dmi ≡ true =
    ap (λ (x : BusInitiator). x.dmi) (ap (λ (l : BusLine). initiator_at bus l.initiator) (sym line) ∙ sym c.initiator_at.ensures) ∙ c.if-not-initiator_at.false in
    let whole : HoldsAll range (line_at bus c.args.k) = subst (λ (l : BusLine). HoldsAll range l) line (c.if-not-holds_all.ensures.0 refl) in (
      λ is. held_from bus c.requires.can c.ranges_are_apart.ensures table p.timed c.args.k c.args.time c.requires.there p.closed p.back range home_is keeps whole j last (c.is_left.ensures.0 is),
      λ held. c.is_left.ensures.1 (left_of_last bus c.requires.can c.ranges_are_apart.ensures table p.timed c.args.k c.args.time c.requires.there p.closed p.back range home_is j last held),
    )
