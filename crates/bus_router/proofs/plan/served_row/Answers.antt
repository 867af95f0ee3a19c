use Rattle.std.proofs.Common.{◌≡◌, ℕ, ◌+◌, ◌<◌, false, length, Option, Some, refl, sym, ap, ◌∙◌, subst, arith}
use Rattle.std.specs.Prelude.{MatchOption, max, option_map, slice_index, slice_set}
use Rattle.std.proofs.lemmas.List.{get_or_read}
use Rattle.traffic_file.specs.DmiMap.declared.ranges.TargetRange.{TargetRange}
use Rattle.traffic_file.specs.DmiMap.Ranges.{range_with}
use Rattle.traffic_file.specs.declared.BusLine.{BusLine}
use Rattle.traffic_file.specs.declared.BusTarget.{BusTarget}
use Rattle.traffic_file.specs.Traffic.{target_at, range_of_line}
use Rattle.bus_router.specs.declared.rows.BusRow.{BusRow}
use Rattle.bus_router.specs.Making.{home_row, ServedNowhere, ServedAt}
use Rattle.bus_router.proofs.Held.{home_there}
use Rattle.bus_router.proofs.plan.served_row.Goals as goal

same_row : (delay latency latency' end s : ℕ) (row : BusRow) → s ≡ max row.a end → latency ≡ latency'
    → ◌≡◌ {A = BusRow} (record { b = row.b; a = row.a; s = s; e = s + latency; r = s + latency + delay; direct = false }) (home_row delay latency' end row)
same_row delay latency latency' end s row starts lasts =
    λ i. record { b = row.b; a = row.a; s = starts i; e = starts i + lasts i; r = starts i + lasts i + delay; direct = false }

pub index-requires : goal.index-requires
index-requires c =
    let home_is : range_of_line c.args.bus.now c.args.k ≡ Some c.in-Some.range.now = ap (λ (l : BusLine). range_with l.address c.args.bus.now.map) (sym c.line_at.ensures) ∙ sym c.in-Some.ensures in
    let there = home_there c.args.bus.now c.requires.can c.args.k c.in-Some.range.now home_is in
    let homes = c.requires.homes in
    omega (arith, c.args.busy.now.ok.0)

pub target_at-requires : goal.target_at-requires
target_at-requires c =
    let home_is : range_of_line c.args.bus.now c.args.k ≡ Some c.in-Some.range.now = ap (λ (l : BusLine). range_with l.address c.args.bus.now.map) (sym c.line_at.ensures) ∙ sym c.in-Some.ensures in
    home_there c.args.bus.now c.requires.can c.args.k c.in-Some.range.now home_is

pub index_mut-requires : goal.index_mut-requires
index_mut-requires c =
    let home_is : range_of_line c.args.bus.now c.args.k ≡ Some c.in-Some.range.now = ap (λ (l : BusLine). range_with l.address c.args.bus.now.map) (sym c.line_at.ensures) ∙ sym c.in-Some.ensures in
    let there = home_there c.args.bus.now c.requires.can c.args.k c.in-Some.range.now home_is in
    let homes = c.requires.homes in
    omega (arith, c.args.busy.now.ok.0)

pub overflow_add-result-in-Some : goal.overflow_add-result-in-Some
overflow_add-result-in-Some c =
    let home_is : range_of_line c.args.bus.now c.args.k ≡ Some c.in-Some.range.now = ap (λ (l : BusLine). range_with l.address c.args.bus.now.map) (sym c.line_at.ensures) ∙ sym c.in-Some.ensures in
    let there = home_there c.args.bus.now c.requires.can c.args.k c.in-Some.range.now home_is in
    let homes = c.requires.homes in
    let there' : c.in-Some.range.now.target < length c.args.busy.now.items = omega arith in
    let end = get_or_read c.args.busy.now.items c.in-Some.range.now.target c.index.result.now there' c.index.ensures 0 in
    let early = c.requires.early c.in-Some.range.now.target in
    let low = c.requires.low in
    let starts = c.later_of-s.ensures in
    let lasts = ap (λ (t : BusTarget). t.latency) c.target_at.ensures in
    let latency = c.requires.can.latencies c.in-Some.range.now.target there in
    let delay = c.requires.can.delay in
    omega arith

pub returns-in-Some : goal.returns-in-Some
returns-in-Some c =
    let bus = c.args.bus.now in
    let target = c.in-Some.range.now.target in
    let home_is : range_of_line bus c.args.k ≡ Some c.in-Some.range.now = ap (λ (l : BusLine). range_with l.address bus.map) (sym c.line_at.ensures) ∙ sym c.in-Some.ensures in
    let there = home_there bus c.requires.can c.args.k c.in-Some.range.now home_is in
    let homes = c.requires.homes in
    let there' : target < length c.args.busy.now.items = omega arith in
    let end : c.index.result.now ≡ slice_index c.args.busy.now.items target = get_or_read c.args.busy.now.items target c.index.result.now there' c.index.ensures 0 in
    let starts : c.later_of-s.result ≡ max c.args.row.a (slice_index c.args.busy.now.items target) = c.later_of-s.ensures ∙ ap (λ n. max c.args.row.a n) end in
    let lasts : c.target_at.result.now.latency ≡ (target_at bus target).latency = ap (λ (t : BusTarget). t.latency) c.target_at.ensures in
    let after : BusRow = record { b = c.args.row.b; a = c.args.row.a; s = c.later_of-s.result; e = c.later_of-s.result + c.target_at.result.now.latency; r = c.later_of-s.result + c.target_at.result.now.latency + bus.delay; direct = false } in
    let new = slice_set c.args.busy.now.items target (c.later_of-s.result + c.target_at.result.now.latency) in
    subst (λ (o : Option ℕ). MatchOption o (ServedNowhere bus c.args.row after c.args.busy.now.items new) (ServedAt bus c.args.row after c.args.busy.now.items new))
    (sym (ap (option_map (λ (r : TargetRange). r.target)) home_is))
    (record {
      there = there;
      row = same_row bus.delay c.target_at.result.now.latency (target_at bus target).latency (slice_index c.args.busy.now.items target) c.later_of-s.result c.args.row starts lasts;
      homes = refl;
    })
