use Rattle.std.proofs.Common.{◌≡◌, ◌<◌, length, get_or, ap, ◌∙◌, arith}
use Rattle.std.specs.Prelude.{slice_set}
use Rattle.std.specs.Option.{option_map_or}
use Rattle.traffic_file.specs.PayloadPool.declared.payload.Payload.{Payload}
use Rattle.traffic_file.specs.DmiMap.Accesses.{accessed, memory_accessed}
use Rattle.traffic_file.specs.DmiMap.declared.ranges.TargetRange.{TargetRange}
use Rattle.bus_router.specs.Answers.{asked, low_of, payload_at}
use Rattle.bus_router.proofs.AnswerPlaces.{low_reached}
use Rattle.bus_router.proofs.Served.{untouched, served_more}
use Rattle.bus_router.proofs.serving.serve_all.Goals as goal

pub serve-requires-clause-within : goal.serve-requires-clause-within
serve-requires-clause-within c =
    let bus = c.args.bus.now in
    let k = get_or c.args.order.now c.loop-k.k-index 0 in
    let below : c.loop-k.k-index < length c.args.order.now = omega arith in
    let there = c.requires.places.within c.loop-k.k-index below in
    let low : c.low_of.result ≡ low_of bus k = c.low_of.ensures ∙ ap (λ o. option_map_or (λ (r : TargetRange). r.low) o 0) (c.requires.homes.each k there) in
    low_reached bus k c.low_of.result (payload_at c.loop-k.payloads.items k) low
    (untouched bus c.args.memory.now c.args.order.now c.args.payloads.now.items c.requires.places c.requires.asked c.loop-k.payloads.items c.loop-k.memory c.loop-k.k-index c.loop-k.invariant below)

pub loop-k-preserved : goal.loop-k-preserved
loop-k-preserved c =
    let bus = c.args.bus.now in
    let k = get_or c.args.order.now c.loop-k.k-index 0 in
    let payloads = c.loop-k.payloads.items in
    let memory = c.loop-k.memory in
    let below : c.loop-k.k-index < length c.args.order.now = omega arith in
    let there = c.requires.places.within c.loop-k.k-index below in
    let low : c.low_of.result ≡ low_of bus k = c.low_of.ensures ∙ ap (λ o. option_map_or (λ (r : TargetRange). r.low) o 0) (c.requires.homes.each k there) in
    let before : payload_at payloads k ≡ asked bus k = untouched bus c.args.memory.now c.args.order.now c.args.payloads.now.items c.requires.places c.requires.asked payloads memory c.loop-k.k-index c.loop-k.invariant below in
    served_more bus c.args.memory.now c.args.order.now c.args.payloads.now.items c.requires.places c.requires.many payloads c.serve.new.payloads.items memory c.serve.new.memory c.loop-k.k-index c.loop-k.invariant below
    (c.serve.ensures.payloads ∙ ap (λ n. slice_set payloads k (accessed n (payload_at payloads k) memory)) low ∙ ap (λ (p : Payload). slice_set payloads k (accessed (low_of bus k) p memory)) before)
    (c.serve.ensures.memory ∙ ap (λ n. memory_accessed n (payload_at payloads k) memory) low ∙ ap (λ (p : Payload). memory_accessed (low_of bus k) p memory) before)
