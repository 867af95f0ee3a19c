use Rattle.std.proofs.Common.{length, sym, ap, ◌∙◌, subst}
use Rattle.std.specs.Prelude.{replicate}
use Rattle.traffic_file.specs.declared.BusTarget.{BusTarget}
use Rattle.bus_router.specs.Times.{row_at}
use Rattle.bus_router.specs.Answers.{IsServiceOrder}
use Rattle.bus_router.specs.Serving.{ServedSofar}
use Rattle.bus_router.proofs.Served.{places_of, home_asked, homes_more}
use Rattle.bus_router.proofs.answers.answer_at.Goals as goal

pub serve_all-requires-clause-places : goal.serve_all-requires-clause-places
serve_all-requires-clause-places c =
    let table = row_at c.args.rows.now in
    let order = subst (λ xs. IsServiceOrder c.args.bus.now table c.args.home xs) (sym c.as_slice.ensures.value) c.in_ok-order.ensures in
    places_of c.args.bus.now table c.args.home c.as_slice.result.now order

pub serve_all-requires-clause-asked : goal.serve_all-requires-clause-asked
serve_all-requires-clause-asked c =
    let table = row_at c.args.rows.now in
    let order = subst (λ xs. IsServiceOrder c.args.bus.now table c.args.home xs) (sym c.as_slice.ensures.value) c.in_ok-order.ensures in
    home_asked c.args.bus.now table c.args.payloads.now.items c.args.home c.requires.sofar c.as_slice.result.now order

pub returns : goal.returns
returns c =
    let bus = c.args.bus.now in
    let table = row_at c.args.rows.now in
    let ks = c.as_slice.result.now in
    let order = subst (λ xs. IsServiceOrder bus table c.args.home xs) (sym c.as_slice.ensures.value) c.in_ok-order.ensures in
    let first = c.as_mut_slice.ensures.value ∙ c.in_ok-memory.ensures ∙ ap (λ (t : BusTarget). replicate t.size 0) c.target_at.ensures in
    homes_more bus table c.args.payloads.now.items c.args.home c.requires.sofar c.serve_all.new.payloads.items c.serve_all.new.memory ks order
    (subst (λ m. ServedSofar bus m ks c.args.payloads.now.items c.serve_all.new.payloads.items c.serve_all.new.memory (length ks)) first c.serve_all.ensures)
