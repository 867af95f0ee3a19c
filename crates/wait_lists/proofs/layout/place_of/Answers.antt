use Rattle.std.proofs.Common.{◌≡◌, ◌<◌, Some, length, sym, ap, ◌∙◌, arith}
use Rattle.std.specs.Prelude.{slice_get}
use Rattle.std.specs.Ordering.{nat_cmp}
use Rattle.std.specs.FinMap as map
use Rattle.std.proofs.lemmas.Option.{slice_get-get_or}
use Rattle.wait_lists.specs.Nodes.{shown_of}
use Rattle.wait_lists.proofs.Refit.{shown-at}
use Rattle.wait_lists.proofs.layout.place_of.Goals as goal

pub returns-then-waiter-gt0 : goal.returns-then-waiter-gt0
returns-then-waiter-gt0 c =
    let k = c.args.kept.now in
    let w = c.index-waiter.result.now in
    let inside : c.args.p < length k.waiters.items = omega (arith, c.if-p-len.true, c.len.ensures, k.waiters.ok.0) in
    let here : slice_get k.waiters.items c.args.p ≡ Some w = slice_get-get_or k.waiters.items c.args.p _ inside ∙ ap Some (sym c.index-waiter.ensures) in
    sym (ap (λ q. map.find nat_cmp q k.places.entries) (sym c.if-waiter-p.true)
    ∙ c.requires.0.seats.owned c.args.p (shown_of k.nodes.items w) (shown-at k.nodes.items k.waiters.items c.args.p w here) c.if-waiter-gt0.true)
