use Rattle.std.proofs.Common.{◌≤◌, ◌<◌, ◌-◌, length, get_or, arith}
use Rattle.std.proofs.lemmas.List.{get_or_default}
use Rattle.std.proofs.lemmas.List.Sorted.{all_adjacent_more, IsNonDecreasingBy-from_all_adjacent}
use Rattle.kernel_events.proofs.deltas.is_in_order.Goals as goal

pub loop-k-init : goal.loop-k-init
loop-k-init c = λ j d h. absurd (omega (arith, h))

pub loop-k-preserved : goal.loop-k-preserved
loop-k-preserved c =
    let xs = c.args.listed.now in
    let k = c.loop-k.k in
    let first : 1 ≤ k = omega (arith, c.loop-k.auto.k) in
    let inside : k < length xs = omega (arith, c.loop-k-test.true) in
    let rises : get_or xs (k - 1) 0 ≤ get_or xs k 0 = c.if-here-before.false in
    all_adjacent_more xs (λ x y. x ≤ y) k (omega (arith, first)) c.loop-k.invariant (λ d.
    omega (arith, rises, get_or_default xs (k - 1) d 0 (omega (arith, first, inside)), get_or_default xs k d 0 inside))

pub returns : goal.returns
returns c = λ told.
    let xs = c.args.listed.now in
    let past : length xs ≤ c.loop-k.k = omega (arith, c.loop-k-test.false) in
    IsNonDecreasingBy-from_all_adjacent (λ x. x) xs (λ j d h. c.loop-k.invariant j d (omega (arith, h, past)))
