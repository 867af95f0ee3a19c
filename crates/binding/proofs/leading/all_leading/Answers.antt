use Rattle.std.proofs.Common.{◌-◌, get_or, ap, ◌∙◌, arith}
use Rattle.std.proofs.lemmas.List.{length-set}
use Rattle.binding.specs.Leaders.{leading_at, led_through}
use Rattle.binding.proofs.Led.{led_more, led_right, all_led}
use Rattle.binding.proofs.leading.all_leading.Goals as goal

pub loop-k-preserved : goal.loop-k-preserved
loop-k-preserved c =
    let os = c.args.objects.now in
    let order = c.args.order.now in
    let k = c.loop-k.k - 1 in
    let known = c.loop-k.known.items in
    let found = c.through-found.result in
    let is = c.through-found.ensures ∙ ap (λ t. led_through os (leading_at t) c.row.result.now) c.as_slice-in-loop-k.ensures.value ∙ ap (led_through os (leading_at known)) c.row.ensures in
    let right = led_right os c.requires.formed order c.requires.ordered c.args.to.now c.requires.linked known k found (omega arith) (λ m j above. c.loop-k.invariant.so_far m j (omega arith)) is in
    record {
      long = length-set known (get_or order k 0) found ∙ c.loop-k.invariant.long;
      so_far = led_more os c.requires.formed order c.requires.ordered known k found (omega arith) c.loop-k.invariant.long (λ m j above. c.loop-k.invariant.so_far m j (omega arith)) right;
    }

pub returns : goal.returns
returns c =
    all_led c.args.objects.now c.requires.formed c.args.order.now c.requires.ordered c.loop-k.known.items c.loop-k.invariant.long
    (λ m j above. c.loop-k.invariant.so_far m j (omega arith))
