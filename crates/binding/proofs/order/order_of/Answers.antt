use Rattle.std.proofs.Common.{◌≡◌, subst, sym, ap, ◌∙◌}
use Rattle.std.proofs.lemmas.Result.{IfOk-weaker}
use Rattle.binding.specs.Order.{IsOrder, numbers_of}
use Rattle.binding.proofs.Ranked.{order_from}
use Rattle.binding.proofs.order.order_of.Goals as goal

pub returns : goal.returns
returns c =
    let ordered = order_from c.args.objects.now c.requires c.in_ok-all.all.items c.in_ok-all.ensures.rising c.in_ok-all.ensures.same in
    IfOk-weaker c.numbers.result (λ order. order.items ≡ numbers_of c.as_slice.result.now) (λ order. IsOrder c.args.objects.now order.items)
    (λ order is. subst (IsOrder c.args.objects.now) (sym (is ∙ ap numbers_of c.as_slice.ensures.value)) ordered) c.numbers.ensures
