use Rattle.std.proofs.Common.{◌≡◌, ◌++◌, length, drop}
use Rattle.binding.specs.Order.{ranked_from}
use Rattle.binding.proofs.order.all_ranked.Given as goal

abbrev pub invariant-loop-i : goal.invariant-loop-i
invariant-loop-i l =
    l.all.items ++ ranked_from (length l.objects.list) l.i (drop l.i l.objects.list) ≡ ranked_from (length l.objects.list) 0 l.objects.list
