use Rattle.std.proofs.Common.{◌≡◌, replicate}
use Rattle.kernel_transactions.specs.Hops.{nothing_called}
use Rattle.kernel_transactions.proofs.hop_list.idle_hops.Given as goal

abbrev pub invariant-loop-i : goal.invariant-loop-i
invariant-loop-i l = l.hops.items ≡ replicate l._i nothing_called
