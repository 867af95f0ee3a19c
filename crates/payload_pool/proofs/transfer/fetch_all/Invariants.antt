use Rattle.std.proofs.Common.{◌≡◌}
use Rattle.payload_pool.proofs.TransferLemmas.{read_up_to}
use Rattle.payload_pool.proofs.transfer.fetch_all.Given as goal

abbrev pub invariant-loop-i : goal.invariant-loop-i
invariant-loop-i l = l.p ≡ read_up_to l.initial.p l.memory l.i
