use Rattle.payload_pool.proofs.TransferLemmas.{IsWritten}
use Rattle.payload_pool.proofs.transfer.send_all.Given as goal

abbrev pub invariant-loop-i : goal.invariant-loop-i
invariant-loop-i l = IsWritten l.p l.initial.memory l.i l.memory
