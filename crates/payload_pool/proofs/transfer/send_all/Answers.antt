use Rattle.std.proofs.Common.{◌≡◌, ◌+◌, length, sym, ap, subst, arith}
use Rattle.payload_pool.proofs.TransferLemmas.{IsWritten, written-next, written-all}
use Rattle.payload_pool.proofs.transfer.send_all.Goals as goal

pub loop-i-preserved : goal.loop-i-preserved
loop-i-preserved c = subst (IsWritten c.args.p.now c.args.memory.now (c.loop-i.i + 1)) (sym c.send.ensures)
    (written-next c.args.p.now c.args.memory.now c.loop-i.i c.loop-i.memory c.loop-i.invariant)

pub returns : goal.returns
returns c =
    let whole : c.loop-i.i ≡ length c.args.p.now.bytes = omega (arith, ap length c.as_slice-i-end.ensures, c.loop-i.auto.i-end) in
    written-all c.args.p.now c.args.memory.now c.loop-i.memory (subst (λ n. IsWritten c.args.p.now c.args.memory.now n c.loop-i.memory) whole c.loop-i.invariant)
