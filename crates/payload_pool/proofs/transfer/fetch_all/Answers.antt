use Rattle.std.proofs.Common.{◌<◌, length, sym, ap, ◌∙◌, subst, arith}
use Rattle.payload_pool.specs.Transfer.{leaves}
use Rattle.payload_pool.specs.Moves.{after_fetched}
use Rattle.payload_pool.proofs.TransferLemmas.{read-next, length-read, leaves-read}
use Rattle.payload_pool.proofs.transfer.fetch_all.Goals as goal

pub fetch-requires-clause-within : goal.fetch-requires-clause-within
fetch-requires-clause-within c =
    let within : c.loop-i.i < length c.args.p.now.bytes = omega (arith, ap length c.as_slice-i-end.ensures) in
    subst (λ k. c.loop-i.i < k) (sym (ap (λ p. length p.bytes) c.loop-i.invariant ∙ length-read c.args.p.now c.args.memory.now c.loop-i.i within)) within

pub fetch-requires-clause-fits : goal.fetch-requires-clause-fits
fetch-requires-clause-fits c =
    let within : c.loop-i.i < length c.args.p.now.bytes = omega (arith, ap length c.as_slice-i-end.ensures) in
    ap (λ p. leaves p (length c.args.memory.now)) c.loop-i.invariant
    ∙ leaves-read c.args.p.now c.args.memory.now c.loop-i.i (length c.args.memory.now) within ∙ c.requires.fits

pub loop-i-preserved : goal.loop-i-preserved
loop-i-preserved c =
    let within : c.loop-i.i < length c.args.p.now.bytes = omega (arith, ap length c.as_slice-i-end.ensures) in
    c.fetch.ensures ∙ ap (λ p. after_fetched p c.loop-i.i c.args.memory.now) c.loop-i.invariant
    ∙ read-next c.args.p.now c.args.memory.now c.loop-i.i within
