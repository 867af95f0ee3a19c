use Rattle.std.proofs.Common.{◌≤◌, ◌+◌, length, arith}
use Rattle.sim_io.proofs.Chains.{piece_within, piece_grew_on}
use Rattle.sim_io.proofs.transfer.write_all.Goals as goal

pub loop-done-preserved : goal.loop-done-preserved
loop-done-preserved g c =
    let within : c.loop-done.done + c.in-Ok.count ≤ length c.args.piece.now =
    piece_within c.args.piece.now c.loop-done.done c.in-Ok.count c.loop-done.invariant.within c.in-Ok.ensures.bound.1 in
    record {
      bytes = piece_grew_on _ _ _ c.args.piece.now c.loop-done.done c.in-Ok.count within c.loop-done.invariant.bytes c.in-Ok.ensures.bytes;
      within = within;
      later = omega (arith, c.in-Ok.ensures.cause.later);
      untouched = λ none. absurd (omega (arith, c.in-Ok.ensures.bound.0));
    }
