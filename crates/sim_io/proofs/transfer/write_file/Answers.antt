use Rattle.std.proofs.Common.{◌≤◌, ◌+◌, length, take, refl, arith}
use Rattle.sim_io.proofs.Chains.{piece_within, piece_file_on, file_grew_none_on, write_keeps_on}
use Rattle.sim_io.proofs.transfer.write_file.Goals as goal

pub loop-done-preserved : goal.loop-done-preserved
loop-done-preserved g c =
    let within : c.loop-done.done + c.in-Ok.count ≤ length c.args.piece.now =
    piece_within c.args.piece.now c.loop-done.done c.in-Ok.count c.loop-done.invariant.within c.in-Ok.ensures.bound.1 in
    record {
      bytes = λ name stands. piece_file_on name _ _ _ c.args.piece.now c.loop-done.done c.in-Ok.count within
          (c.loop-done.invariant.bytes name stands)
          (c.in-Ok.ensures.bytes name (c.loop-done.invariant.kept.ids.stands c.args.id name stands));
      within = within;
      later = omega (arith, c.in-Ok.ensures.cause.later);
      kept = write_keeps_on _ _ _ _ _ _ _ _ c.loop-done.invariant.kept c.in-Ok.ensures.kept;
      created = c.in-Ok.ensures.kept.ids.created c.args.id c.loop-done.invariant.created;
      untouched = λ none. absurd (omega (arith, c.in-Ok.ensures.bound.0));
    }

pub returns-in-Err-clause-bytes : goal.returns-in-Err-clause-bytes
returns-in-Err-clause-bytes g c = (
  take c.loop-done.done c.args.piece.now,
  λ name stands. file_grew_none_on name _ _ _ _ (c.loop-done.invariant.bytes name stands)
      (c.in-Err.ensures.bytes name (c.loop-done.invariant.kept.ids.stands c.args.id name stands)),
  (c.loop-done.done, c.loop-done-test.true, refl),
)
