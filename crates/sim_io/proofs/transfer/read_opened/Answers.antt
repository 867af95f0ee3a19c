use Rattle.std.proofs.Common.{◌≤◌, ◌+◌, ◌++◌, length, take, arith}
use Rattle.std.proofs.lemmas.Grind.{common_steps}
use Rattle.sim_io.proofs.Chains.{consumes_on}
use Rattle.sim_io.proofs.transfer.read_opened.Goals as goal

pub returns-then-is_err-clause-at_most : goal.returns-then-is_err-clause-at_most
returns-then-is_err-clause-at_most g c =
    let within : length (c.loop-buffer.bytes.items ++ take c.in-Ok.count c.read.new.into) ≤ c.args.limit + 1 = grind (arith, common_steps) in (
      c.loop-buffer.bytes.items ++ take c.in-Ok.count c.read.new.into,
      consumes_on _ _ _ _ _ c.loop-buffer.invariant.taken c.in-Ok.ensures.bytes.0,
      within,
    )
