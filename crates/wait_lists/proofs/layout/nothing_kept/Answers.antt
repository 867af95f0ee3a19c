use Rattle.std.proofs.Common.{ap, arith, length}
use Rattle.wait_lists.proofs.Nothing.{nothing-there}
use Rattle.wait_lists.proofs.layout.nothing_kept.Goals as goal

pub returns-clause-sound : goal.returns-clause-sound
returns-clause-sound c = (
  nothing-there c.new.result.entries c.new-2.result.items c.new-3.result.items c.new-4.result.items c.new-5.result.events c.new-5.result.free
      c.new.ensures.empty c.new-2.ensures.items c.new-3.ensures.items c.new-4.ensures.items c.new-5.ensures.near c.new-5.ensures.far c.new-5.ensures.free c.new-5.ensures.heads,
  omega (arith, ap length c.new-2.ensures.items),
)
