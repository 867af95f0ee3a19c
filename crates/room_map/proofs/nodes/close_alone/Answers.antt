use Rattle.std.proofs.Common.{refl, arith}
use Rattle.room_map.proofs.nodes.close_alone.Goals as goal

pub returns-clause-under : goal.returns-clause-under
returns-clause-under g c = record {
  is_top = refl;
  held = (c.put.ensures.there, tt, tt);
  few = omega (arith, c.put.ensures.changed.long, c.requires.few);
}
