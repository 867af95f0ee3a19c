use Rattle.room_map.specs.Nodes.{height_at}
use Rattle.room_map.proofs.changing.+unlink_below.Given as goal

abbrev pub decreases-unlink_below : goal.decreases-unlink_below
decreases-unlink_below g l = height_at l.nodes.now l.at
