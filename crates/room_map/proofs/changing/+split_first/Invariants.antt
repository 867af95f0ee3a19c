use Rattle.room_map.specs.Nodes.{height_at}
use Rattle.room_map.proofs.changing.+split_first.Given as goal

abbrev pub decreases-split_first : goal.decreases-split_first
decreases-split_first g l = height_at l.nodes.now l.at
