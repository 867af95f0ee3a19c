use Rattle.room_map.specs.Nodes.{height_at}
use Rattle.room_map.proofs.changing.+set_value.Given as goal

abbrev pub decreases-set_value : goal.decreases-set_value
decreases-set_value g l = height_at l.nodes.now l.at
