use Rattle.room_map.specs.Nodes.{height_at}
use Rattle.room_map.proofs.changing.+with_entry_below.Given as goal

abbrev pub decreases-with_entry_below : goal.decreases-with_entry_below
decreases-with_entry_below g l = height_at l.nodes.now l.at
