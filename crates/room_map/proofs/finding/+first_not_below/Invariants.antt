use Rattle.room_map.specs.Nodes.{height_at}
use Rattle.room_map.proofs.finding.+first_not_below.Given as goal

abbrev pub decreases-first_not_below : goal.decreases-first_not_below
decreases-first_not_below g l = height_at l.nodes.now l.at
