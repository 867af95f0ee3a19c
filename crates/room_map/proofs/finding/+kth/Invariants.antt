use Rattle.room_map.specs.Nodes.{height_at}
use Rattle.room_map.proofs.finding.+kth.Given as goal

abbrev pub decreases-kth : goal.decreases-kth
decreases-kth g l = height_at l.nodes.now l.at
