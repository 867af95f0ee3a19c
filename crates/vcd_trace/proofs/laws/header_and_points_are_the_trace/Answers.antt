use Rattle.vcd_trace.proofs.Joined.{all_joined}
use Rattle.vcd_trace.proofs.laws.header_and_points_are_the_trace.Goals as goal

pub returns : goal.returns
returns c = all_joined
