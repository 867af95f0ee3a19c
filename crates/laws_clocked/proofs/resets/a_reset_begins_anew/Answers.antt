use Rattle.laws_clocked.proofs.Restarting.{begins-anew}
use Rattle.laws_clocked.proofs.resets.a_reset_begins_anew.Goals as goal

pub returns : goal.returns
returns c = begins-anew
