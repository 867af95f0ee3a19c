use Rattle.signal_channel.proofs.Differences.{differs_exactly, edges_exactly}
use Rattle.signal_channel.proofs.laws.what_differs_is_not_equal.Goals as goal

pub returns-clause-signal : goal.returns-clause-signal
returns-clause-signal c = differs_exactly

pub returns-clause-resolved : goal.returns-clause-resolved
returns-clause-resolved c = edges_exactly
