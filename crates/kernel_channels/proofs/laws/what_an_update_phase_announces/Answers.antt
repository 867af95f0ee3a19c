use Rattle.kernel_channels.proofs.Telling.{phase_told}
use Rattle.kernel_channels.proofs.laws.what_an_update_phase_announces.Goals as goal

pub returns : goal.returns
returns c = phase_told
