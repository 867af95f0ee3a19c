use Rattle.exec_events.proofs.Numbered.{sound_numbers}
use Rattle.exec_events.proofs.laws.sound_designs_number_events.Goals as goal

pub returns : goal.returns
returns c d sound few = sound_numbers d sound few
