use Rattle.transport_phases.proofs.EnterLemmas.{open_row}
use Rattle.transport_phases.proofs.laws.open_calls_have_rows.Goals as goal

pub returns : goal.returns
returns c = open_row
