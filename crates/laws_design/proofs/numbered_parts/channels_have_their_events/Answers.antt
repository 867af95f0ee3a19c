use Rattle.laws_design.proofs.Events.{signals_have_events, resolved_have_events, fifos_have_events}
use Rattle.laws_design.proofs.numbered_parts.channels_have_their_events.Goals as goal

pub returns-clause-signals : goal.returns-clause-signals
returns-clause-signals c = λ m d design n p e. signals_have_events m d design n p e

pub returns-clause-resolved : goal.returns-clause-resolved
returns-clause-resolved c = λ m d design n p e. resolved_have_events m d design n p e

pub returns-clause-fifos : goal.returns-clause-fifos
returns-clause-fifos c = λ m d design n p e. fifos_have_events m d design n p e
