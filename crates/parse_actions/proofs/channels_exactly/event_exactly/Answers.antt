use Rattle.parse_actions.proofs.ChannelLaws.{event_ok, event_reads}
use Rattle.parse_actions.proofs.channels_exactly.event_exactly.Goals as goal

pub returns-clause-read : goal.returns-clause-read
returns-clause-read c = event_reads

pub returns-clause-derived : goal.returns-clause-derived
returns-clause-derived c = λ brackets e ts rest h. event_ok brackets ts rest e h
