use Rattle.parse_actions.proofs.ChannelLaws.{channel_ok, channel_reads}
use Rattle.parse_actions.proofs.channels_exactly.channel_exactly.Goals as goal

pub returns-clause-read : goal.returns-clause-read
returns-clause-read c = channel_reads

pub returns-clause-derived : goal.returns-clause-derived
returns-clause-derived c = λ brackets x ts rest h. channel_ok brackets ts rest x h
