use Rattle.std.proofs.Common.{◌≡◌, ◌++◌, map, drop}
use Rattle.exec_data.specs.SimModel.Waiting.{channel_event}
use Rattle.exec_calls.proofs.sensitivity.add_channels.Given as goal

abbrev pub invariant-loop-channel : goal.invariant-loop-channel
invariant-loop-channel l = l.found ++ map (channel_event l.member) (drop l.channel-index l.channels) ≡ l.fn.found ++ map (channel_event l.member) l.channels
