use Rattle.std.proofs.Common.{◌≡◌, ◌++◌, map, drop}
use Rattle.elaborate_objects.specs.DesignRules.Statics.{channel_event}
use Rattle.elaborate_design.proofs.processes.add_channels.Given as goal

abbrev pub invariant-loop-channel : goal.invariant-loop-channel
invariant-loop-channel l = l.found ++ map (channel_event l.event) (drop l.channel-index l.channels) ≡ l.fn.found ++ map (channel_event l.event) l.channels
