use Rattle.std.proofs.Common.{◌≡◌, length, map, take, vec_capacity}
use Rattle.kernel_events.specs.SimModel.Configuration.{first_signal}
use Rattle.kernel_channels.proofs.signals.first_signals.Given as goal

abbrev pub invariant-loop-part : goal.invariant-loop-part
invariant-loop-part l = (l.signals.items ≡ map first_signal (take l.part-index l.parts)) × (vec_capacity l.signals ≡ length l.parts)
