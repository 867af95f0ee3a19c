use Rattle.std.proofs.Common.{◌≡◌, replicate, vec_capacity}
use Rattle.kernel_events.specs.SignalChannel.Drivers.{undriven}
use Rattle.kernel_channels.proofs.wires.first_resolved.Given as goal

abbrev pub invariant-loop : goal.invariant-loop
invariant-loop l = (l.resolved.items ≡ replicate l.counter undriven) × (vec_capacity l.resolved ≡ l.size)
