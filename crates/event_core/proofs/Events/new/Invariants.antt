use Rattle.std.proofs.Common.{◌≡◌, replicate, vec_capacity}
use Rattle.event_core.specs.declared.notifications.Pending.TheVariants.{Nothing}
use Rattle.event_core.proofs.Events.new.Given as goal

abbrev pub invariant-loop : goal.invariant-loop
invariant-loop l = (l.pending.items ≡ replicate l.counter Nothing) × (vec_capacity l.pending ≡ l.n)
