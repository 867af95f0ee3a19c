use Rattle.std.proofs.Common.{◌≡◌, ◌<◌, ◌≤◌, ℕ, length}
use Rattle.std.specs.Prelude.{vec_capacity}
use Rattle.std.specs.List.{All, Contains}
use Rattle.sim_model.specs.EventCore.declared.notifications.Pending.TheVariants as pending
use Rattle.sim_model.specs.EventCore.Notifications.{pending_at}
use Rattle.kernel_events.proofs.deltas.list_anew.Given as goal

abbrev pub invariant-loop-e : goal.invariant-loop-e
invariant-loop-e l = record {
  each : (q : ℕ) → q < l.e → pending_at l.events q ≡ pending.Delta → Contains l.deltas.items q;
  below : All (λ q. q < length l.events) l.deltas.items;
  few : length l.deltas.items ≤ l.e;
  places : length l.events ≤ vec_capacity l.deltas;
}
