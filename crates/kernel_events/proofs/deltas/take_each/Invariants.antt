use Rattle.std.proofs.Common.{◌≡◌, ◌++◌, length, map, drop}
use Rattle.std.specs.Prelude.{vec_capacity}
use Rattle.sim_model.specs.NumberedSlots.Places.{marked_places}
use Rattle.sim_model.specs.Phases.{is_delta, without_pending}
use Rattle.kernel_events.specs.Layout.{HasDeltas}
use Rattle.kernel_events.proofs.deltas.take_each.Given as goal

abbrev pub invariant-loop-e : goal.invariant-loop-e
invariant-loop-e l = record {
  each : HasDeltas l.events (drop l.e-index l.listed);
  size : length l.events ≡ length l.initial.events;
  taken : l.out.items ++ marked_places (map is_delta l.events) ≡ l.initial.out.items ++ marked_places (map is_delta l.initial.events);
  left : map (without_pending is_delta) l.events ≡ map (without_pending is_delta) l.initial.events;
  capacity : vec_capacity l.out ≡ vec_capacity l.initial.out;
}
