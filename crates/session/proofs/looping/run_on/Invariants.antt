use Rattle.std.proofs.Common.{◌-◌, ◌≡◌, ◌≤◌, [], drop, length}
use Rattle.sim_io.specs.Keeps.{WriteKeeps}
use Rattle.vcd_trace.specs.SimModel.Configuration.{Config}
use Rattle.kernel_start.specs.KernelState.Kernel.{StandsFor}
use Rattle.laws_reached.specs.Reached.{IsReached}
use Rattle.session.specs.Begun.{IsFirst}
use Rattle.session.specs.Outputs.{AreNames, due_of, outer_of}
use Rattle.session.proofs.Going.{Going}
use Rattle.session.proofs.looping.run_on.Given as goal

-- from every first configuration that the kernel stood for at the start, the session has come so far
abbrev pub invariant-loop-steps : goal.invariant-loop-steps
invariant-loop-steps g l = record {
  within : l.steps ≤ l.budget;
  made : l.k.kernel.made ≤ l.steps;
  in_script : l.place ≤ length l.script;
  none : l.events.items ≡ [];
  faults_later : g.O.Sink.faults l.fn.out ≤ g.O.Sink.faults l.out;
  writes_later : g.S.Shelf.writes l.fn.shelf ≤ g.S.Shelf.writes l.shelf;
  kept : WriteKeeps g.S.Shelf.files g.S.Shelf.reads g.S.Shelf.reading g.S.Shelf.created g.S.Shelf.stands l.fn.shelf l.shelf;
  going : (first : Config) → StandsFor l.initial.k.kernel first → IsFirst first l.script → (r : IsReached first) → r.steps ≡ 0
      → Going l.fn.plan first l.choosing l.choices.items l.steps l.k.kernel (drop l.place l.script) l.tracing (AreNames g.S.Shelf.stands l.fn.shelf l.fn.plan.vcd l.fn.plan.choices)
      (outer_of g.S.Shelf.files g.O.Sink.holds l.fn.shelf l.fn.out) (outer_of g.S.Shelf.files g.O.Sink.holds l.shelf l.out) (due_of l.held);
}

abbrev pub decreases-loop-steps : goal.decreases-loop-steps
decreases-loop-steps g l = l.budget - l.steps
