use Rattle.std.proofs.Common.{ℕ, List, [], ◌∷◌}
use Rattle.vcd_trace.specs.SimModel.Configuration.{Config}
use Rattle.laws_reached.specs.Reached as reached
use Rattle.laws_reached.specs.Reached.{IsReached}
use Rattle.session.specs.Begun.{OneOn}
use Rattle.session.proofs.laws.sound_runs_go_on.Goals as goal

one_on : (c d : Config) (r : IsReached c) (own : List ℕ) → reached.GoesOn c d r own → OneOn c d r
one_on c d r own g = record { next = g.next; steps = g.steps }

pub returns : goal.returns
returns c = record {
  steps = λ x y r is. one_on x y r [] (c.runs_go_on.ensures.one_step x y r is);
  keeps = c.designs_stay.ensures.steps;
  takings = λ x y p r is taken. one_on x y r (p ∷ []) (c.runs_go_on.ensures.one_taking x y p r is taken);
  takings_keep = c.designs_stay.ensures.takings;
  sees = c.steps_add_snapshots.ensures;
  takings_see = c.takings_add_none.ensures.snapshots;
  once = c.runnable_once.ensures;
}
