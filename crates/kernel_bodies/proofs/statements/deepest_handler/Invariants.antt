use Rattle.std.proofs.Common.{ℕ, ◌<◌, ◌≤◌, ◌+◌, ◌*◌, length, get_or, map}
use Rattle.sim_model.specs.FlatDesign.declared.code.Handler.{Handler}
use Rattle.kernel_bodies.specs.Depths.{depth_of}
use Rattle.kernel_bodies.proofs.statements.deepest_handler.Given as goal

abbrev pub invariant-loop-handler : goal.invariant-loop-handler
invariant-loop-handler l = record {
  small : l.deepest ≤ 2 * length l.depths;
  deep : (k : ℕ) → k < l.handler-index → depth_of l.depths (get_or (map (λ (h : Handler). h.block) l.handlers) k 0) + 2 ≤ l.deepest;
}
