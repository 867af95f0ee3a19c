use Rattle.std.proofs.Common.{◌≡◌, ◌-◌, ◌≤◌, length, vec_len}
use Rattle.std.specs.Vec.{vec_capacity}
use Rattle.sim_model.specs.Residual.{first_locals}
use Rattle.kernel_bodies.proofs.frames.add_defaults.Given as goal

abbrev pub invariant-loop-values : goal.invariant-loop-values
invariant-loop-values l = record {
  same : first_locals l.values.items l.locals ≡ first_locals l.initial.values.items l.locals;
  capacity : vec_capacity l.initial.values ≤ vec_capacity l.values;
}

abbrev pub decreases-loop-values : goal.decreases-loop-values
decreases-loop-values l = length l.locals - vec_len l.values
