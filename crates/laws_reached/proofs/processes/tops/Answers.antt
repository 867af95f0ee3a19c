use Rattle.laws_runs.proofs.GoalSteps.{takes-empty}
use Rattle.laws_reached.proofs.Reaching.{clean-reached}
use Rattle.laws_reached.proofs.Standing.{top-is-top, lives-on-top, empty-is-empty, empty-was-empty}
use Rattle.laws_reached.proofs.processes.tops.Goals as goal

pub returns : goal.returns
returns c = record {
  top = top-is-top;
  lives = λ k d h r p rest top. lives-on-top k d h (clean-reached d r) p rest top;
  nobody = λ k d h. (empty-is-empty k d h, empty-was-empty k d h);
  takes = λ k d h now. empty-is-empty k d h (takes-empty d now);
  runnable = λ k d h. h.processes.ready;
}
