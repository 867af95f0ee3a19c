use Rattle.laws_reached.proofs.Reaching.{reached-step, reached-taking, step-goes_on, taking-goes_on}
use Rattle.laws_reached.proofs.runs.runs_go_on.Goals as goal

pub returns : goal.returns
returns c = record {
  steps = λ a b r to. reached-step a b r to;
  takings = λ a b p r now to. reached-taking a b p r now to;
  one_step = step-goes_on;
  one_taking = taking-goes_on;
}
