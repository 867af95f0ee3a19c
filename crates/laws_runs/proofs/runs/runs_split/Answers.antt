use Rattle.laws_runs.proofs.Splits.{joined, parted, no-more}
use Rattle.laws_runs.proofs.runs.runs_split.Goals as goal

pub returns : goal.returns
returns c = record {
  joined = joined;
  parted = λ n m choices first last h. let g = parted n m choices first last h in (g.own, g.left, g.middle, g.split, g.before, g.behind);
  own = no-more;
}
