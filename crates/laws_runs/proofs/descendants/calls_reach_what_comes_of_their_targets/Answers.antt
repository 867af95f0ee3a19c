use Rattle.laws_runs.proofs.CleanRuns.{clean-after}
use Rattle.laws_runs.proofs.Descends.{only-reached, all-reached, ordered-targets, later-line}
use Rattle.laws_runs.proofs.descendants.calls_reach_what_comes_of_their_targets.Goals as goal

pub returns : goal.returns
returns x = record {
  whom = λ d script n choices c reached p q m.
      let clean = clean-after d script n choices c reached in
      (only-reached c clean q p m, all-reached c clean q p m);
  order = λ d script n choices c reached p q. ordered-targets c (clean-after d script n choices c reached) q p;
  greater = λ d script n choices c reached q m of. later-line c (clean-after d script n choices c reached) q m of;
}
