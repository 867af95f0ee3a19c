use Rattle.std.proofs.Common.{ap, ◌∙◌}
use Rattle.laws_runs.specs.SimModel.Configuration.{Cycle}
use Rattle.laws_reached.proofs.Reaching.{good-reached}
use Rattle.laws_reached.proofs.Fresh.{fresh-processes, fresh-kernel}
use Rattle.laws_reached.proofs.starts.fresh_at_start.Goals as goal

pub returns : goal.returns
returns c = record {
  configuration = λ k d h r now. fresh-kernel k d h (fresh-processes d (good-reached d r) now);
  kernel = λ k d h r now. fresh-kernel k d h (fresh-processes d (good-reached d r) (ap (λ (x : Cycle). x.phase) h.cycle ∙ now));
}
