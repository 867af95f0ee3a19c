use Rattle.tlmsim.proofs.Meaning.{means_if}
use Rattle.tlmsim.proofs.pages.verdict_on.Goals as goal

pub returns-clause-means : goal.returns-clause-means
returns-clause-means c = means_if c.order_does_not_matter.ensures c.args.design.now c.order_free.result c.order_free.ensures
