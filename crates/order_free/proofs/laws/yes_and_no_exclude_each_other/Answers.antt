use Rattle.order_free.proofs.DesignVerdicts.{exclude}
use Rattle.order_free.proofs.laws.yes_and_no_exclude_each_other.Goals as goal

pub returns : goal.returns
returns c = exclude
