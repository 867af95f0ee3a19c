use Rattle.laws_design.proofs.FittingHops.{hops_fit}
use Rattle.laws_design.proofs.fitting_fields.hops_fit.Goals as goal

pub returns : goal.returns
returns c = λ m d clean acyclic limits design. hops_fit m clean d design acyclic limits
