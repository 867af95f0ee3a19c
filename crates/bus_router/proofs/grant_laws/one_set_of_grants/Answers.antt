use Rattle.bus_router.proofs.OneSet.{same_grants}
use Rattle.bus_router.proofs.grant_laws.one_set_of_grants.Goals as goal

pub returns : goal.returns
returns c = λ bus table one other first second region. same_grants bus table one other first second region
