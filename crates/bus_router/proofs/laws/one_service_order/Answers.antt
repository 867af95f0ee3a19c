use Rattle.bus_router.proofs.OneAnswer.{same_service}
use Rattle.bus_router.proofs.laws.one_service_order.Goals as goal

pub returns : goal.returns
returns c = λ bus table home one other first second. same_service bus table home one other first second
