use Rattle.bus_router.proofs.OneAnswer.{same_answers}
use Rattle.bus_router.proofs.laws.one_list_of_answers.Goals as goal

pub returns : goal.returns
returns c = λ bus table one other can first second. same_answers bus table one other can first second
