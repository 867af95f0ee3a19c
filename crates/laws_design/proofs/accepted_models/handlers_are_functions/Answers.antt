use Rattle.laws_design.proofs.Handlers.{handlers_stand}
use Rattle.laws_design.proofs.accepted_models.handlers_are_functions.Goals as goal

pub returns : goal.returns
returns c = λ m d clean design. handlers_stand m clean d design
